-- What the call did to the target, it did to the reference.
use Rattle.std.proofs.Common.{refl}
use Rattle.no_std_io2_base.proofs.CursorLemmas.{stream_len_through}
use Rattle.no_std_io2_base.proofs.impls.mut_references.RefMutSeek.stream_len.Goals as goal

pub returns : goal.returns
returns g c = record {
  law = stream_len_through (λ v. record c.args.self.now { now = v }) (
      record {
        store = λ x. refl;
        may = λ x y call did. record { part = y; rest = refl; does = did };
        sound = λ x is. is;
        stays = λ x is. is;
      }
      ) c.stream_len.ensures.law;
}

-- What the call did to the object, it did to the reference.
use Rattle.std.proofs.Common.{refl}
use Rattle.no_std_io2_base.proofs.CursorLemmas.{stream_len_through}
use Rattle.no_std_io2_base.proofs.impls.dyn_references.RefMutDynSeekSeek.stream_len.Goals as goal

pub returns : goal.returns
returns g c = record {
  law = stream_len_through (λ v. record c.args.self.now { now = (c.args.self.now.now.0, v) })
      (record { store = λ x. refl; may = λ x y call may. (y, refl, may); sound = λ x is. is; stays = λ x is. is }) c.stream_len.ensures;
}

-- What the call did to the inner reader, it did to this one.
use Rattle.std.proofs.Common.{refl}
use Rattle.no_std_io2.proofs.Forwards.{read_full_through}
use Rattle.rows_play.proofs.noted.NotedRead.read_full.Goals as goal

pub returns : goal.returns
returns g c = record {
  law = read_full_through (λ v. record c.args.self.now { inner = v }) (record {
    told = λ x. refl;
    may = λ x y call may. record { part = y; rest = refl; does = may };
    held = λ x. refl;
  }) c.read_full.ensures.law;
}

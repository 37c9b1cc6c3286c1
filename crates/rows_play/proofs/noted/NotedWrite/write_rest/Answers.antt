-- What the call did to the inner writer, it did to this one.
use Rattle.std.proofs.Common.{refl}
use Rattle.no_std_io2.proofs.Forwards.{write_rest_through}
use Rattle.rows_play.proofs.noted.NotedWrite.write_rest.Goals as goal

pub returns : goal.returns
returns g c = record {
  law = write_rest_through (λ v. record c.args.self.now { inner = v })
      (λ x y call may. record { part = y; rest = refl; does = may }) c.write_rest.ensures.law;
}

-- What the call did to the object, it did to the reference.
use Rattle.std.proofs.Common.{refl}
use Rattle.no_std_io2_base.proofs.Forwards.{exact_through}
use Rattle.no_std_io2_base.proofs.impls.dyn_references.RefMutDynReadRead.read_exact.Goals as goal

pub returns : goal.returns
returns g c = record {
  law = exact_through (λ v. record c.args.self.now { now = (c.args.self.now.now.0, v) })
      (record { told = λ x. refl; may = λ x y call may. (y, refl, may); held = λ x. refl }) c.read_exact.ensures;
}

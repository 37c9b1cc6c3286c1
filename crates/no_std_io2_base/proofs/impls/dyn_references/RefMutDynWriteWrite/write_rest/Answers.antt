-- What the call did to the object, it did to the reference.
use Rattle.std.proofs.Common.{refl}
use Rattle.no_std_io2_base.proofs.Forwards.{write_rest_through}
use Rattle.no_std_io2_base.proofs.impls.dyn_references.RefMutDynWriteWrite.write_rest.Goals as goal

pub returns : goal.returns
returns g c = record {
  law = write_rest_through (λ v. record c.args.self.now { now = (c.args.self.now.now.0, v) })
      (λ a b call did. (b, refl, did)) c.write_rest.ensures;
}

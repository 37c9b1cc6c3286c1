-- What the calls did to the reader, they did to the object, and each of them keeps the reference.
use Rattle.std.proofs.Common.{refl}
use Rattle.no_std_io2_base.proofs.Forwards.{drained_through, calls_keep, keeps_name, behind_did}
use Rattle.no_std_io2_base.proofs.impls.dyn_read_to_end.drain_by_read.Goals as goal

pub returns : goal.returns
returns g c = record {
  reference = calls_keep _ (λ r. r.object.ghost_name) (λ a b call did. keeps_name a.object b.object call did)
      c.read_to_end.ensures.law.calls;
  law = drained_through (λ r. r.object.now)
      (record { told = λ x. refl; may = λ x y call did. behind_did x.object y.object call did; held = λ x. refl })
      c.read_to_end.ensures.law;
}

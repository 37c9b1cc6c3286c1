-- What the call did to the value in the box, it did to the box.
use Rattle.std.proofs.Common.{rules}
use Rattle.no_std_io2_base.{proofs.Forwards.{lent_call}, specs.Calls.{Flushed}}
use Rattle.no_std_io2_base.proofs.impls.dyn_boxes.BoxDynWriteDropWrite.flush.Goals as goal

pub returns : goal.returns
returns g c = record {
  law = lent_call (goal.Write-dyn g) c.args.self.now (Flushed c.flush.result)
      c.deref_box_mut-1.result.now (search rules) c.flush.new.self c.flush.ensures;
}

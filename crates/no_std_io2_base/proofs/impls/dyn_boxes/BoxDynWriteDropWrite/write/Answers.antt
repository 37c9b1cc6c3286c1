-- What the call did to the value in the box, it did to the box.
use Rattle.std.proofs.Common.{rules}
use Rattle.no_std_io2_base.{proofs.Forwards.{lent_call}, specs.Calls.{Wrote}}
use Rattle.no_std_io2_base.proofs.impls.dyn_boxes.BoxDynWriteDropWrite.write.Goals as goal

pub returns : goal.returns
returns g c = record {
  law = lent_call (goal.Write-dyn g) c.args.self.now (Wrote c.args.buf.now c.write.result)
      c.deref_box_mut-1.result.now (search rules) c.write.new.self c.write.ensures;
}

-- What the call did to the value in the box, it did to the box.
use Rattle.std.proofs.Common.{rules}
use Rattle.no_std_io2_base.proofs.Forwards.{write_all_box}
use Rattle.no_std_io2_base.proofs.impls.dyn_boxes.BoxDynWriteDropWrite.write_all.Goals as goal

pub returns : goal.returns
returns g c = record {
  law = write_all_box (goal.Write-dyn g) c.args.self.now c.args.buf.now c.write_all.result c.deref_box_mut-1.result.now
      (search rules) c.write_all.new.self c.write_all.ensures;
}

-- What the call did to the value in the box, it did to the box.
use Rattle.std.proofs.Common.{rules}
use Rattle.no_std_io2_base.proofs.Forwards.{write_rest_box}
use Rattle.no_std_io2_base.proofs.impls.dyn_boxes.BoxDynWriteDropWrite.write_rest.Goals as goal

pub returns : goal.returns
returns g c = record {
  law = write_rest_box (goal.Write-dyn g) c.args.self.now c.args.rest.now.now c.write_rest.new.rest.now c.write_rest.result
      c.deref_box_mut-1.result.now (search rules) c.write_rest.new.self c.write_rest.ensures;
}

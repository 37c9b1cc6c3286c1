-- What the call did to the value in the box, it did to the box.
use Rattle.std.proofs.Common.{refl}
use Rattle.no_std_io2_base.proofs.Forwards.{line_through}
use Rattle.no_std_io2_base.proofs.impls.boxes.BoxBufRead.read_line.Goals as goal

pub returns : goal.returns
returns g c = record {
  law = line_through (λ v. record c.args.self.now { value = v }) (record { told = λ x. refl; may = λ x y call may. may; held = λ x. refl })
      (rw c.as_mut.ensures.value at c.read_line.ensures.law);
}

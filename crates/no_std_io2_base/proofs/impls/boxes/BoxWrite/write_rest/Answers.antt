-- What the call did to the value in the box, it did to the box.
use Rattle.no_std_io2_base.proofs.Forwards.{write_rest_through}
use Rattle.no_std_io2_base.proofs.impls.boxes.BoxWrite.write_rest.Goals as goal

pub returns : goal.returns
returns g c =
    let put = λ (v : g.row.W.Denot). record c.args.self.now { value = v } in
    record { law = write_rest_through put (λ a b call did. did) (rw c.as_mut.ensures.value at c.write_rest.ensures.law) }

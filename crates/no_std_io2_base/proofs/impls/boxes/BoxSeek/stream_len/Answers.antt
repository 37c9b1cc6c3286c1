-- What the call did to the value in the box, it did to the box.
use Rattle.std.proofs.Common.{refl}
use Rattle.no_std_io2_base.proofs.CursorLemmas.{stream_len_through}
use Rattle.no_std_io2_base.proofs.impls.boxes.BoxSeek.stream_len.Goals as goal

pub returns : goal.returns
returns g c = record {
  law = stream_len_through (λ v. record c.args.self.now { value = v })
      (record { store = λ x. refl; may = λ x y call may. may; sound = λ x is. is; stays = λ x is. is })
      (rw c.as_mut.ensures.value at c.stream_len.ensures.law);
}

-- What was appended is a front of the slice, and the rest stays.
use Rattle.std.proofs.{Common.{Ok, Err, refl, arith, ap, ◌∙◌, append-nil, ◌++◌, length}, lemmas.Result.{err_from_is_err_and}}
use Rattle.no_std_io2_base.proofs.InMemoryReads.{takes_left, memory_drained}
use Rattle.no_std_io2_base.proofs.impls.slices.RefSliceU8Read.read_to_end.Goals as goal

pub returns-in_err-append_rest : goal.returns-in_err-append_rest
returns-in_err-append_rest g c =
    let p = err_from_is_err_and c.from_residual.result c.from_residual.ensures.1 in
    let said = c.in_err-append_rest.ensures in
    let moved = said.part.moved in
    rw (p.1, p.2) (record {
      law = memory_drained {left = λ s. s.now} (record { split = moved.1; takes = takes_left _ moved.0 _ moved.1; told = refl }) (Err _)
          moved.2 tt (said.part.refused, said.part.full) said.part.grows (moved.1, tt);
    })

pub returns : goal.returns
returns g c =
    let said = c.in_ok-append_rest.ensures in
    let moved = said.part.moved in
    let whole = ap length (moved.1 ∙ ap (λ l. moved.0 ++ l) said.done ∙ append-nil moved.0) in
    record {
      law = memory_drained {left = λ s. s.now} (record { split = moved.1; takes = takes_left _ moved.0 _ moved.1; told = refl }) (Ok _)
          moved.2 (omega (arith, whole), said.done) tt said.part.grows (moved.1, said.done);
    }

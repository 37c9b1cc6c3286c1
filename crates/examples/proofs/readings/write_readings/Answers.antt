-- One line more, or an error inside a line, is joined to the lines before by a lemma, which the search does not try.
use Rattle.no_std_io2.proofs.{Words.{inl, inr, ⊎_elim, returned_err}, MovesLemmas.{MovesFront-next, MovesFront-stop}}
use Rattle.examples.specs.Readings.{reading}
use Rattle.examples.proofs.readings.write_readings.Goals as goal

pub values-preserved : goal.values-preserved
values-preserved g c = ⊎_elim
    (MovesFront-next (reading c.args.name.now) c.args.values.now c.values.value-index 0 c.values-test.true c.values.invariant)
    (λ no. absurd no) c.in_ok-write_reading.ensures.line

pub returns-in_err-write_reading : goal.returns-in_err-write_reading
returns-in_err-write_reading g c =
    let stop = MovesFront-stop (reading c.args.name.now) c.args.values.now c.values.value-index 0 c.values-test.true c.values.invariant in
    rw (returned_err c.from_residual.ensures)
    (record { lines = ⊎_elim (λ moves. inl (stop moves)) inr c.in_err-write_reading.ensures.line })

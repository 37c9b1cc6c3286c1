-- The prover does not choose which call ended it.
use Rattle.no_std_io2.proofs.Words.{returned_err}
use Rattle.record_log.specs.Opening.{failed_start, failed_read, failed_end, failed_place, opened}
use Rattle.record_log.proofs.opening.open.Goals as goal

pub returns-in_err-seek-clause-calls : goal.returns-in_err-seek-clause-calls
returns-in_err-seek-clause-calls g c = rw (returned_err c.from_residual.ensures) (failed_start c.in_err-seek.ensures.law)

pub returns-in_err-end-clause-calls : goal.returns-in_err-end-clause-calls
returns-in_err-end-clause-calls g c = rw (returned_err c.from_residual-in_err-end.ensures)
    (failed_read _ c.in_ok-seek.ensures.law c.in_err-end.ensures.fetches)

pub returns-in_err-len-clause-calls : goal.returns-in_err-len-clause-calls
returns-in_err-len-clause-calls g c = rw (returned_err c.from_residual-in_err-len.ensures)
    (failed_end _ _ c.in_ok-seek.ensures.law c.in_ok-end.ensures.fetches.1 c.in_err-len.ensures.law)

pub returns-in_err-seek-2-clause-calls : goal.returns-in_err-seek-2-clause-calls
returns-in_err-seek-2-clause-calls g c = rw (returned_err c.from_residual-in_err-seek-2.ensures) (failed_place _ _ _ _
    c.in_ok-seek.ensures.law c.in_ok-end.ensures.fetches.1 c.in_ok-len.ensures.law c.in_err-seek-2.ensures.law)

pub returns-clause-calls : goal.returns-clause-calls
returns-clause-calls g c = opened _ _ _ _
    c.in_ok-seek.ensures.law c.in_ok-end.ensures.fetches.1 c.in_ok-len.ensures.law c.in_ok-seek-2.ensures.law c.saturating_sub-torn.ensures

-- The prover does not join one record to those before it.
use Rattle.no_std_io2.proofs.Words.{arith, returned_err}
use Rattle.record_log.proofs.PieceLemmas.{some_then, passed_more}
use Rattle.record_log.proofs.opening.pass_records.Goals as goal

pub returns-in_err-n-clause-fetches : goal.returns-in_err-n-clause-fetches
returns-in_err-n-clause-fetches g c =
    rw (returned_err c.from_residual.ensures) (some_then c.records.invariant.fetches c.in_err-n.ensures.fetches)

pub returns-clause-fetches : goal.returns-clause-fetches
returns-clause-fetches g c =
    let last = rw c.in_default.is at c.in_ok-n.ensures.fetches in (last.0, some_then c.records.invariant.fetches last.1)

pub records-preserved : goal.records-preserved
records-preserved g c = record {
  some_room = omega (arith, c.pass_record.auto.room, c.records.invariant.some_room);
  fetches = some_then c.records.invariant.fetches (rw c.in-Some.is at c.in_ok-n.ensures.fetches);
  known = λ bytes told fits.
      let so_far = c.records.invariant.known bytes told fits in
      let next = rw c.in-Some.is at (c.in_ok-n.ensures.known so_far.rest so_far.still).1 in
      passed_more bytes _ _ _ so_far fits next (λ few. omega (arith, few, c.saturating_add-end.ensures));
}

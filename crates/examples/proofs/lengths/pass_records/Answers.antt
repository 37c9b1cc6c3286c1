-- What a `fill_buf` did is known only when its borrow ends, and each path joins that with the records so far.
use Rattle.no_std_io2.proofs.{Words.{sym, ◌∙◌, returned_err}, TextLemmas.{is_empty, not_empty}, PieceLoops.{filled_law}}
use Rattle.examples.proofs.RecordLemmas.{records_none, records_waited, records_end, records_fault, records_more, records_cut}
use Rattle.examples.proofs.lengths.pass_records.Goals as goal

pub records-init : goal.records-init
records-init g c = records_none _ _

pub returns-then-is_empty : goal.returns-then-is_empty
returns-then-is_empty g c =
    let filled = filled_law c.in-Ok.is c.fill_buf.ensures.law c.fill_buf.follows.holds-at-none in
    records_end c.records.invariant (rw (is_empty _ _ c.is_empty.ensures c.if-is_empty.true) at filled)

pub returns-in_err-skip-in-Ok : goal.returns-in_err-skip-in-Ok
returns-in_err-skip-in-Ok g c =
    let filled = filled_law c.in-Ok.is c.fill_buf.ensures.law c.fill_buf.follows.holds-at-none in
    let some = not_empty _ _ c.is_empty.ensures c.if-is_empty.false in
    rw (returned_err c.from_residual.ensures)
    (records_cut c.records.invariant filled some c.from-left.ensures c.consume.ensures.law c.in_err-skip-in-Ok.ensures)

pub returns-in-Err-2 : goal.returns-in-Err-2
returns-in-Err-2 g c =
    let filled = filled_law c.in-Err.is c.fill_buf.ensures.law c.fill_buf.follows.holds-at-none in
    records_fault c.records.invariant filled (sym c.is_interrupted.ensures ∙ c.if-is_interrupted.false)

pub records-preserved-in-Continue-1 : goal.records-preserved-in-Continue-1
records-preserved-in-Continue-1 g c =
    let filled = filled_law c.in-Ok.is c.fill_buf.ensures.law c.fill_buf.follows.holds-at-none in
    let some = not_empty _ _ c.is_empty.ensures c.if-is_empty.false in
    records_more c.records.invariant filled some c.from-left.ensures c.consume.ensures.law c.in_ok-skip-in-Ok.ensures

pub records-preserved : goal.records-preserved
records-preserved g c =
    let filled = filled_law c.in-Err.is c.fill_buf.ensures.law c.fill_buf.follows.holds-at-none in
    records_waited c.records.invariant filled (sym c.is_interrupted.ensures ∙ c.if-is_interrupted.true)

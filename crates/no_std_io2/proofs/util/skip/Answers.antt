-- The ways through the loop, by their lemmas: the search does not join the two facts of a lending call, as `filled_law` does.
use Rattle.no_std_io2.proofs.Words.{arith, common_steps, ◌∙◌, sym}
use Rattle.no_std_io2_base.proofs.PieceLoops.{filled_law, portions_waited, portions_took, portion_spends, skip_faults, skip_ends}
use Rattle.no_std_io2_base.proofs.TextLemmas.{not_empty, is_empty}
use Rattle.no_std_io2.proofs.util.skip.Goals as goal

pub returns-then-is_empty : goal.returns-then-is_empty
returns-then-is_empty g c =
    let filled = filled_law c.in-Ok.is c.fill_buf.ensures.law c.fill_buf.follows.holds-at-none in
    skip_ends c.pieces.invariant c.pieces-test.true filled (is_empty _ _ c.is_empty.ensures c.if-is_empty.true) c.failed_to_fill.ensures

pub pieces-preserved-in-Ok : goal.pieces-preserved-in-Ok
pieces-preserved-in-Ok g c =
    let filled = filled_law c.in-Ok.is c.fill_buf.ensures.law c.fill_buf.follows.holds-at-none in
    portions_took c.pieces.invariant c.pieces-test.true filled c.consume.ensures.law
    (not_empty _ _ c.is_empty.ensures c.if-is_empty.false) c.min-len.ensures

pub pieces-smaller-in-Ok : goal.pieces-smaller-in-Ok
pieces-smaller-in-Ok g c = grind (arith, common_steps, filled_law, portion_spends, not_empty, is_empty)

pub pieces-preserved : goal.pieces-preserved
pieces-preserved g c =
    let filled = filled_law c.in-Err.is c.fill_buf.ensures.law c.fill_buf.follows.holds-at-none in
    portions_waited c.pieces.invariant c.pieces-test.true filled (sym c.is_interrupted.ensures ∙ c.if-is_interrupted.true)

pub returns-in-Err-2 : goal.returns-in-Err-2
returns-in-Err-2 g c =
    let filled = filled_law c.in-Err.is c.fill_buf.ensures.law c.fill_buf.follows.holds-at-none in
    skip_faults c.pieces.invariant c.pieces-test.true filled (sym c.is_interrupted.ensures ∙ c.if-is_interrupted.false)

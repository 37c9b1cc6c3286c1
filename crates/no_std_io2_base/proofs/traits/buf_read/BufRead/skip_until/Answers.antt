-- Each exit of the loop, by the lemmas of loops that skip a piece.
use Rattle.std.proofs.Common.{◌∙◌, sym}
use Rattle.no_std_io2_base.proofs.PieceLoops.{filled_law, skip_interruption, skip_fault, skip_more, skip_piece}
use Rattle.no_std_io2_base.proofs.traits.buf_read.BufRead.skip_until.Goals as goal

pub returns-then-is_whole : goal.returns-then-is_whole
returns-then-is_whole g c =
    let filled = filled_law c.in-Ok.is c.fill_buf.ensures.law c.fill_buf.follows.holds-at-none in
    record {
      law = skip_piece c.pieces.invariant filled c.find_piece-len.ensures c.consume.ensures.law c.saturating_add-skipped.ensures
          c.if-is_whole.true;
    }

pub pieces-preserved-else-is_whole : goal.pieces-preserved-else-is_whole
pieces-preserved-else-is_whole g c =
    let filled = filled_law c.in-Ok.is c.fill_buf.ensures.law c.fill_buf.follows.holds-at-none in
    skip_more c.pieces.invariant filled c.find_piece-len.ensures c.consume.ensures.law c.saturating_add-skipped.ensures c.if-is_whole.false

pub pieces-preserved : goal.pieces-preserved
pieces-preserved g c =
    let filled = filled_law c.in-Err.is c.fill_buf.ensures.law c.fill_buf.follows.holds-at-none in
    skip_interruption c.pieces.invariant filled (sym c.is_interrupted.ensures ∙ c.if-is_interrupted.true)

pub returns-in-Err-2 : goal.returns-in-Err-2
returns-in-Err-2 g c =
    let filled = filled_law c.in-Err.is c.fill_buf.ensures.law c.fill_buf.follows.holds-at-none in
    record { law = skip_fault c.pieces.invariant filled (sym c.is_interrupted.ensures ∙ c.if-is_interrupted.false) }

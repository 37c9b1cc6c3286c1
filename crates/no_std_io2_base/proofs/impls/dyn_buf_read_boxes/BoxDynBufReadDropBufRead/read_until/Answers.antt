-- The loop and each of its exits, by the lemmas of loops that take a piece.
use Rattle.std.proofs.{Common.{◌∙◌, sym}, lemmas.Result.{err_from_is_err_and}}
use Rattle.no_std_io2_base.proofs.PieceLoops.{filled_law, until_none, until_interruption, until_fault, until_refused, until_more}
use Rattle.no_std_io2_base.proofs.PieceLoops.{until_whole}
use Rattle.no_std_io2_base.proofs.impls.dyn_buf_read_boxes.BoxDynBufReadDropBufRead.read_until.Goals as goal

pub pieces-init : goal.pieces-init
pieces-init g c = until_none

pub returns-then-is_whole : goal.returns-then-is_whole
returns-then-is_whole g c =
    let filled = filled_law c.in-Ok.is c.fill_buf.ensures.law c.fill_buf.follows.holds-at-none in
    record {
      law = until_whole c.pieces.invariant filled c.find_piece-len.ensures c.append.ensures.grows c.consume.ensures.law
          c.in_ok-append-in-Ok.ensures.ok c.if-is_whole.true c.len-start.ensures c.len.ensures;
    }

pub pieces-preserved-else-is_whole : goal.pieces-preserved-else-is_whole
pieces-preserved-else-is_whole g c =
    let filled = filled_law c.in-Ok.is c.fill_buf.ensures.law c.fill_buf.follows.holds-at-none in
    until_more c.pieces.invariant filled c.find_piece-len.ensures c.append.ensures.grows c.consume.ensures.law
    c.in_ok-append-in-Ok.ensures.ok c.if-is_whole.false

pub pieces-preserved : goal.pieces-preserved
pieces-preserved g c =
    let filled = filled_law c.in-Err.is c.fill_buf.ensures.law c.fill_buf.follows.holds-at-none in
    until_interruption c.pieces.invariant filled (sym c.is_interrupted.ensures ∙ c.if-is_interrupted.true)

pub returns-in-Err-2 : goal.returns-in-Err-2
returns-in-Err-2 g c =
    let filled = filled_law c.in-Err.is c.fill_buf.ensures.law c.fill_buf.follows.holds-at-none in
    record { law = until_fault c.pieces.invariant filled (sym c.is_interrupted.ensures ∙ c.if-is_interrupted.false) }

pub returns-in_err-append-in-Ok : goal.returns-in_err-append-in-Ok
returns-in_err-append-in-Ok g c =
    let p = err_from_is_err_and c.from_residual.result c.from_residual.ensures.1 in
    let filled = filled_law c.in-Ok.is c.fill_buf.ensures.law c.fill_buf.follows.holds-at-none in
    let said = c.in_err-append-in-Ok.ensures in
    rw (p.1, p.2) (record {
      law = until_refused c.pieces.invariant filled c.find_piece-len.ensures c.append.ensures.grows said.refused said.err said.full;
    })

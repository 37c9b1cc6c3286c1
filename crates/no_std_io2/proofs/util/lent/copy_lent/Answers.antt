-- The account of the loop goes on with each piece, and the calls of a reader that lends are told by `filled_law`, which no search finds.
use Rattle.no_std_io2.proofs.Words.{◌∙◌, sym, refl}
use Rattle.no_std_io2_base.proofs.{PieceLoops.{filled_law}, TextLemmas.{not_empty, is_empty}}
use Rattle.no_std_io2.proofs.CopyLentLoop.{lent_nothing, lent_again, lent_faulted, lent_ended, lent_refused, lent_more}
use Rattle.no_std_io2.proofs.util.lent.copy_lent.Goals as goal

pub pieces-init : goal.pieces-init
pieces-init g c = lent_nothing

pub returns-then-is_empty : goal.returns-then-is_empty
returns-then-is_empty g c =
    let filled = filled_law c.in-Ok.is c.fill_buf.ensures.law c.fill_buf.follows.holds-at-none in
    lent_ended c.pieces.invariant (rw (is_empty _ _ c.is_empty.ensures c.if-is_empty.true) at filled)

pub returns-in-Err-write_all : goal.returns-in-Err-write_all
returns-in-Err-write_all g c =
    let filled = filled_law c.in-Ok.is c.fill_buf.ensures.law c.fill_buf.follows.holds-at-none in
    lent_refused c.pieces.invariant filled (not_empty _ _ c.is_empty.ensures c.if-is_empty.false) c.in-Err-write_all.ensures.law

pub pieces-preserved-in-Ok-write_all : goal.pieces-preserved-in-Ok-write_all
pieces-preserved-in-Ok-write_all g c =
    let filled = filled_law c.in-Ok.is c.fill_buf.ensures.law c.fill_buf.follows.holds-at-none in
    lent_more c.pieces.invariant filled (not_empty _ _ c.is_empty.ensures c.if-is_empty.false) refl c.consume.ensures.law
    c.in-Ok-write_all.ensures.law c.saturating_add-copied.ensures

pub pieces-preserved : goal.pieces-preserved
pieces-preserved g c =
    let filled = filled_law c.in-Err.is c.fill_buf.ensures.law c.fill_buf.follows.holds-at-none in
    lent_again c.pieces.invariant filled (sym c.is_interrupted.ensures ∙ c.if-is_interrupted.true)

pub returns-in-Err-2 : goal.returns-in-Err-2
returns-in-Err-2 g c =
    let filled = filled_law c.in-Err.is c.fill_buf.ensures.law c.fill_buf.follows.holds-at-none in
    lent_faulted c.pieces.invariant filled (sym c.is_interrupted.ensures ∙ c.if-is_interrupted.false)

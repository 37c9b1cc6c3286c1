-- The ways through the loop, by their lemmas: the search builds no record of what was moved so far.
use Rattle.no_std_io2.proofs.{Words.{◌∙◌, refl, sym}, CopyLoop.{copy_none, copy_again, copy_more, copy_ended, copy_faulted, copy_refused}}
use Rattle.no_std_io2.proofs.util.sides.copy_with.Goals as goal

pub reads-init : goal.reads-init
reads-init g c = copy_none refl

pub reads-preserved : goal.reads-preserved
reads-preserved g c =
    copy_again c.reads.invariant (c.read.auto.buf ∙ c.reads.invariant.long) c.in-Err.ensures.law
    (sym c.is_interrupted.ensures ∙ c.if-is_interrupted.true)

pub reads-preserved-in-Ok-write_all : goal.reads-preserved-in-Ok-write_all
reads-preserved-in-Ok-write_all g c =
    copy_more c.reads.invariant (c.read.auto.buf ∙ c.reads.invariant.long) c.in-Ok.ensures.law c.in-Ok.n-test.1
    c.in-Ok-write_all.ensures.law c.saturating_add-copied.ensures

pub returns-in-Ok-eq0 : goal.returns-in-Ok-eq0
returns-in-Ok-eq0 g c =
    let before = c.reads.invariant in
    copy_ended before (c.read.auto.buf ∙ before.long) c.read.ensures.law c.in-Ok-eq0.is c.in-Ok-eq0.field-0-test

-- the reader's fault
pub returns-in-Err-2 : goal.returns-in-Err-2
returns-in-Err-2 g c =
    let before = c.reads.invariant in
    copy_faulted before (c.read.auto.buf ∙ before.long) c.in-Err.ensures.law (sym c.is_interrupted.ensures ∙ c.if-is_interrupted.false)

-- the writer's fault
pub returns-in-Err-write_all : goal.returns-in-Err-write_all
returns-in-Err-write_all g c =
    let before = c.reads.invariant in
    copy_refused before (c.read.auto.buf ∙ before.long) c.in-Ok.ensures.law c.in-Ok.n-test.1 c.in-Err-write_all.ensures.law

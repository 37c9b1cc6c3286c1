-- The loop, as the trait's, and after each of its ends the inner reads, which no search finds.
use Rattle.no_std_io2.proofs.{Words.{Ok, Err, sym, ◌∙◌}, BufReaderThrough.{full_through}}
use Rattle.no_std_io2_base.proofs.ReadLoops.{full_none, full_read, full_interruption, full_end, full_fault, full_all, length_is_kept}
use Rattle.no_std_io2_base.proofs.TakesLemmas.{read_spends}
use Rattle.no_std_io2.proofs.buffered.buf_reader.reads.BufReaderRead.read_full.Goals as goal

pub reads-init : goal.reads-init
reads-init g c = full_none

pub returns-in-Ok-eq0 : goal.returns-in-Ok-eq0
returns-in-Ok-eq0 g c =
    let law = full_end c.reads.invariant c.reads-test.true _ c.read.auto.buf c.read.ensures.law c.in-Ok-eq0.is c.in-Ok-eq0.field-0-test in
    record { law = law; through = full_through (Ok _) law (length_is_kept c.reads.invariant c.reads-test.true _ c.read.auto.buf) }

pub reads-preserved-in-Ok : goal.reads-preserved-in-Ok
reads-preserved-in-Ok g c = full_read c.reads.invariant c.reads-test.true _ c.read.auto.buf c.in-Ok.ensures.law c.in-Ok.n-test.1

pub returns-in-Err-2 : goal.returns-in-Err-2
returns-in-Err-2 g c =
    let law = full_fault c.reads.invariant c.reads-test.true _ c.read.auto.buf c.in-Err.ensures.law
    (sym c.is_interrupted.ensures ∙ c.if-is_interrupted.false) in
    record { law = law; through = full_through (Err _) law (length_is_kept c.reads.invariant c.reads-test.true _ c.read.auto.buf) }

pub reads-preserved : goal.reads-preserved
reads-preserved g c =
    full_interruption c.reads.invariant c.reads-test.true _ c.read.auto.buf c.in-Err.ensures.law
    (sym c.is_interrupted.ensures ∙ c.if-is_interrupted.true)

pub reads-smaller-in-Ok : goal.reads-smaller-in-Ok
reads-smaller-in-Ok g c = read_spends c.in-Ok.ensures.law c.in-Ok.n-test.1

pub returns : goal.returns
returns g c =
    let law = full_all c.reads.invariant c.reads-test.false in
    record { law = law; through = full_through (Ok _) law c.reads.invariant.long }

-- The loop and each of its exits, by the lemmas of loops that fill a buffer.
use Rattle.std.proofs.{Common.{sym, ◌∙◌, arith}, lemmas.Grind.{common_steps}}
use Rattle.no_std_io2_base.proofs.ReadLoops.{exact_end, exact_fault, full_none, full_read, full_interruption, full_end, full_fault}
use Rattle.no_std_io2_base.proofs.{ReadLoops.{length_is_kept, full_all, exact_all}, TakesLemmas.{read_spends}}
use Rattle.no_std_io2_base.proofs.traits.read.Read.read_exact.Goals as goal

pub reads-init : goal.reads-init
reads-init g c = full_none

pub returns-in-Ok-eq0 : goal.returns-in-Ok-eq0
returns-in-Ok-eq0 g c =
    let so_far = c.reads.invariant in
    let long = length_is_kept so_far c.reads-test.true _ c.read.auto.buf in
    let full = full_end so_far c.reads-test.true _ c.read.auto.buf c.read.ensures.law c.in-Ok-eq0.is c.in-Ok-eq0.field-0-test in
    record { law = exact_end long full (omega (arith, c.reads-test.true, long, so_far.long)) c.failed_to_fill.ensures }

pub returns : goal.returns
returns g c = grind (arith, common_steps, full_all, exact_all)

pub reads-preserved-in-Ok : goal.reads-preserved-in-Ok
reads-preserved-in-Ok g c = full_read c.reads.invariant c.reads-test.true _ c.read.auto.buf c.in-Ok.ensures.law c.in-Ok.n-test.1

pub returns-in-Err-2 : goal.returns-in-Err-2
returns-in-Err-2 g c =
    let so_far = c.reads.invariant in
    let full = full_fault so_far c.reads-test.true _ c.read.auto.buf c.in-Err.ensures.law
    (sym c.is_interrupted.ensures ∙ c.if-is_interrupted.false) in
    record { law = exact_fault (length_is_kept so_far c.reads-test.true _ c.read.auto.buf) full }

pub reads-preserved : goal.reads-preserved
reads-preserved g c =
    full_interruption c.reads.invariant c.reads-test.true _ c.read.auto.buf c.in-Err.ensures.law
    (sym c.is_interrupted.ensures ∙ c.if-is_interrupted.true)

pub reads-smaller-in-Ok : goal.reads-smaller-in-Ok
reads-smaller-in-Ok g c = read_spends c.in-Ok.ensures.law c.in-Ok.n-test.1

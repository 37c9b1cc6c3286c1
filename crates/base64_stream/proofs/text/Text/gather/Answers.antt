-- Reads that go on until a group is whole: after each read, and at the three ends.
use Rattle.no_std_io2.proofs.{Words.{sym, ◌∙◌, arith}, FillToLemmas.{spends_more}}
use Rattle.base64_stream.proofs.GatherLemmas.{gathered_none, gathered_more, gathered_again, gathers_fault, gathers_end, gathers_enough}
use Rattle.base64_stream.proofs.text.Text.gather.Goals as goal

pub reads-init : goal.reads-init
reads-init g c = gathered_none _ _

pub reads-preserved-in-Ok : goal.reads-preserved-in-Ok
reads-preserved-in-Ok g c = gathered_more c.reads.invariant (omega arith) c.in-Ok.ensures c.in-Ok.field-0-test.1

pub reads-preserved : goal.reads-preserved
reads-preserved g c =
    gathered_again c.reads.invariant (omega arith) c.in-Err.ensures (sym c.is_interrupted.ensures ∙ c.if-is_interrupted.true)

pub reads-smaller-in-Ok : goal.reads-smaller-in-Ok
reads-smaller-in-Ok g c = spends_more c.in-Ok.ensures c.in-Ok.field-0-test.1

pub returns-in-Err-2 : goal.returns-in-Err-2
returns-in-Err-2 g c =
    gathers_fault c.reads.invariant (omega arith) c.in-Err.ensures (sym c.is_interrupted.ensures ∙ c.if-is_interrupted.false)

pub returns-in-Ok-eq0 : goal.returns-in-Ok-eq0
returns-in-Ok-eq0 g c = gathers_end c.reads.invariant (omega arith) (rw c.in-Ok-eq0.is at c.read_on.ensures) (omega arith)

pub returns : goal.returns
returns g c = gathers_enough c.reads.invariant (omega (arith, c.reads-test.false))

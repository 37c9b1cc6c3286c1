-- The steps and the exits of the loop, by the lemmas of loops that write.
use Rattle.std.proofs.{lemmas.Grind.{common_steps}, Common.{arith, sym, ◌∙◌}}
use Rattle.no_std_io2_base.proofs.TextLemmas.{not_empty, is_empty, writes_more, writes_zero, writes_done, writes_stopped}
use Rattle.no_std_io2_base.proofs.TextLemmas.{writes_interruption}
use Rattle.no_std_io2_base.proofs.traits.write.Write.write_rest.Goals as goal

pub returns-in-Ok-eq0 : goal.returns-in-Ok-eq0
returns-in-Ok-eq0 g c =
    let some = not_empty _ c.writes.rest.now c.is_empty.ensures c.writes-test.true in
    record {
      law = writes_zero c.writes.invariant c.write.ensures.law c.in-Ok-eq0.is c.in-Ok-eq0.field-0-test some c.failed_to_write.ensures;
    }

pub writes-preserved-in-Ok : goal.writes-preserved-in-Ok
writes-preserved-in-Ok g c = grind (arith, common_steps, is_empty, not_empty, writes_more)

pub returns : goal.returns
returns g c = record { law = writes_done c.writes.invariant (is_empty _ c.writes.rest.now c.is_empty.ensures c.writes-test.false) }

pub returns-in-Err-2 : goal.returns-in-Err-2
returns-in-Err-2 g c =
    let some = not_empty _ c.writes.rest.now c.is_empty.ensures c.writes-test.true in
    record { law = writes_stopped c.writes.invariant c.in-Err.ensures.law (sym c.is_interrupted.ensures ∙ c.if-is_interrupted.false) some }

pub writes-preserved : goal.writes-preserved
writes-preserved g c = grind (arith, common_steps, is_empty, not_empty, writes_interruption)

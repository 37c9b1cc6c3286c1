-- The prover does not find what the buffers around a copy change: they hold nothing before and after (`passes_off`).
use Rattle.std.proofs.{Common.{arith}, lemmas.Grind.{common_steps}}
use Rattle.no_std_io2.proofs.Words.{ap, true, false, err_from_is_err_and, writer_inner, writer_buffer, line_inner, line_buffer}
use Rattle.system_streams.proofs.CopyLemmas.{passes_off, fault_through, is_steady, none_held, comes_apart, handed_through}
use Rattle.system_streams.proofs.copy.copy_through.Goals as goal

pub returns-in_err-count-clause-err : goal.returns-in_err-count-clause-err
returns-in_err-count-clause-err g c = grind (arith, common_steps, err_from_is_err_and, fault_through)

pub returns-in_err-count-clause-steady : goal.returns-in_err-count-clause-steady
returns-in_err-count-clause-steady g c =
    let same = c.new.ensures.inner in
    is_steady _ _ (fault_through {new = g.W.Write.told c.args.output} c.new-input.ensures.events (ap (λ w. (g.W.Write.told w).mishaps) same)
    (ap (λ w. (g.W.Write.told w).turns) same) c.in_err-count.ensures.err)

pub returns-in_ok-into_inner-clause-all : goal.returns-in_ok-into_inner-clause-all
returns-in_ok-into_inner-clause-all g c = grind (arith, passes_off)

pub returns-in_err-count-2-clause-err : goal.returns-in_err-count-2-clause-err
returns-in_err-count-2-clause-err g c = grind (arith, common_steps, err_from_is_err_and, fault_through)

pub returns-in_err-count-2-clause-steady : goal.returns-in_err-count-2-clause-steady
returns-in_err-count-2-clause-steady g c =
    let same = c.new-else-line.ensures.inner in
    is_steady _ _ (fault_through {new = g.W.Write.told c.args.output} c.new-input.ensures.events (ap (λ w. (g.W.Write.told w).mishaps) same)
    (ap (λ w. (g.W.Write.told w).turns) same) c.in_err-count-2.ensures.err)

pub returns-in_ok-into_inner-2-clause-all : goal.returns-in_ok-into_inner-2-clause-all
returns-in_ok-into_inner-2-clause-all g c = grind (arith, passes_off)

pub returns-in_err-into_inner-clause-err : goal.returns-in_err-into_inner-clause-err
returns-in_err-into_inner-clause-err g c = grind (arith, comes_apart)

pub returns-in_err-into_inner-clause-steady : goal.returns-in_err-into_inner-clause-steady
returns-in_err-into_inner-clause-steady g c =
    absurd (comes_apart _ _ c.in_ok-count.ensures.empty c.in_err-into_inner.ensures.law.empty)

pub returns-in_ok-into_inner-clause-empty : goal.returns-in_ok-into_inner-clause-empty
returns-in_ok-into_inner-clause-empty g c = none_held c.in_ok-count.ensures.empty c.in_ok-into_inner.ensures.law.ok

pub returns-in_ok-into_inner-clause-calls : goal.returns-in_ok-into_inner-clause-calls
returns-in_ok-into_inner-clause-calls g c =
    rw c.if-line.true
    (handed_through g.W.Write true line_inner line_buffer (λ a b call may. may) _
    c.new.ensures.inner c.new.ensures.empty c.in_ok-count.ensures.empty c.in_ok-into_inner.ensures.law.empty c.in_ok-count.ensures.calls)

pub returns-in_err-into_inner-2-clause-err : goal.returns-in_err-into_inner-2-clause-err
returns-in_err-into_inner-2-clause-err g c = grind (arith, comes_apart)

pub returns-in_err-into_inner-2-clause-steady : goal.returns-in_err-into_inner-2-clause-steady
returns-in_err-into_inner-2-clause-steady g c =
    absurd (comes_apart _ _ c.in_ok-count-2.ensures.empty c.in_err-into_inner-2.ensures.law.empty)

pub returns-in_ok-into_inner-2-clause-empty : goal.returns-in_ok-into_inner-2-clause-empty
returns-in_ok-into_inner-2-clause-empty g c = none_held c.in_ok-count-2.ensures.empty c.in_ok-into_inner-2.ensures.law.ok

pub returns-in_ok-into_inner-2-clause-calls : goal.returns-in_ok-into_inner-2-clause-calls
returns-in_ok-into_inner-2-clause-calls g c =
    rw c.if-line.false
    (handed_through g.W.Write false writer_inner writer_buffer (λ a b call may. may) _
    c.new-else-line.ensures.inner c.new-else-line.ensures.empty c.in_ok-count-2.ensures.empty c.in_ok-into_inner-2.ensures.law.empty
    c.in_ok-count-2.ensures.calls)

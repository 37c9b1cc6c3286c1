-- Sending: each turn moves a front of what is held from the buffer to what was sent.
use Rattle.no_std_io2.proofs.Words.{WriterState, Moves, Wrote, no_write, write_took, write_again, write_stuck, write_fault, common_steps}
use Rattle.no_std_io2.proofs.Words.{nil_from_length, ◌≡◌, ℕ, ◌+◌, ◌<◌, ◌≤◌, List, ◌∷◌, length, drop, Ok, Err, refl, sym, ap, subst, ◌∙◌}
use Rattle.no_std_io2.proofs.Words.{arith, [], sender_buffer, SendCalls}
use Rattle.no_std_io2_base.{specs.declared.error.ErrorKind.{ErrorKind}, proofs.CallsLemmas.{calls_none, calls_more, calls_end}}
use Rattle.no_std_io2.proofs.buffered.sender.Sender.send_held.Goals as goal

pub sends-init : goal.sends-init
sends-init g c = record { made = calls_none; unmoved = refl }

pub sends-preserved-in-Ok : goal.sends-preserved-in-Ok
sends-preserved-in-Ok g c =
    let before = c.sends.invariant in
    let rest = c.drop_front.ensures in
    record {
      made = calls_more before.made (rw c.as_slice.ensures.value at c.in-Ok.ensures.law)
          (λ D r e w. write_took (omega arith) (omega (arith, c.in-Ok.n-test.1)) (subst (λ l. SendCalls l D r e) rest.held w));
      unmoved = rest.unmoved ∙ before.unmoved;
    }

-- fewer turns and bytes are left after a write that took some
fewer_left : {a b : WriterState} {y : List ℕ} {k : List ErrorKind} (x : List ℕ) {held next : List ℕ} {n : ℕ} → Moves a y k b → (n ≡ 0 → ⊥)
    → n ≤ length x → x ≡ held → next ≡ drop n held → b.turns + length next < a.turns + length held
fewer_left x {held = held} {n = n} moves some within given rest = grind (arith, common_steps)

pub sends-smaller-in-Ok : goal.sends-smaller-in-Ok
sends-smaller-in-Ok g c = grind (arith, common_steps, fewer_left)

pub sends-preserved : goal.sends-preserved
sends-preserved g c =
    let before = c.sends.invariant in
    let interrupted = sym c.is_interrupted.ensures ∙ c.if-is_interrupted.true in
    record {
      made = calls_more before.made (rw c.as_slice.ensures.value at c.in-Err.ensures.law)
          (λ D r end w. write_again (omega arith) interrupted w);
      unmoved = before.unmoved;
    }

pub returns-in-Ok-eq0-clause-calls : goal.returns-in-Ok-eq0-clause-calls
returns-in-Ok-eq0-clause-calls g c =
    let held = sender_buffer c.sends.self in
    let none = c.in-Ok-eq0.is ∙ ap Ok c.in-Ok-eq0.field-0-test in
    let last = rw (c.as_slice.ensures.value, none) at c.write.ensures.law in
    calls_end c.sends.invariant.made (Err c.new.result) held (Wrote held (Ok 0) ∷ []) (_, last, refl)
    (write_stuck (omega arith) (c.new.ensures.kind, c.new.ensures.text))

pub returns-in-Err-2-clause-calls : goal.returns-in-Err-2-clause-calls
returns-in-Err-2-clause-calls g c =
    let held = sender_buffer c.sends.self in
    let last = rw c.as_slice.ensures.value at c.in-Err.ensures.law in
    calls_end c.sends.invariant.made (Err c.in-Err.e) held (Wrote held (Err c.in-Err.e) ∷ []) (_, last, refl)
    (write_fault (omega arith) (sym c.is_interrupted.ensures ∙ c.if-is_interrupted.false))

pub returns-clause-calls : goal.returns-clause-calls
returns-clause-calls g c =
    let empty = nil_from_length (sender_buffer c.sends.self) (omega arith) in
    calls_end c.sends.invariant.made (Ok tt) _ [] refl (subst (λ l. SendCalls l [] (Ok tt) l) (sym empty) no_write)

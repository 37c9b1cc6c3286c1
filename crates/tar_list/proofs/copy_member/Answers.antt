-- The prover does not find the state in the middle, after the `find` (`copy_ended`, `bytes_copied`).
use Rattle.no_std_io2.proofs.Words.{Ok, Err, Some, None, refl, inl, inr, arith, common_steps, err_from_is_err_and}
use Rattle.tar_list.proofs.ListLemmas.{copy_ended, bytes_copied}
use Rattle.tar_list.proofs.copy_member.Goals as goal

pub returns-in_err-header : goal.returns-in_err-header
returns-in_err-header g c =
    let p = err_from_is_err_and c.from_residual.result c.from_residual.ensures.1 in
    rw (p.1, p.2) (copy_ended (Err _) (rw c.as_bytes.ensures.value at c.in_err-header.ensures.law) (refl, (refl, refl)))

pub returns-in_default : goal.returns-in_default
returns-in_default g c =
    copy_ended (Ok None) (rw (c.in_default.is, c.as_bytes.ensures.value) at c.in_ok-header.ensures.law)
    ((_, refl, (c.new.ensures.kind, c.new.ensures.text)), (refl, refl))

pub returns-then-eq : goal.returns-then-eq
returns-then-eq g c =
    copy_ended (Ok (Some _)) (rw (c.in-Some.is, c.as_bytes.ensures.value) at c.in_ok-header.ensures.law)
    (inl (grind (arith, common_steps), (_, refl, (c.new-then-eq.ensures.kind, c.new-then-eq.ensures.text)), (refl, refl)))

pub returns-in_err-copy : goal.returns-in_err-copy
returns-in_err-copy g c =
    let p = err_from_is_err_and c.from_residual-in_err-copy.result c.from_residual-in_err-copy.ensures.1 in
    rw (p.1, p.2) (bytes_copied (rw (c.in-Some.is, c.as_bytes.ensures.value) at c.in_ok-header.ensures.law)
    (λ same. grind (arith, common_steps)) (rw (c.in_err-copy.was, c.member.ensures.value) at c.copy.ensures) refl (refl, refl))

pub returns-then-limit-gt0 : goal.returns-then-limit-gt0
returns-then-limit-gt0 g c =
    bytes_copied (rw (c.in-Some.is, c.as_bytes.ensures.value) at c.in_ok-header.ensures.law) (λ same. grind (arith, common_steps))
    (rw (c.in_ok-copy.was, c.member.ensures.value, ← c.member-2.ensures.value) at c.copy.ensures) refl
    (inr (
      omega (arith, c.limit.ensures, c.if-limit-gt0.true),
      (_, refl, (c.new-then-limit-gt0.ensures.kind, c.new-then-limit-gt0.ensures.text)),
      refl,
    ))

pub returns-in_err-flush : goal.returns-in_err-flush
returns-in_err-flush g c =
    let p = err_from_is_err_and c.from_residual-in_err-flush.result c.from_residual-in_err-flush.ensures.1 in
    rw (p.1, p.2) (bytes_copied (rw (c.in-Some.is, c.as_bytes.ensures.value) at c.in_ok-header.ensures.law)
    (λ same. grind (arith, common_steps)) (rw (c.in_ok-copy.was, c.member.ensures.value, ← c.member-2.ensures.value) at c.copy.ensures)
    refl (inl (omega (arith, c.limit.ensures, c.if-limit-gt0.false), (_, c.in_err-flush.ensures.law, refl))))

pub returns : goal.returns
returns g c =
    bytes_copied (rw (c.in-Some.is, c.as_bytes.ensures.value) at c.in_ok-header.ensures.law) (λ same. grind (arith, common_steps))
    (rw (c.in_ok-copy.was, c.member.ensures.value, ← c.member-2.ensures.value) at c.copy.ensures) refl
    (inl (omega (arith, c.limit.ensures, c.if-limit-gt0.false), (_, c.in_ok-flush.ensures.law, refl)))

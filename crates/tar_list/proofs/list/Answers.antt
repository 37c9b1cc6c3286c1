-- The prover does not find the members that were passed over: each end is a `comes_to` of the last `next`.
use Rattle.no_std_io2.proofs.{Words.{refl, err_from_is_err_and}, MovesLemmas.{Moves-refl, Moves-ends}}
use Rattle.tar.proofs.MemberLemmas.{skipping_none, skips_member}
use Rattle.tar_list.proofs.ListLemmas.{prints_more, lists}
use Rattle.tar_list.proofs.list.Goals as goal

pub members-init : goal.members-init
members-init g c = record { skipped = skipping_none; printed = Moves-refl _ }

pub returns-in_err-header : goal.returns-in_err-header
returns-in_err-header g c =
    let p = err_from_is_err_and c.from_residual.result c.from_residual.ensures.1 in
    let before = c.members.invariant in
    rw (p.1, p.2) (lists before.skipped c.in_err-header.ensures.law (refl, before.printed))

pub returns-in_err-print_line : goal.returns-in_err-print_line
returns-in_err-print_line g c =
    let p = err_from_is_err_and c.from_residual-in_err-print_line.result c.from_residual-in_err-print_line.ensures.1 in
    let before = c.members.invariant in
    let law = rw c.in-Some.is at c.in_ok-header.ensures.law in
    rw (p.1, p.2) (lists before.skipped law (refl, (_, before.printed, c.in_err-print_line.ensures)))

pub members-preserved : goal.members-preserved
members-preserved g c =
    let before = c.members.invariant in
    let more = skips_member before.skipped (rw c.in-Some.is at c.in_ok-header.ensures.law) in
    record { skipped = more.0; printed = rw more.1 (prints_more _ _ c.in_ok-print_line.was before.printed c.print_line.ensures) }

pub returns : goal.returns
returns g c =
    let before = c.members.invariant in
    let law = rw c.in_default.is at c.in_ok-header.ensures.law in
    lists before.skipped law (Moves-ends before.printed c.flush.ensures.law.moves, c.flush.ensures.law.empty)

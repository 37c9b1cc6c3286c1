-- The prover does not find the account of a call, which joins the reads for the header and those for the payload (`takes_then`).
use Rattle.no_std_io2.proofs.{Words.{arith, err_from_is_err_and}, TextLemmas.{not_empty, is_empty}}
use Rattle.framing.proofs.{SeenLemmas.{seen_between, held_seen}, TakingLemmas.{sees_header, takes_seen, takes_then, spends_after}}
use Rattle.framing.proofs.reader.FrameReader.take_first.Goals as goal

pub returns-in_err-see_held-clause-takes : goal.returns-in_err-see_held-clause-takes
returns-in_err-see_held-clause-takes g c = grind (arith, err_from_is_err_and, held_seen, sees_header, takes_seen)

pub returns-then-is_empty-clause-takes : goal.returns-then-is_empty-clause-takes
returns-then-is_empty-clause-takes g c = grind (arith, is_empty, held_seen, seen_between, sees_header, takes_seen)

pub returns-then-not-branch-clause-takes : goal.returns-then-not-branch-clause-takes
returns-then-not-branch-clause-takes g c = grind (arith, is_empty, not_empty, held_seen, seen_between, sees_header, takes_seen)

pub returns-then-len-clause-takes : goal.returns-then-len-clause-takes
returns-then-len-clause-takes g c =
    let held = rw c.if-not-branch.false at c.in_ok-see_held.ensures.sees in
    let sees = held_seen c.args.self.now c.see_held.new.self c.args.room.now c.requires.between c.in_ok-see_held.ensures.between held in
    takes_then sees c.take_short.ensures.takes

pub returns-then-len-clause-spends_turn : goal.returns-then-len-clause-spends_turn
returns-then-len-clause-spends_turn g c =
    spends_after c.take_short.result _ _ _ c.take_short.ensures.spends_turn c.in_ok-see_held.ensures.turns_never_rise

pub returns-clause-takes : goal.returns-clause-takes
returns-clause-takes g c =
    let held = rw c.if-not-branch.false at c.in_ok-see_held.ensures.sees in
    let sees = held_seen c.args.self.now c.see_held.new.self c.args.room.now c.requires.between c.in_ok-see_held.ensures.between held in
    takes_then (rw (c.begin_long.ensures.inner, c.begin_long.ensures.seen c.args.room.now) sees) c.take_long.ensures.takes

pub returns-clause-spends_turn : goal.returns-clause-spends_turn
returns-clause-spends_turn g c =
    spends_after c.take_long.result _ _ _ c.take_long.ensures.spends_turn
    (omega (arith, c.begin_long.ensures.turns_never_rise, c.in_ok-see_held.ensures.turns_never_rise))

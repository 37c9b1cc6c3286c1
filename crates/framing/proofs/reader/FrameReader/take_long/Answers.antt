-- The prover does not find the account of a call, whose reads are for the payload (`sees_payload`).
use Rattle.no_std_io2.proofs.Words.{◌≤◌, Ok, Some, length, refl, inr, arith, err_from_is_err_and}
use Rattle.framing.{specs.Taking.{seen_bytes}, proofs.SeenLemmas.{seen_header, seen_whole, facts_inside}}
use Rattle.framing.proofs.TakingLemmas.{sees_payload, takes, takes_none, takes_fault, takes_end}
use Rattle.framing.proofs.reader.FrameReader.take_long.Goals as goal

pub returns-then-len-room-clause-takes : goal.returns-then-len-room-clause-takes
returns-then-len-room-clause-takes g c = grind (arith, seen_header, takes_none)

pub returns-in_err-see_payload-clause-takes : goal.returns-in_err-see_payload-clause-takes
returns-in_err-see_payload-clause-takes g c = grind (arith, err_from_is_err_and, seen_header, facts_inside, takes_fault)

pub returns-then-not-branch-clause-takes : goal.returns-then-not-branch-clause-takes
returns-then-not-branch-clause-takes g c =
    let room = c.args.room.now in
    let fits : c.args.len ≤ length room = omega (arith, c.if-len-room.false) in
    let has = seen_header c.args.self.now room c.args.len c.args.given c.requires.inside in
    let long = (facts_inside c.args.self.now room c.args.len c.args.given c.requires.inside).1.0 in
    let rest = rw c.if-not-branch.true at c.in_ok-see_payload.ensures.sees in
    takes_end c.args.self.now c.see_payload.new.self room c.see_payload.new.room c.args.len has fits
    (inr (long, fits, c.in_ok-see_payload.ensures.behind)) c.ended_inside.result rest c.ended_inside.ensures

pub returns-clause-takes : goal.returns-clause-takes
returns-clause-takes g c =
    let room = c.args.room.now in
    let fits : c.args.len ≤ length room = omega (arith, c.if-len-room.false) in
    let has = seen_header c.args.self.now room c.args.len c.args.given c.requires.inside in
    let rest = rw c.if-not-branch.false at c.in_ok-see_payload.ensures.sees in
    let whole = (rw c.if-not-branch.false at c.in_ok-see_payload.ensures.whole) refl in
    takes c.args.self.now _ room c.see_payload.new.room (Ok (Some c.args.len)) (seen_bytes c.see_payload.new.self c.see_payload.new.room)
    (sees_payload _ _ c.args.len has fits rest) (seen_whole c.see_payload.new.self c.see_payload.new.room c.args.len whole (omega arith))
    c.in_ok-see_payload.ensures.behind
    (refl, fits, (facts_inside c.args.self.now room c.args.len c.args.given c.requires.inside).0)

-- The prover does not find the account of a call, whose reads are for the payload (`sees_payload`).
use Rattle.no_std_io2.proofs.Words.{◌≤◌, Ok, Some, length, refl, inl, arith, returned_err}
use Rattle.framing.{specs.Taking.{seen_bytes}, proofs.SeenLemmas.{held_header, held_seen}}
use Rattle.framing.proofs.TakingLemmas.{sees_payload, takes, takes_none, takes_fault, takes_end, header_after}
use Rattle.framing.proofs.reader.FrameReader.take_short.Goals as goal

pub returns-then-len-room-clause-takes : goal.returns-then-len-room-clause-takes
returns-then-len-room-clause-takes g c = grind (arith, held_header, takes_none)

pub returns-in_err-see_held-clause-takes : goal.returns-in_err-see_held-clause-takes
returns-in_err-see_held-clause-takes g c =
    let room = c.args.room.now in
    let has = held_header c.args.self.now room c.args.len c.requires.between c.requires.header in
    let see = c.in_err-see_held.ensures in
    let rest = held_seen c.args.self.now c.see_held.new.self room c.requires.between see.between see.sees in
    rw (returned_err c.from_residual.ensures)
    (takes_fault c.args.self.now c.see_held.new.self room room c.args.len has (omega (arith, c.if-len-room.false)) (inl refl) _ rest)

pub returns-then-not-branch-clause-takes : goal.returns-then-not-branch-clause-takes
returns-then-not-branch-clause-takes g c =
    let room = c.args.room.now in
    let has = held_header c.args.self.now room c.args.len c.requires.between c.requires.header in
    let sees = rw c.if-not-branch.true at c.in_ok-see_held.ensures.sees in
    let rest = held_seen c.args.self.now c.see_held.new.self room c.requires.between c.in_ok-see_held.ensures.between sees in
    takes_end c.args.self.now c.see_held.new.self room room c.args.len has (omega (arith, c.if-len-room.false)) (inl refl)
    c.ended_inside.result rest c.ended_inside.ensures

pub give-requires : goal.give-requires
give-requires g c = grind (arith, header_after)

pub returns-clause-takes : goal.returns-clause-takes
returns-clause-takes g c =
    let room = c.args.room.now in
    let has = held_header c.args.self.now room c.args.len c.requires.between c.requires.header in
    let sees = rw c.if-not-branch.false at c.in_ok-see_held.ensures.sees in
    let rest = held_seen c.args.self.now c.see_held.new.self room c.requires.between c.in_ok-see_held.ensures.between sees in
    let fits : c.args.len ≤ length room = omega (arith, c.if-len-room.false) in
    takes c.args.self.now c.give.new.self room c.give.new.room (Ok (Some c.args.len))
    (seen_bytes c.see_held.new.self room) (rw c.give.ensures.inner (sees_payload _ _ c.args.len has fits rest))
    c.give.ensures.gives c.give.ensures.behind (refl, fits, c.requires.small)

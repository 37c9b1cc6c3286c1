-- A `write` off the hot path: room is made, and then the bytes go past the buffer or into it.
use Rattle.no_std_io2.proofs.{Words.{common_steps, SingleCall, arith, rules, err_from_is_err_and, Wrote}, BufWriterLemmas.{then_stops}}
use Rattle.no_std_io2.proofs.{BufWriterLemmas.{then_goes_on}, BufWriterCalls.{room_none, room_enough, put_beside, put_past, one_made}}
use Rattle.no_std_io2.proofs.buffered.sender.Sender.write_cold.Goals as goal

pub returns-in_err-make_room : goal.returns-in_err-make_room
returns-in_err-make_room g c = grind (arith, common_steps, err_from_is_err_and, then_stops)

pub returns-then-buf : goal.returns-then-buf
returns-then-buf g c =
    let way = c.in_ok-make_room.ensures in
    let none = room_none _ _ c.if-buf.true way.are in
    then_goes_on _ way (put_past _ (SingleCall (Wrote c.args.buf.now)) c.if-buf.true none none (one_made
    (Wrote c.args.buf.now c.write.result) c.write.ensures.law))

pub push-requires : goal.push-requires
push-requires g c = (search rules, room_enough _ _ (omega (arith, c.if-buf.false)) c.in_ok-make_room.ensures.are)

pub returns : goal.returns
returns g c = grind (arith, common_steps, then_goes_on, put_beside)

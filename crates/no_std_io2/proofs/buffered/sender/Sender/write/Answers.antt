-- The hot paths: there is room, or nothing is held, so nothing has to be sent.
use Rattle.no_std_io2.proofs.Words.{common_steps, nil_from_length, arith, refl, Wrote, SingleCall}
use Rattle.no_std_io2.proofs.{BufWriterLemmas.{then_goes_on}, BufWriterCalls.{room_kept, put_beside, buffered_past, one_made}}
use Rattle.no_std_io2.proofs.buffered.sender.Sender.write.Goals as goal

pub returns-then-append_if_room : goal.returns-then-append_if_room
returns-then-append_if_room g c =
    let put = c.if-append_if_room.ensures.held in
    then_goes_on _ (room_kept _ (omega (arith, put.1))) (put_beside _ (SingleCall (Wrote c.args.buf.now)) (omega (arith, put.1)) refl put.2)

pub returns-then-len-eq0 : goal.returns-then-len-eq0
returns-then-len-eq0 g c = grind (arith, common_steps, nil_from_length, buffered_past, one_made)

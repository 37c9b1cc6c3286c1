-- Room was there, or was made by a sending.
use Rattle.no_std_io2.proofs.Words.{ℕ, ◌+◌, ◌≤◌, List, length, Result, OnOk, arith, common_steps, WriteCall, RoomCalls}
use Rattle.no_std_io2.proofs.{BufWriterLemmas.{effect_of}, BufWriterCalls.{room_does}}
use Rattle.no_std_io2_base.{specs.declared.error.Error.{Error}, proofs.CallsLemmas.{writes_whole}}
use Rattle.no_std_io2.proofs.buffered.buf_writer.BufWriter.make_room.Goals as goal

room_fits : (S n : ℕ) {held left : List ℕ} {C : List WriteCall} {reply : Result (Unit {0}) Error} → n ≤ S → RoomCalls S n held C reply left
    → OnOk reply (length left + n ≤ S)
room_fits S n {reply = reply} short way = grind (arith, common_steps, writes_whole)

pub returns : goal.returns
returns g c =
    let calls = c.make_room.ensures in
    let told = (effect_of (room_does g.W.Write g.row.S c.args.n) calls).told in
    record { calls = calls; moves = told.1; never_interrupted = told.0; room = λ h. room_fits g.row.S c.args.n h calls.are }

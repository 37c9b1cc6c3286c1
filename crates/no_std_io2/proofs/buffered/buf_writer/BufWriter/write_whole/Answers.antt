-- There is room after the end, so no call is made.
use Rattle.no_std_io2.proofs.{Words.{refl}, BufWriterCalls.{room_kept, whole_held}}
use Rattle.no_std_io2_base.proofs.MovesLemmas.{Moves-refl}
use Rattle.no_std_io2.proofs.buffered.buf_writer.BufWriter.write_whole.Goals as goal

pub returns-then-hold_both_if_room : goal.returns-then-hold_both_if_room
returns-then-hold_both_if_room g c =
    let (fits, same, put) = c.if-hold_both_if_room.ensures.held in record {
      puts = whole_held g.W.Write c.args.head.now c.args.tail.now refl c.args.self.now
          (record { sender = c.hold_both_if_room.new.self }) c.requires (room_kept _ fits) (Moves-refl _) same put;
    }

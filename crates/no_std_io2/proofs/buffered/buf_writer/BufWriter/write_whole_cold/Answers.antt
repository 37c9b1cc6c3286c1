-- There is room for the record, which is then held; or no room could be made.
use Rattle.no_std_io2.proofs.{Words.{common_steps, ◌++◌, refl, ap, ◌∙◌, arith, err_from_is_err_and}, BufWriterCalls.{put_beside}}
use Rattle.no_std_io2.proofs.BufWriterCalls.{whole_held, whole_refused}
use Rattle.no_std_io2.proofs.buffered.buf_writer.BufWriter.write_whole_cold.Goals as goal

pub returns-in_err-make_room : goal.returns-in_err-make_room
returns-in_err-make_room g c = grind (arith, common_steps, err_from_is_err_and, put_beside, whole_refused)

pub returns : goal.returns
returns g c =
    let made = c.in_ok-make_room.ensures in record {
      puts = whole_held g.W.Write c.args.head.now c.args.tail.now refl c.make_room.new.self
          (record { sender = c.hold-2.new.self }) c.requires made.calls made.moves (c.hold-2.ensures.same ∙ c.hold.ensures.same)
          (c.hold-2.ensures.buffer ∙ ap (λ l. l ++ c.args.tail.now) c.hold.ensures.buffer);
    }

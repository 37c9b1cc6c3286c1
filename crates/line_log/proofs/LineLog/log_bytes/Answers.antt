-- The prover does not find the step of the buffer, whose error is ignored (`log_goes`), nor that a text has no newline.
use Rattle.no_std_io2.proofs.{Words.{refl, le_refl, inl, inr, arith, common_steps, returned_err, newline}, LineLemmas.{contains_lacks}}
use Rattle.std.proofs.Common.{Contains}
use Rattle.line_log.proofs.LogLemmas.{log_stops, log_goes}
use Rattle.line_log.proofs.LineLog.log_bytes.Goals as goal

pub returns-then-contains : goal.returns-then-contains
returns-then-contains g c =
    let inside : Contains c.args.line.now newline = grind (arith, common_steps, c.contains.ensures) in
    record { logs = inr (inr (omega (arith, c.if-line.false), inside, (c.new.ensures.kind, c.new.ensures.text)), refl) }

pub returns-in_err-write_whole : goal.returns-in_err-write_whole
returns-in_err-write_whole g c =
    let plain = contains_lacks newline c.args.line.now (grind (arith, common_steps, c.contains.ensures, c.if-contains.false)) in
    rw (returned_err c.from_residual.ensures)
    (record { logs = inl ((plain, omega (arith, c.if-line.false)), log_stops g.W.Write _ _ c.in_err-write_whole.ensures.puts) })

pub returns : goal.returns
returns g c =
    let room = c.make_room.ensures in
    let plain = contains_lacks newline c.args.line.now (grind (arith, common_steps, c.contains.ensures, c.if-contains.false)) in record {
      logs = inl (
        (plain, omega (arith, c.if-line.false)),
        log_goes g.W.Write _ c.make_room.result c.in_ok-write_whole.ensures.puts room.calls room.moves (room.room (le_refl _)),
      );
    }

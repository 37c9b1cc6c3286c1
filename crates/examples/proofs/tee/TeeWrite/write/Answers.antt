-- Room was made in the second, the first took some bytes, and the second takes these; the search does not join the three.
use Rattle.std.{proofs.{Common.{◌≤◌, ◌<◌, ◌+◌, length, take, refl, arith, subst}, lemmas.List.{length-take}}, specs.Prelude.{Result, IsOk}}
use Rattle.no_std_io2.{specs.{declared.io.Error.{Error}, BufWriter.{writer_buffer}}, proofs.Words.{returned_err}}
use Rattle.no_std_io2.proofs.MovesLemmas.{MovesFront-whole}
use Rattle.examples.proofs.TeeLemmas.{tee_wrote, tee_full}
use Rattle.examples.proofs.tee.TeeWrite.write.Goals as goal

pub returns-in_err-make_room : goal.returns-in_err-make_room
returns-in_err-make_room g c = record {
  law = rw (returned_err c.from_residual.ensures)
      (tee_full g.A.Write.told g.B.Write.told c.in_err-make_room.field-0.0 c.args.buf.now refl c.in_err-make_room.ensures.moves);
}

pub returns-in_err-write_all : goal.returns-in_err-write_all
returns-in_err-write_all g c =
    let most = c.min-most.result in
    let bound = c.in_ok-n.ensures.law.bound in
    let long = length-take c.in_ok-n.n c.args.buf.now in
    let long_most = length-take most c.args.buf.now in
    let small : most < g.row.S + 1 = omega arith in
    let below : c.in_ok-n.n < g.row.S = omega (arith, bound, long_most) in
    let room = c.in_ok-make_room.ensures.room (omega arith) in
    let shorter : length (take c.in_ok-n.n c.args.buf.now) < g.row.S = omega arith in
    let within : c.in_ok-n.n ≤ most = omega (arith, bound, long_most) in
    let fits : length (writer_buffer c.make_room.new.self) + length (take c.in_ok-n.n c.args.buf.now) ≤ g.row.S = omega (arith, room) in
    let ok = (c.write_all.ensures.buffer.fits shorter fits).0 in
    let wrong = subst (λ (r : Result (Unit {0}) Error). IsOk r) c.in_err-write_all.was ok in
    let no : ⊥ = cc wrong in
    absurd no

pub returns : goal.returns
returns g c = record {
  law = tee_wrote g.A.Write.told g.B.Write.told _ c.in_ok-n.n c.min-most.result c.args.buf.now c.in_ok-n.ensures.law.bound
      c.in_ok-n.ensures.law.moves c.in_ok-make_room.ensures.moves (MovesFront-whole _ _ c.in_ok-write_all.ensures.law.moves) refl;
}

-- The prover does not join what the copy and the flush did, nor find that neither can fail by the writer.
use Rattle.std.proofs.{Common.{arith}, lemmas.Grind.{common_steps}}
use Rattle.no_std_io2.proofs.{MovesLemmas.{Moves-steady}, CopyLoop.{took_told, copied_ok, copied_err, copies_steadily, stays_steady}}
use Rattle.no_std_io2.proofs.CopyLoop.{out_after_flush}
use Rattle.promises.proofs.steady.copy_and_flush.Goals as goal

pub returns : goal.returns
returns g c = grind (arith, common_steps, copied_ok, out_after_flush, stays_steady, took_told)

pub returns-in_err-n : goal.returns-in_err-n
returns-in_err-n g c = λ some E told none steady.
    let (side, is, copied) = copied_err c.in_err-n.ensures in
    absurd (copies_steadily g.row.S side _ _ copied.takes told none copied.ends steady)

pub returns-in_err-flush : goal.returns-in_err-flush
returns-in_err-flush g c = grind (arith, common_steps, Moves-steady, copied_ok, stays_steady)

-- Frames were taken, and a line was printed for each.
use Rattle.no_std_io2.proofs.{Words.{List, ℕ}, TakesLemmas.{reader}}
use Rattle.std.proofs.Common.{replicate}
use Rattle.framing.specs.Taking.{frame_turns}
use Rattle.frame_lines.specs.Printing.{PrintsEach}
use Rattle.frame_lines.proofs.print_frames.Given as goal

abbrev pub invariant-frames : goal.invariant-frames
invariant-frames g l = record {
  payloads : List (List ℕ);
  prints : PrintsEach (reader g.R.Stored g.R.Read) g.W.Write l.initial.frames
      (replicate 4096 0) l.initial.lines payloads l.frames l.room l.lines;
}

abbrev pub decreases-frames : goal.decreases-frames
decreases-frames g l = frame_turns g.R.Read.turns l.frames

-- The calls so far kept the records.
use Rattle.std.proofs.Common.{◌≡◌, ℕ, List, [], length, take}
use Rattle.record_log.{specs.{Placed.{PutsAt}, Cuts.{outcome, StandsAtEnd}}, proofs.CutLemmas.{Keeps}}
use Rattle.record_log.proofs.cuts.run_log.Given as goal

abbrev pub invariant-steps : goal.invariant-steps
invariant-steps g l = record {
  one_each : length l.done ≡ length l.steps;
  keeps : (content : g.row.W.Denot → List ℕ) (place : g.row.W.Denot → ℕ) (before : List (List ℕ)) (tail : List ℕ)
      → PutsAt g.W.Write content place
      → StandsAtEnd content place before tail l.fn.log
      → Keeps content place before tail (outcome ([], []) (take l.i l.steps) (take l.i l.done)) l.log;
}

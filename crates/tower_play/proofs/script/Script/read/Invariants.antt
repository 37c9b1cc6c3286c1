-- A bad line has a number of a line so far; if no line is bad, the lines so far made the script.
use Rattle.no_std_io2.proofs.{Words.{ℕ, Vec, ◌<◌}, TakesLemmas.{reader}}
use Rattle.std.{specs.Option.{IfSome}, proofs.Common.{Global, vec_items}}
use Rattle.io_bench.proofs.PieceRunLemmas.{split_next}
use Rattle.tower_play.proofs.ScriptLemmas.{ReadSoFar}
use Rattle.tower_play.proofs.script.Script.read.Given as goal

abbrev pub invariant-lines : goal.invariant-lines
invariant-lines g l = record {
  number : IfSome l.bad (λ n. 0 < n);
  read : ReadSoFar {T = Vec ℕ Global} (split_next (reader g.R.Stored g.R.Read) vec_items) vec_items l.fn.lines l.number l.bad
      l.script l.line-iterator;
}

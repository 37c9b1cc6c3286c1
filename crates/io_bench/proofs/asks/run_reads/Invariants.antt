-- The totals of the asks so far.
use Rattle.no_std_io2.proofs.{Words.{◌≡◌, ◌≤◌, length, take}, TakesLemmas.{reader}, BufferedReads.{buf_reader}}
use Rattle.io_bench.specs.Asks.{CameTo}
use Rattle.io_bench.proofs.asks.run_reads.Given as goal

abbrev pub invariant-asks : goal.invariant-asks
invariant-asks g l = record {
  long : length l.buf ≡ length l.initial.buf;
  at_end : l.totals.at_end ≤ l.ask-index;
  failed : l.totals.failed ≤ l.ask-index;
  came : CameTo (buf_reader (reader g.R.Stored g.R.Read)) (take l.ask-index l.asks) l.initial.r l.totals.at_end l.totals.failed l.r;
}

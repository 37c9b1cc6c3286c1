-- The asks so far fit.
use Rattle.io_bench.specs.Asks.{AllFit}
use Rattle.rows_readers.proofs.in_memory.asks.asks_of.Given as goal

abbrev pub invariant-asks : goal.invariant-asks
invariant-asks l = record {
  fit : AllFit 16 l.asks.items;
}

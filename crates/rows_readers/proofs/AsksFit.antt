-- Asks that fit, and then one more.
use Rattle.std.proofs.Common.{ℕ, List, [], ◌∷◌, ◌++◌}
use Rattle.io_bench.specs.{declared.asks.Ask.{Ask}, Asks.{Fits, AllFit}}

-- if a buffer has room for each ask of a list and for one more, it has room for all of them
pub all_fit_then : (room : ℕ) (asks : List Ask) (ask : Ask) → AllFit room asks → Fits room ask
    → AllFit room (asks ++ ask ∷ [])
all_fit_then room [] ask all fits = (fits, tt)
all_fit_then room (first ∷ asks) ask all fits = (all.0, all_fit_then room asks ask all.1 fits)

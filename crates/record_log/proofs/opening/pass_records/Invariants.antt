-- Whole records were passed, and the bytes behind them are to come.
use Rattle.no_std_io2.proofs.{Words.{◌≡◌, ℕ, ◌<◌, ◌^◌, List, length, Ok, true, Some, events_of, to_come, tells}, TakesLemmas.{reader}}
use Rattle.record_log.{specs.Opening.{FetchesSome}, proofs.PieceLemmas.{Passed}}
use Rattle.record_log.proofs.opening.pass_records.Given as goal

abbrev pub invariant-records : goal.invariant-records
invariant-records g l =
    let R = reader g.R.Stored g.R.Read in
    record {
      some_room : 0 < length l.room;
      fetches : FetchesSome R l.fn.r (Ok true) l.r;
      known : (bytes : List ℕ) → to_come (tells R l.fn.r) ≡ Some (events_of bytes) → length bytes < 2 ^ 64
          → Passed bytes l.end (to_come (tells R l.r));
    }

abbrev pub decreases-records : goal.decreases-records
decreases-records g l = g.R.Read.turns l.r

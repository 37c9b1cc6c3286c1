-- The bytes so far are in the check, and the others are to come.
use Rattle.no_std_io2.proofs.{Words.{◌≡◌, ℕ, ◌-◌, ◌<◌, ◌≤◌, List, length, Ok, true, Some, events_of, to_come, tells}, TakesLemmas.{reader}}
use Rattle.record_log.specs.Opening.{AddsPiece, FetchesSome}
use Rattle.record_log.proofs.opening.pass_payload.Given as goal

abbrev pub invariant-pieces : goal.invariant-pieces
invariant-pieces g l =
    let R = reader g.R.Stored g.R.Read in
    record {
      some_room : 0 < length l.room;
      part : l.left ≤ l.len;
      fetches : FetchesSome R l.fn.r (Ok true) l.r;
      known : (bytes : List ℕ) → to_come (tells R l.fn.r) ≡ Some (events_of bytes)
          → AddsPiece bytes (l.len - l.left) l.check (Some l.sum) (to_come (tells R l.r));
    }

abbrev pub decreases-pieces : goal.decreases-pieces
decreases-pieces g l = l.left

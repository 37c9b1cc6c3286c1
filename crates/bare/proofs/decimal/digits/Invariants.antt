-- The digits that are written follow those that are still to be written.
use Rattle.std.proofs.Common.{◌≡◌, ◌≤◌, ◌++◌, length, drop}
use Rattle.std.specs.Fmt.{decimal}
use Rattle.bare.proofs.decimal.digits.Given as goal

abbrev pub invariant-digits : goal.invariant-digits
invariant-digits l =
    (length (decimal l.rest) ≤ l.at) × (l.at ≤ length l.room) × (decimal l.rest ++ drop l.at l.room ≡ decimal l.value)

abbrev pub decreases-digits : goal.decreases-digits
decreases-digits l = l.rest

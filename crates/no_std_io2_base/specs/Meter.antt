-- What it means that a number counts the calls of a stream, and that a reader is filling.
use Rattle.std.specs.Prelude.{◌≡◌, ℕ, ◌+◌, min, List, Result}
use Rattle.no_std_io2_base.specs.{Calls.{WriteCall, ReadCall, Gave}, inner.Charges.{charge, FillsFor}, declared.error.Error.{Error}}
use Rattle.no_std_io2_base.specs.Takes.{Reader}

-- Each call that the writer may make raises this number by what the call counts as.
abbrev pub IsMeter : {W : Type 0} → (W → WriteCall → W → Type 0) → (W → ℕ) → Type 0
IsMeter {W} may cost = (old new : W) (call : WriteCall) → may old call new → cost new ≡ cost old + charge call

-- Each `read` that the reader may make raises this number by one, or by none if there is no room.
abbrev pub IsReadMeter : {R : Type 0} → (R → ReadCall → R → Type 0) → (R → ℕ) → Type 0
IsReadMeter {R} may cost = (old new : R) (room : ℕ) (answer : Result (List ℕ) Error) → may old (Gave room answer) new
    → cost new ≡ cost old + min 1 room

-- The reader is filling in this state: however many reads follow, only bytes are to come, and each gives as many of them as fit.
pub record FillsRoom {X : Type 0} (R : Reader X) (x : X) : Type 0 where
  pub always : (n : ℕ) → FillsFor R n x

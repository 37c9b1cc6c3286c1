-- What the laws of `Write` are made of.
use Rattle.std.specs.Prelude.{ℕ, ◌+◌, ◌≤◌, List, count_by, ◌≡◌, ◌==◌, ◌&&◌, nat_lt, if◌then◌else◌, [], ◌∷◌, length, Some, Result, Ok, Err}
use Rattle.std.specs.Prelude.{◌<◌, drop, codes, ◌⊎◌}
use Rattle.no_std_io2_base.specs.{declared.error.ErrorKind.{ErrorKind}, inner.Kinds.{is_interruption}, Moves.{WriterState}}
use Rattle.no_std_io2_base.specs.{inner.Moves.{HasSpent}, declared.error.Error.{Error}, declared.error.ErrorKind.TheVariants.{WriteZero}}
use Rattle.no_std_io2_base.specs.{Errors.{IsInterruption, IsFault, SaysError}, Calls.{WriteCall, Wrote, WroteAll}}

-- the mishap that `Ok(n)` of `write(x)` counts as: `WriteZero` if n is 0 and x is not empty, and else none
abbrev pub zero_write : ℕ → List ℕ → List ErrorKind
zero_write n x = if (n == 0) && nat_lt 0 (length x) then WriteZero ∷ [] else []

-- C are the writes of a loop that writes x, with its result and what it left of x. `text` is the message of its error if a write
-- takes no byte.
pub data Writes (text : List ℕ) : List WriteCall → List ℕ → Result (Unit {0}) Error → List ℕ → Type 0 where
  -- if x is empty, there is no call
  no_write : Writes text [] [] (Ok tt) []
  -- some bytes were taken, and the loop continues with the others
  write_took : {C : List WriteCall} {x left : List ℕ} {reply : Result (Unit {0}) Error} {n : ℕ} → 0 < length x → 0 < n
      → Writes text C (drop n x) reply left → Writes text (Wrote x (Ok n) ∷ C) x reply left
  -- an interruption is ignored
  write_again : {C : List WriteCall} {x left : List ℕ} {reply : Result (Unit {0}) Error} {e : Error} → 0 < length x → IsInterruption e
      → Writes text C x reply left → Writes text (Wrote x (Err e) ∷ C) x reply left
  -- no byte was taken: that ends the loop, with an error
  write_stuck : {x : List ℕ} {e : Error} → 0 < length x → SaysError WriteZero text e → Writes text (Wrote x (Ok 0) ∷ []) x (Err e) x
  -- a fault ends the loop, and is the result
  write_fault : {x : List ℕ} {e : Error} → 0 < length x → IsFault e → Writes text (Wrote x (Err e) ∷ []) x (Err e) x

-- C are the calls of a `write_all(x)`: the writes of a `write_rest`, or the `write_all` of a type that has a body of its own for it
abbrev pub AllCalls : List WriteCall → List ℕ → Result (Unit {0}) Error → Type 0
AllCalls C x reply = (C ≡ WroteAll x reply ∷ []) ⊎ ((left : List ℕ) × Writes (codes "failed to write whole buffer") C x reply left)

-- The writer takes all: it accepts every write whole from now on, and no mishap is to come.
abbrev pub AcceptsAll : {W : Type 0} → (W → WriterState) → (W → Type 0) → W → Type 0
AcceptsAll told takes_all w = takes_all w × ((told w).mishaps ≡ Some [])

-- These bytes are out, and these are held. Mishaps and turns are those of the writer below.
abbrev pub told_over : List ℕ → List ℕ → WriterState → WriterState
told_over out held below = record below { out = out; held = held }

-- from old to new these mishaps happened: they are no longer to come, and each interruption spent a turn
abbrev pub SpendsMishaps : WriterState → List ErrorKind → WriterState → Type 0
SpendsMishaps old happened new =
    HasSpent old.mishaps happened new.mishaps × (new.turns + count_by is_interruption happened ≤ old.turns)

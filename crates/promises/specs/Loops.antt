-- How many reads a loop makes.
use Rattle.std.specs.Prelude.{ℕ, ◌+◌, ◌<◌, ◌≤◌, ◌⊎◌, min, Result, Ok, Err, IfErr, OnOk}
use Rattle.no_std_io2.specs.{declared.io.Error.{Error}, Errors.{IsOutOfMemory}}

-- 1 if a fault stopped the loop, and else 0
abbrev pub stopped_by_fault : {A : Type 0} → Result A Error → ℕ
stopped_by_fault (Ok _) = 0
stopped_by_fault (Err e) = 1

-- A loop made `now - was` reads: at least one if there was something to do; and at most one for each turn that is
-- gone, and one that stopped it.
pub record CountsLoop {A : Type 0} (wanted turns was : ℕ) (reply : Result A Error) (turns' now : ℕ) : Type 0 where
  pub least : was + min 1 wanted ≤ now
  pub most : now + turns' ≤ was + turns + stopped_by_fault reply

-- 1 if the end stopped the loop, and else 0
abbrev pub stopped_by_end : {A : Type 0} → Result A Error → ℕ
stopped_by_end (Ok _) = 1
stopped_by_end (Err e) = 0

-- A loop read to the end by `now - was` reads: at least one, unless an allocation failed before it; and at most one for
-- each turn that is gone, and one that met the end.
pub record CountsToEnd {A : Type 0} (was turns : ℕ) (reply : Result A Error) (turns' now : ℕ) : Type 0 where
  pub least : OnOk reply (was < now)
  pub asked : IfErr reply (λ e. IsOutOfMemory e ⊎ (was < now))
  pub most : now + turns' ≤ was + turns + stopped_by_end reply

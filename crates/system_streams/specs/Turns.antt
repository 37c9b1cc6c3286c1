-- The results of a `Patient`: its errors, and the turns that a result spends.
use Rattle.std.specs.Prelude.{◌≡◌, ℕ, ◌+◌, ◌<◌, None, Some, Ok, Err, Result, codes, ◌⊎◌}
use Rattle.no_std_io2.specs.{declared.io.{Error.{Error}, ErrorKind.TheVariants.{TimedOut, Interrupted, Other}}, Errors.{error_kind}}
use Rattle.no_std_io2.specs.inner.Kinds.{error_text}
use Rattle.std.specs.IoError as Io
use Rattle.std.specs.declared.io.Error as Std
use Rattle.std.specs.declared.io.ErrorKind as StdKind
use Rattle.std.specs.declared.io.ErrorKind.TheVariants as kind

-- e is the error that no turns are left
abbrev pub IsOutOfTurns : Error → Type 0
IsOutOfTurns e = (error_kind e ≡ TimedOut) × (error_text e ≡ Some (codes "no turns left"))

-- e is an interruption of the device
abbrev pub IsPlainInterruption : Error → Type 0
IsPlainInterruption e = (error_kind e ≡ Interrupted) × (error_text e ≡ None)

-- e is any other fault of the device
abbrev pub IsDeviceFault : Error → Type 0
IsDeviceFault e = (error_kind e ≡ Other) × (error_text e ≡ Some (codes "device fault"))

-- a reader's result that came from its device, and the turns before and after: only `Ok(0)` spends none
abbrev pub AnswersRead : Result ℕ Error → ℕ → ℕ → Type 0
AnswersRead (Ok n) old new = (n ≡ 0 → new ≡ old) × (0 < n → new + 1 ≡ old)
AnswersRead (Err e) old new = (new + 1 ≡ old) × (IsPlainInterruption e ⊎ IsDeviceFault e)

-- a reader's result, if its device returned this: an interruption stays one, and any other fault becomes `device fault`
abbrev pub GivesOn : Result ℕ Std.Error → Result ℕ Error → Type 0
GivesOn (Ok n) (Ok m) = m ≡ n
GivesOn (Err e) (Err f) = (Io.error_kind e ≡ kind.Interrupted → IsPlainInterruption f)
    × ((Io.error_kind e ≡ kind.Interrupted → ⊥) → IsDeviceFault f)
GivesOn (Ok n) (Err f) = ⊥
GivesOn (Err e) (Ok m) = ⊥

-- The error that a writer returns for a device's error of this kind, and the turns before and after. An interruption spends a turn; if none
-- is left, the error says so. Any other fault becomes `device fault`.
pub record Becomes (of : StdKind.ErrorKind) (e : Error) (old new : ℕ) : Type 0 where
  pub interrupted : of ≡ kind.Interrupted → 0 < old → IsPlainInterruption e × (new + 1 ≡ old)
  pub over : of ≡ kind.Interrupted → old ≡ 0 → IsOutOfTurns e × (new ≡ 0)
  pub fault : (of ≡ kind.Interrupted → ⊥) → IsDeviceFault e × (new ≡ old)

-- a writer's result, if its device returned this
abbrev pub AnswersFor : {T : Type 0} → Result T Std.Error → Result T Error → ℕ → ℕ → Type 0
AnswersFor (Ok x) (Ok y) old new = (y ≡ x) × (new ≡ old)
AnswersFor (Err e) (Err f) old new = Becomes (Io.error_kind e) f old new
AnswersFor (Ok x) (Err f) old new = ⊥
AnswersFor (Err e) (Ok y) old new = ⊥

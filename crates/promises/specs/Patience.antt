-- What a loop of reads of a `Patient` gives.
use Rattle.std.specs.{Prelude.{◌≡◌, ℕ, ◌<◌, ◌≤◌, ◌⊎◌, List, length, take, Option, Ok, Err, Result, OnOk}, Io.KnownBytes.{Consumes}}
use Rattle.no_std_io2.specs.{declared.io.Error.{Error}, Errors.{IsUnexpectedEnd}}
use Rattle.system_streams.specs.{declared.patient.Patient.{Patient}, Patient.{patient_device, patient_turns, patient_taken}}
use Rattle.system_streams.specs.Turns.{IsOutOfTurns, IsDeviceFault}

-- how a loop of reads with some room may end: it spent at least one turn, or no turns were left, or the device failed, or the bytes ended
abbrev pub EndsReads : {T : Type 0} → ℕ → Result T Error → ℕ → ℕ → Type 0
EndsReads room (Ok x) old new = (new ≤ old) × (0 < room → new < old)
EndsReads room (Err e) old new =
    (new ≤ old) × ((IsOutOfTurns e × (new ≡ 0) × (0 < old)) ⊎ ((IsDeviceFault e × (new < old)) ⊎ IsUnexpectedEnd e))

-- if the bytes of the device are known, the front of the buffer is what it gave of them: all of the buffer after `Ok`
pub record Got {T : Type 0} (known known' : Option (List ℕ)) (reply : Result T Error) (buf : List ℕ) : Type 0 where
  pub count : ℕ
  pub within : count ≤ length buf
  pub whole : OnOk reply (count ≡ length buf)
  pub device : Consumes known known' (take count buf)

-- From old to new a patient gave bytes of its device, which are the front of buf: all of it after `Ok`. Each result of the device except
-- the end spent a turn.
pub record Fills {D : Type 0} (known : D → Option (List ℕ)) (reply : Result (Unit {0}) Error) (buf : List ℕ) (old new : Patient D)
    : Type 0 where
  pub bytes : Got (known (patient_device old)) (known (patient_device new)) reply buf
  pub ends : EndsReads (length buf) reply (patient_turns old) (patient_turns new)
  pub taken : patient_taken new ≡ patient_taken old

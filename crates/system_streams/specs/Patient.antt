-- What a `Patient` tells.
use Rattle.std.specs.Prelude.{◌≡◌, ℕ, ◌<◌, ◌-◌, ◌^◌, List, [], ◌++◌, length, Option, None, Some, Ok, Err, Result, IsErrAnd}
use Rattle.std.specs.Io.KnownBytes.{ReadConsumes}
use Rattle.no_std_io2.specs.{declared.io.{Error.{Error}, SeekFrom.{SeekFrom, TheVariants.{Start, End, Current}}}, Calls.{ReadCall, Gave}}
use Rattle.no_std_io2.specs.{Calls.{SeekCall, Sought, Measured, Moved, WriteCall, Wrote, WroteAll, Flushed}, Takes.{gave_front}}
use Rattle.no_std_io2.specs.{Moves.{WriterState}, Write.{accepted_of}}
use Rattle.system_streams.specs.declared.{patient.Patient.{Patient}, system.{SystemWrite.{Ghosts as Device}, SystemRead.{Ghosts as Source}}}
use Rattle.system_streams.specs.{declared.system.SystemSeek.{Ghosts as Place}, Turns.{AnswersFor, AnswersRead, GivesOn, IsOutOfTurns}}
use Rattle.std.specs.declared.io.Error as Std
use Rattle.std.specs.declared.io.SeekFrom as StdPlace
use Rattle.std.specs.declared.io.SeekFrom.TheVariants as place

-- `p.into_inner()`
abbrev pub patient_device : {D : Type 0} → Patient D → D
patient_device p = p.device

-- the turns that are left
abbrev pub patient_turns : {D : Type 0} → Patient D → ℕ
patient_turns p = p.turns

-- the bytes that its device reported as taken
abbrev pub patient_taken : {D : Type 0} → Patient D → List ℕ
patient_taken p = p.taken.bytes

-- `p.last_error()`: the last error of its device
abbrev pub patient_error : {D : Type 0} → Patient D → Option Std.Error
patient_error p = p.last_error

-- a patient with all turns, that has not been used
pub record IsFresh {D : Type 0} (p : Patient D) : Type 0 where
  pub turns : patient_turns p ≡ 2 ^ 64 - 1
  pub taken : patient_taken p ≡ []
  pub error : patient_error p ≡ None

-- the last error of a device before and after it returned this
abbrev pub Remembers : {T : Type 0} → Result T Std.Error → Option Std.Error → Option Std.Error → Type 0
Remembers (Ok x) old new = new ≡ old
Remembers (Err e) old new = new ≡ Some e

-- what a patient writer tells: those bytes are out, nothing is held, and no mishaps are told
abbrev pub patient_told : {D : Type 0} → Patient D → WriterState
patient_told p = record { out = patient_taken p; held = []; mishaps = None; turns = patient_turns p }

-- what one call does: it makes the same call of the device, once, and the result is made from the device's result
abbrev pub PatientMay : {D : Type 0} → Device D → Patient D → WriteCall → Patient D → Type 0
PatientMay I old (Wrote x reply) new =
    (answer : Result ℕ Std.Error) × I.may_write (patient_device old) x answer (patient_device new)
    × AnswersFor answer reply (patient_turns old) (patient_turns new) × (patient_taken new ≡ patient_taken old ++ accepted_of reply x)
    × Remembers answer (patient_error old) (patient_error new)
PatientMay I old (Flushed reply) new =
    (answer : Result (Unit {0}) Std.Error) × I.may_flush (patient_device old) answer (patient_device new)
    × AnswersFor answer reply (patient_turns old) (patient_turns new) × (patient_taken new ≡ patient_taken old)
    × Remembers answer (patient_error old) (patient_error new)
PatientMay I old (WroteAll x reply) new = ⊥

-- One read of the device was made, into the buffer buf, and the result is made from the device's result.
pub record AsksDevice {D : Type 0} (I : Source D) (old : Patient D) (reply : Result ℕ Error) (buf : List ℕ) (new : Patient D) : Type 0
  where
    pub given : Result ℕ Std.Error
    pub asked : I.may_read (patient_device old) given buf (patient_device new)
    pub gives_on : GivesOn given reply
    -- known bytes of the device are given, and no others
    pub bytes : ReadConsumes (I.known (patient_device old)) (I.known (patient_device new)) reply buf
    pub turns : AnswersRead reply (patient_turns old) (patient_turns new)
    pub error : Remembers given (patient_error old) (patient_error new)

-- A read of a patient. It makes at most one read of the device.
pub record AsksOnce {D : Type 0} (I : Source D) (old : Patient D) (room : ℕ) (answer : Result (List ℕ) Error) (new : Patient D) : Type 0
  where
    -- into no room, or if no turns are left, it reads nothing
    pub empty : room ≡ 0 → (answer ≡ Ok []) × (new ≡ old)
    pub over : patient_turns old ≡ 0 → (answer ≡ Ok []) × (new ≡ old)
    -- at the last turn it returns an error, and does not call the device
    pub last : 0 < room → patient_turns old ≡ 1 → IsErrAnd answer IsOutOfTurns × (patient_turns new ≡ 0)
        × (patient_device new ≡ patient_device old) × (patient_error new ≡ patient_error old)
    -- with more turns it calls the device once
    pub asked : 0 < room → 1 < patient_turns old → (reply : Result ℕ Error) × (buf : List ℕ) × (length buf ≡ room)
        × (answer ≡ gave_front reply buf) × AsksDevice I old reply buf new
    pub taken : patient_taken new ≡ patient_taken old

-- what one call of a reader does; only its reads call the device
abbrev pub PatientReads : {D : Type 0} → Source D → Patient D → ReadCall → Patient D → Type 0
PatientReads I old (Gave room answer) new = AsksOnce I old room answer new
PatientReads I old call new = ⊥

-- the same place
abbrev pub std_place : SeekFrom → StdPlace.SeekFrom
std_place (Start n) = place.Start n
std_place (End offset) = place.End offset
std_place (Current offset) = place.Current offset

-- what a seek does: it makes the same seek of the device, once, and spends no turn
abbrev pub PatientSeeks : {D : Type 0} → Place D → Patient D → SeekCall → Patient D → Type 0
PatientSeeks I old (Sought to reply) new =
    (answer : Result ℕ Std.Error) × I.may_seek (patient_device old) (std_place to) answer (patient_device new)
    × GivesOn answer reply × Remembers answer (patient_error old) (patient_error new)
    × (patient_turns new ≡ patient_turns old) × (patient_taken new ≡ patient_taken old)
PatientSeeks I old (Measured reply) new = ⊥
PatientSeeks I old (Moved offset reply) new = ⊥

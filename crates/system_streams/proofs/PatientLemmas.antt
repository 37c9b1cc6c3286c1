-- One read of a patient.
use Rattle.std.{proofs.lemmas.Grind.{common_steps}, specs.{Prelude.{min}, Io.KnownBytes.{ReadConsumes}}}
use Rattle.no_std_io2.proofs.Words.{◌≡◌, ℕ, zero, suc, ◌+◌, ◌<◌, ◌≤◌, List, None, Result, Ok, Err, length, refl, arith, IfOk, ⊤, Reader}
use Rattle.no_std_io2.{proofs.Words.{ReadLaw, answered, []}, specs.{declared.io.Error.{Error}, Takes.{gave_front}}}
use Rattle.system_streams.specs.{declared.{patient.Patient.{Patient}, system.SystemRead.{Ghosts as Source}}, Patient.{patient_device}}
use Rattle.system_streams.specs.{Patient.{patient_turns, patient_taken, patient_error, PatientReads, Remembers}, Turns.{AnswersRead}}
use Rattle.system_streams.specs.Turns.{GivesOn}
use Rattle.std.specs.declared.io.Error as Std

-- what a patient reader tells
abbrev pub patient_reader : {D : Type 0} → Source D → Reader (Patient D)
patient_reader device =
    record { store = λ _. None; turns = patient_turns; events = λ _. None; may = PatientReads device; held = λ _. [] }

-- a result that came from the device spent a turn, unless it gave nothing
spent : {old : ℕ} (new : ℕ) (reply : Result ℕ Error) (buf : List ℕ) → AnswersRead reply old new
    → new + min 1 (length (answered (gave_front reply buf))) ≤ old
spent new (Ok zero) buf answers = omega (arith, answers.0 refl)
spent new (Ok (suc n)) buf answers = omega (arith, answers.1 (omega arith))
spent new (Err e) buf answers = omega (arith, answers.0)

module _ {D : Type 0} (I : Source D) where
  -- with some room and more than one turn, a read is one read of the device
  pub asks_once : {old new : Patient D} {buf buf' : List ℕ} {given : Result ℕ Std.Error} (reply : Result ℕ Error)
      → 0 < length buf' → 1 < patient_turns old → I.may_read (patient_device old) given buf' (patient_device new)
      → IfOk reply (λ n. n ≤ length buf') → ReadConsumes (I.known (patient_device old)) (I.known (patient_device new)) reply buf'
      → GivesOn given reply → AnswersRead reply (patient_turns old) (patient_turns new)
      → Remembers given (patient_error old) (patient_error new) → patient_taken new ≡ patient_taken old
      → ReadLaw (patient_reader I) old buf reply buf' new
  asks_once {buf' = buf'} {given} reply some more asked bound bytes gives_on turns error taken = record {
    bound = bound;
    takes = record { events = tt; store = tt; turns = spent _ reply buf' turns };
    end = any_end reply;
    call = record {
      empty = λ none. absurd (omega (arith, none, some));
      over = λ none. absurd (omega (arith, none, more));
      last = λ room one. absurd (omega (arith, one, more));
      asked = λ room many. (
        reply,
        buf',
        refl,
        refl,
        record { given = given; asked = asked; gives_on = gives_on; bytes = bytes; turns = turns; error = error },
      );
      taken = taken;
    };
  }
    where
      any_end : (reply : Result ℕ Error) → IfOk reply (λ n. n ≡ 0 → 0 < length buf' → ⊤)
      any_end reply = grind (arith, common_steps)

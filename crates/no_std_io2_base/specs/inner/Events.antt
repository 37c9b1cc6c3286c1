-- Fronts of events, and how they end.
use Rattle.std.specs.Prelude.{◌≡◌, ℕ, zero, suc, List, [], ◌∷◌, ◌++◌, Option, None, Some, if◌then◌else◌}
use Rattle.no_std_io2_base.specs.{declared.error.Error.{Error}, Errors.{IsFault, error_kind}, inner.Kinds.{is_interruption}}
use Rattle.no_std_io2_base.specs.Events.{Event, byte, fails, events_of, HasNoFault}

-- E up to and including its byte number `limit`, or all of E if it has fewer bytes; nothing if `limit` is 0
abbrev pub cut : ℕ → List Event → List Event
cut zero E = []
cut (suc k) [] = []
cut (suc k) (byte b ∷ E) = byte b ∷ cut k E
cut (suc k) (fails e ∷ E) = fails e ∷ cut (suc k) E

-- P ends in the fault e, and has no other fault
abbrev pub EndsInFault : List Event → Error → Type 0
EndsInFault P e = (Q : List Event) × (P ≡ Q ++ fails e ∷ []) × HasNoFault Q × IsFault e

-- the events E begin with these bytes
pub record BeginsWith (E : List Event) (bs : List ℕ) : Type 0 where
  pub rest : List Event
  pub is : E ≡ events_of bs ++ rest

-- the bytes before the first fault
abbrev pub bytes_to_fault : List Event → List ℕ
bytes_to_fault [] = []
bytes_to_fault (byte b ∷ E) = b ∷ bytes_to_fault E
bytes_to_fault (fails e ∷ E) = if is_interruption (error_kind e) then bytes_to_fault E else []

-- the first fault, if there is one
abbrev pub first_fault : List Event → Option Error
first_fault [] = None
first_fault (byte b ∷ E) = first_fault E
first_fault (fails e ∷ E) = if is_interruption (error_kind e) then first_fault E else Some e

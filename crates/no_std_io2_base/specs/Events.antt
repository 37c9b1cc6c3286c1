-- What a reader is going to give: events, which are bytes and errors, or the rest of a store.
use Rattle.std.specs.Prelude.{ℕ, List, [], ◌∷◌, ⊤, ◌<◌, ◌^◌, length}
use Rattle.no_std_io2_base.specs.{declared.error.Error.{Error}, Errors.{IsInterruption}}

-- one thing that a reader is going to give: a byte, or an error that a call returns
pub data Event : Type 0 where
  byte : ℕ → Event
  fails : Error → Event

-- the events that are these bytes
abbrev pub events_of : List ℕ → List Event
events_of [] = []
events_of (b ∷ bs) = byte b ∷ events_of bs

-- the bytes of E, in order
abbrev pub event_bytes : List Event → List ℕ
event_bytes [] = []
event_bytes (byte b ∷ E) = b ∷ event_bytes E
event_bytes (fails e ∷ E) = event_bytes E

-- E has no fault
abbrev pub HasNoFault : List Event → Type 0
HasNoFault [] = ⊤
HasNoFault (byte b ∷ E) = HasNoFault E
HasNoFault (fails e ∷ E) = IsInterruption e × HasNoFault E

-- A content and a position in it. The length and the position fit a `u64`.
pub record Store : Type 0 where
  pub content : List ℕ
  pub position : ℕ
  pub fits : (length content < 2 ^ 64) × (position < 2 ^ 64)

-- What a reader tells, and what its calls take of that.
use Rattle.std.specs.Prelude.{◌≡◌, ℕ, List, ◌++◌, IfSome, IsSomeAnd, [], ◌∷◌, take, Ok, Err, Result, Option, ◌≤◌, ◌+◌, min, length, ⊤, None}
use Rattle.std.specs.Prelude.{Some}
use Rattle.no_std_io2_base.specs.{Events.{event_bytes, Event, fails, events_of, Store}, declared.error.Error.{Error}}
use Rattle.no_std_io2_base.specs.{Calls.{ReadCall}, inner.Takes.{told_bytes, fits_u64, fits_by, store_by, events_by, AreTaken}}

-- What a reader tells.
pub record ReaderState : Type 0 where
  -- the events to come, if it tells them; a reader with a store need not
  pub events : Option (List Event)
  -- its store, if it tells one
  pub store : Option Store
  -- a number that no call raises
  pub turns : ℕ

-- the store of this content and this position, if both fit
abbrev pub store_at : List ℕ → ℕ → Option Store
store_at content position = store_by (fits_u64 content position) content position (fits_by content position)

-- the events to come, if they are told
abbrev pub to_come : ReaderState → Option (List Event)
to_come t = events_by t.store t.events

-- the ghost members of a reader, as `⟦<R as Read>⟧` names them: that of its store, and its own. `held` are the bytes that it can lend
abbrev pub Reader : Type 0 → Type 1
Reader S = record {
  store : S → Option Store;
  turns : S → ℕ;
  events : S → Option (List Event);
  may : S → ReadCall → S → Type 0;
  held : S → List ℕ;
}

-- what a reader tells
abbrev pub tells : {X : Type 0} → Reader X → X → ReaderState
tells R x = record { events = R.events x; store = R.store x; turns = R.turns x }

-- the bytes that the reader tells to come
abbrev pub bytes_left : {X : Type 0} → Reader X → X → List ℕ
bytes_left R x = told_bytes (to_come (tells R x))

-- If a store was told, it still is, with the same content; and `Goes` holds for its length, its old position and its new one.
abbrev pub KeepsContent : Option Store → (ℕ → ℕ → ℕ → Type 0) → Option Store → Type 0
KeepsContent None Goes new = ⊤
KeepsContent (Some old) Goes None = ⊥
KeepsContent (Some old) Goes (Some new) = (new.content ≡ old.content) × Goes (length old.content) old.position new.position

-- From old to new a reader took the events P.
pub record Takes (old : ReaderState) (P : List Event) (new : ReaderState) : Type 0 where
  -- they are gone from the front of the events to come, and no others are
  pub events : AreTaken (to_come old) P (to_come new)
  -- a store keeps its content, and its position moves by the bytes of P
  pub store : KeepsContent old.store (λ len was now. now ≡ was + length (event_bytes P)) new.store
  -- turns never rise, and whatever is taken spends one
  pub turns : new.turns + min 1 (length P) ≤ old.turns

-- no event is to come, if events are told
abbrev pub IsAtEnd : ReaderState → Type 0
IsAtEnd t = IfSome (to_come t) (λ E. E ≡ [])

-- of the bytes to come, if they are told, these are gone from the front, and no others
abbrev pub LosesFirst : ReaderState → List ℕ → ReaderState → Type 0
LosesFirst old x new = IfSome (to_come old) (λ E. IsSomeAnd (to_come new) (λ E'. event_bytes E ≡ x ++ event_bytes E'))

-- the bytes that `read` gave at the front of buf, or its error
abbrev pub gave_front : Result ℕ Error → List ℕ → Result (List ℕ) Error
gave_front (Ok n) buf = Ok (take n buf)
gave_front (Err e) buf = Err e

-- the events that a `read` took, by its answer: the given bytes, or the error
abbrev pub answered : Result (List ℕ) Error → List Event
answered (Ok x) = events_of x
answered (Err e) = fails e ∷ []

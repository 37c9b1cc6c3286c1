-- What `Bytes`, `Split` and `Lines` have, and what they yield.
use Rattle.std.specs.Prelude.{ℕ, List, Result, Option, ◌≡◌, ◌<◌, true, false, Bool, length, if◌then◌else◌, None, Some, Ok, Err, suc, []}
use Rattle.std.specs.Prelude.{◌∷◌, ◌++◌}
use Rattle.no_std_io2_base.specs.{declared.error.Error.{Error}, Events.{Event, event_bytes, byte, fails, HasNoFault}}
use Rattle.no_std_io2_base.specs.{Takes.{Takes, Reader, tells, ReaderState, IsAtEnd}, Read.{ReadCallLaw}}
use Rattle.no_std_io2_base.specs.{inner.Pieces.{PieceCalls}, Calls.{ByCalls}, declared.traits.split.Split.{Split}}
use Rattle.no_std_io2_base.specs.{declared.traits.lines.Lines.{Lines}, Errors.{IsFault}, declared.traits.bytes.Bytes.{Bytes}}
use Rattle.no_std_io2_base.specs.inner.Read.{GathersUntil}
use Rattle.no_std_io2_base.specs.inner.Pieces.{PieceEnds}

-- the inner reader
abbrev pub bytes_reader : {R : Type 0} → Bytes R → R
bytes_reader s = s.inner

-- E has only interruptions
abbrev IsInterruptionsAlone : List Event → Type 0
IsInterruptionsAlone E = HasNoFault E × (event_bytes E ≡ [])

-- P are interruptions, and then this event
abbrev IsRetried : List Event → Event → Type 0
IsRetried P event = (Q : List Event) × (P ≡ Q ++ event ∷ []) × IsInterruptionsAlone Q

-- how a `next` that took P ended: with a byte, with a fault, or at the end
abbrev EndsNext : List Event → Option (Result ℕ Error) → ReaderState → Type 0
EndsNext P None new = IsInterruptionsAlone P × IsAtEnd new
EndsNext P (Some (Ok b)) new = IsRetried P (byte b)
EndsNext P (Some (Err e)) new = IsRetried P (fails e) × IsFault e

-- what the last read of a `next` returned, if `next` yields this
abbrev last_read : Option (Result ℕ Error) → Result (List ℕ) Error
last_read None = Ok []
last_read (Some (Ok b)) = Ok (b ∷ [])
last_read (Some (Err e)) = Err e

-- A `next` took some events, by reads into room for one byte each. All but the last were interrupted.
pub record NextLaw {X : Type 0} (R : Reader X) (old : X) (result : Option (Result ℕ Error)) (new : X) : Type 0 where
  pub taken : List Event
  pub takes : Takes (tells R old) taken (tells R new)
  -- they end in the byte or the fault that it yields
  pub ends : EndsNext taken result (tells R new)
  -- which reads it made
  pub calls : ByCalls (ReadCallLaw R) old (λ C. GathersUntil (λ _ room. room ≡ 1) C [] (last_read result)) new

-- the inner reader
abbrev pub split_reader : {R : Type 0} → Split R → R
split_reader s = s.inner

-- the delimiter
abbrev pub split_delim : {R : Type 0} → Split R → ℕ
split_delim s = s.delim

-- whether it has yielded an error, and so yields nothing more
abbrev pub split_is_ended : {R : Type 0} → Split R → Bool
split_is_ended s = s.is_ended

-- the inner reader
abbrev pub lines_reader : {R : Type 0} → Lines R → R
lines_reader s = s.inner

-- whether it has yielded an error, and so yields nothing more
abbrev pub lines_is_ended : {R : Type 0} → Lines R → Bool
lines_is_ended s = s.is_ended

-- what `next` yields if a piece was read with this result
abbrev YieldsRead : {T : Type 0} → (T → List ℕ) → (List ℕ → List ℕ) → (List ℕ → Error → Type 0) → List ℕ → Result ℕ Error
    → Option (Result T Error) → Type 0
YieldsRead view trim refuses piece (Ok n) None = length piece ≡ 0
YieldsRead view trim refuses piece (Ok n) (Some (Ok item)) = (0 < length piece) × (view item ≡ trim piece)
YieldsRead view trim refuses piece (Ok n) (Some (Err e)) = (0 < length piece) × refuses piece e
YieldsRead view trim refuses piece (Err e) result = result ≡ Some (Err e)

-- whether the iterator has ended after yielding this: yes, if it is an error
abbrev pub ends_at : {T : Type 0} → Option (Result T Error) → Bool
ends_at None = false
ends_at (Some (Ok item)) = false
ends_at (Some (Err e)) = true

-- an upper bound on the items to come, from the reader's turns
abbrev pub items_left : Bool → ℕ → ℕ
items_left is_ended turns = if is_ended then 0 else suc turns

-- A `next` of `Split` or `Lines` took one piece, as `read_until` takes it into a new vector, and yields it, trimmed, or an error. `view`
-- gives the bytes of an item. A new vector has no room, so memory can be refused for the first byte of an item.
pub record NextPieceLaw {X T : Type 0} (R : Reader X) (old : X) (view : T → List ℕ) (trim : List ℕ → List ℕ)
    (refuses : List ℕ → Error → Type 0) (d : ℕ) (result : Option (Result T Error)) (new : X) : Type 0 where
  pub taken : List Event
  pub takes : Takes (tells R old) taken (tells R new)
  -- it is one piece, taken with this result
  pub read : Result ℕ Error
  pub ends : PieceEnds (λ _. Unit {0}) d (tells R old) taken read
  -- that is what it yields
  pub yields : YieldsRead view trim refuses (event_bytes taken) read result
  -- which calls it made
  pub calls : ByCalls (ReadCallLaw R) old (λ C. PieceCalls (Unit {0}) d C (event_bytes taken) read) new

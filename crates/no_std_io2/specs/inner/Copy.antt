-- Which bytes a copy moves, which calls it makes, and which side ended it.
use Rattle.std.specs.{Prelude.{◌≡◌, ℕ, ◌+◌, ◌-◌, ◌^◌, ◌≤◌, ◌<◌, min, List, [], ◌∷◌, ◌++◌, length, Ok, Err, Result}, List.{concat}}
use Rattle.no_std_io2_base.specs.{declared.error.Error.{Error}, Errors.{error_kind, IsFault, IsInterruption}}
use Rattle.no_std_io2_base.specs.{Events.{Event, event_bytes, HasNoFault}, inner.Events.{EndsInFault}, Takes.{ReaderState, IsAtEnd, Reader}}
use Rattle.no_std_io2_base.specs.{Calls.{ReadCall, WriteCall, Made, Filled, Consumed}, inner.Read.{Gathers}, Read.{ReadCallLaw}}
use Rattle.no_std_io2_base.specs.{Moves.{WriterState, Moves, IsFront}, inner.Write.{AllCalls}, Writers.{Writer}, inner.Writers.{CallOf}}
use Rattle.no_std_io2.specs.{declared.util.sides.CopyError.{CopyError}, declared.util.sides.CopyError.TheVariants.{Read, Write}}

-- the number of bytes, at most `u64::MAX`
abbrev pub counted : List ℕ → ℕ
counted b = min (length b) (2 ^ 64 - 1)

-- A copy that took P from the reader, n bytes, ended at the reader's end, after which the reader tells `end`.
pub record CopiedWhole (room n : ℕ) (P : List Event) (end : ReaderState) (old new : WriterState) : Type 0 where
  pub no_fault : HasNoFault P
  pub at_end : 0 < room → IsAtEnd end
  pub count : n ≡ counted (event_bytes P)
  pub moves : Moves old (event_bytes P) [] new

-- It ended at the reader's fault, when the writer had accepted all bytes before it.
pub record ReaderStops (e : Error) (P : List Event) (old new : WriterState) : Type 0 where
  pub fault : EndsInFault P e
  pub moves : Moves old (event_bytes P) [] new

-- Of these bytes some first ones were accepted, all except at most the last `room`.
pub record IsNearlyAll (room : ℕ) (accepted x : List ℕ) : Type 0 where
  pub front : IsFront accepted x
  pub lost : length x ≤ length accepted + room

-- It ended at the writer's fault, when the reader had none: of the bytes that were taken, the writer accepted all except at most the last
-- `room`.
pub record WriterRefuses (room : ℕ) (e : Error) (P : List Event) (old new : WriterState) : Type 0 where
  pub no_fault : HasNoFault P
  pub some_room : 0 < room
  pub fault : IsFault e
  pub accepted : List ℕ
  pub nearly : IsNearlyAll room accepted (event_bytes P)
  pub moves : Moves old accepted (error_kind e ∷ []) new

-- how a copy that took P from the reader ended: at the reader's end, at its fault, or at the writer's fault
abbrev pub CopyEnds : ℕ → Result ℕ CopyError → List Event → ReaderState → WriterState → WriterState → Type 0
CopyEnds room (Ok n) P end old new = CopiedWhole room n P end old new
CopyEnds room (Err (Read e)) P end old new = ReaderStops e P old new
CopyEnds room (Err (Write e)) P end old new = WriterRefuses room e P old new

-- These calls pass the pieces on, one `write_all` for each, and none after an error. A piece has at least one byte, and at most S.
pub data Handed (S : ℕ) : List (List ℕ) → List WriteCall → Result (Unit {0}) Error → Type 0 where
  handed_none : Handed S [] [] (Ok tt)
  handed_piece : {x : List ℕ} {xs : List (List ℕ)} {C D : List WriteCall} {reply : Result (Unit {0}) Error} → Handed S xs C (Ok tt)
      → 0 < length x → length x ≤ S → AllCalls D x reply → Handed S (xs ++ x ∷ []) (C ++ D) reply

-- The bytes that a reader gave were passed on to a writer, piece by piece: each piece is what one read gave. After them
-- the reader got the calls `last`.
pub record HandsOn {R W : Type 0} (K : Reader R) (I : Writer W) (S : ℕ) (last : List ReadCall) (from : R) (old : W)
    (reply : Result (Unit {0}) Error) (from' : R) (new : W) : Type 0 where
  pub pieces : List (List ℕ)
  pub calls : List WriteCall
  pub handed : Handed S pieces calls reply
  -- the writer got no other call
  pub made : Made (CallOf I) old calls new
  -- each read was into the whole buffer; joined, the pieces are what they gave
  pub reads : List ReadCall
  pub gathered : Gathers (λ _ room. room ≡ S) reads (concat pieces)
  -- the reader got no other call
  pub asked : Made (ReadCallLaw K) from (reads ++ last) from'
  -- each piece spent a turn
  pub turns : K.turns from' + length pieces ≤ K.turns from

-- the error of the side that failed
abbrev pub side_error : CopyError → Error
side_error (Read e) = e
side_error (Write e) = e

-- the same result, whichever side failed
abbrev pub without_side : Result ℕ CopyError → Result ℕ Error
without_side (Ok n) = Ok n
without_side (Err side) = Err (side_error side)

-- C are the calls of the reader, and D those of the writer. Each piece that was lent was passed on by one `write_all`, and then
-- consumed. The last call of the reader lent nothing, or returned a fault; or it lent a piece whose `write_all` failed.
pub data HandsLent : List ReadCall → List WriteCall → Result ℕ CopyError → Type 0 where
  lends_none : {n : ℕ} → HandsLent (Filled (Ok []) ∷ []) [] (Ok n)
  lends_fault : {e : Error} → HandsLent (Filled (Err e) ∷ []) [] (Err (Read e))
  again_lent : {C : List ReadCall} {D : List WriteCall} {reply : Result ℕ CopyError} {e : Error} → IsInterruption e → HandsLent C D reply
      → HandsLent (Filled (Err e) ∷ C) D reply
  piece_lent : {C : List ReadCall} {B D : List WriteCall} {reply : Result ℕ CopyError} {x : List ℕ} → 0 < length x → AllCalls B x (Ok tt)
      → HandsLent C D reply → HandsLent (Filled (Ok x) ∷ Consumed (length x) ∷ C) (B ++ D) reply
  lends_refused : {B : List WriteCall} {x : List ℕ} {e : Error} → 0 < length x → AllCalls B x (Err e)
      → HandsLent (Filled (Ok x) ∷ []) B (Err (Write e))

-- It ended at the writer's fault, when the reader had none. The writer accepted all that was taken, and these first bytes of the piece that
-- the reader still holds.
pub record RefusesLent (e : Error) (P : List Event) (held : List ℕ) (old new : WriterState) : Type 0 where
  pub no_fault : HasNoFault P
  pub fault : IsFault e
  pub accepted : List ℕ
  pub front : IsFront accepted held
  pub moves : Moves old (event_bytes P ++ accepted) (error_kind e ∷ []) new

-- how a copy of lent pieces that took P from the reader ended: at the reader's end, at its fault, or at the writer's fault
abbrev pub LentEnds : Result ℕ CopyError → List Event → List ℕ → ReaderState → WriterState → WriterState → Type 0
LentEnds (Ok n) P held end old new = CopiedWhole 1 n P end old new
LentEnds (Err (Read e)) P held end old new = ReaderStops e P old new
LentEnds (Err (Write e)) P held end old new = RefusesLent e P held old new

-- Pieces of bytes, each of which ends in a delimiter, and the calls that take one.
use Rattle.std.specs.Prelude.{◌≡◌, ◌≢◌, ℕ, ◌<◌, ◌+◌, ◌≤◌, ◌==◌, true, false, Bool, List, [], ◌∷◌, ◌++◌, length, take, filter, if◌then◌else◌}
use Rattle.std.specs.{Prelude.{◌⊎◌}, Io.BufRead.{ends_with_byte}}
use Rattle.std.specs.{Prelude.{Option, None, Some, Result, Ok, Err, IfSome}, List.{AllByRecursion, concat}}
use Rattle.no_std_io2_base.specs.{declared.error.Error.{Error}, Errors.{IsInterruption, IsFault, IsOutOfMemory}}
use Rattle.no_std_io2_base.specs.Events.{Event, byte, events_of, event_bytes, HasNoFault}
use Rattle.no_std_io2_base.specs.inner.Events.{bytes_to_fault, first_fault, EndsInFault}
use Rattle.no_std_io2_base.specs.{Takes.{ReaderState, to_come}, Calls.{ReadCall, Filled, Consumed}}

-- d is not among these bytes
abbrev pub Lacks : ℕ → List ℕ → Type 0
Lacks d bs = AllByRecursion (λ b. b ≢ d) bs

-- the list without its last element
abbrev pub but_last : {X : Type 0} → List X → List X
but_last [] = []
but_last (x ∷ []) = []
but_last (x ∷ y ∷ xs) = x ∷ but_last (y ∷ xs)

-- the pieces with b put in front of the first one; if there is no piece, b alone is the first
abbrev pub in_front : ℕ → List (List ℕ) → List (List ℕ)
in_front b [] = (b ∷ []) ∷ []
in_front b (p ∷ ps) = (b ∷ p) ∷ ps

-- the bytes, cut right after each d
abbrev pub pieces_of : ℕ → List ℕ → List (List ℕ)
pieces_of d [] = []
pieces_of d (b ∷ bs) = if b == d then (b ∷ []) ∷ pieces_of d bs else in_front b (pieces_of d bs)

-- These are the pieces of the bytes: exactly one list of pieces has these four properties.
pub record ArePieces (d : ℕ) (bs : List ℕ) (ps : List (List ℕ)) : Type 0 where
  -- joined they are the bytes
  pub joined : concat ps ≡ bs
  -- none is empty
  pub none_empty : AllByRecursion (λ p. 0 < length p) ps
  -- each except possibly the last ends in d
  pub ended : AllByRecursion (λ p. ends_with_byte d p ≡ true) (but_last ps)
  -- d is nowhere else in a piece
  pub nowhere_else : AllByRecursion (λ p. Lacks d (but_last p)) ps

-- these bytes end in d, the only one in them
abbrev pub EndsPiece : ℕ → List ℕ → Type 0
EndsPiece d bs = (front : List ℕ) × (bs ≡ front ++ d ∷ []) × Lacks d front

-- the events P end in the byte d, the only d in them
abbrev pub EndsAt : ℕ → List Event → Type 0
EndsAt d P = (front : List Event) × (P ≡ front ++ byte d ∷ []) × Lacks d (event_bytes front)

-- The first n of these bytes belong to the next piece. They complete it if they end in d, or if there are no bytes: then nothing is to
-- come. If they do not complete it, they are all of these bytes.
pub record FindsPiece (d : ℕ) (bs : List ℕ) (n : ℕ) (is_whole : Bool) : Type 0 where
  pub within : n ≤ length bs
  pub whole : is_whole ≡ true → EndsPiece d (take n bs) ⊎ (bs ≡ [])
  pub open_ended : is_whole ≡ false → (0 < n) × Lacks d (take n bs) × (n ≡ length bs)

-- these bytes are a part of a piece: there are some, and only the last may be d
abbrev pub IsPiecePart : ℕ → List ℕ → Type 0
IsPiecePart d part = (0 < length part) × Lacks d (but_last part)

-- behind the events P these bytes are to come, if events are told
abbrev pub ComesBehind : ReaderState → List Event → List ℕ → Type 0
ComesBehind t P x = IfSome (to_come t) (λ E. (rest : List Event) × (E ≡ P ++ (events_of x ++ rest)))

-- P is all that is to come, if events are told
abbrev pub IsAll : ReaderState → List Event → Type 0
IsAll t P = IfSome (to_come t) (λ E. E ≡ P)

-- How a call that took the events P of one piece ended: with the first d, or at the end; or before a d, with a fault, or since an
-- allocation failed for the next bytes of the piece. `lacks` is the reason why these and the bytes of P needed one. At the end P is all
-- that was told. The last call is then a `consume` of no byte, after which a reader that told nothing may tell events (`at_end_after`).
abbrev pub PieceEnds : (ℕ → Type 0) → ℕ → ReaderState → List Event → Result ℕ Error → Type 0
PieceEnds lacks d old P (Ok n) = HasNoFault P × (n ≡ length (event_bytes P)) × (EndsAt d P ⊎ (Lacks d (event_bytes P) × IsAll old P))
PieceEnds lacks d old P (Err e) = Lacks d (event_bytes P) × (EndsInFault P e ⊎ (HasNoFault P × IsOutOfMemory e
    × ((part : List ℕ) × IsPiecePart d part × ComesBehind old P part × lacks (length (event_bytes P) + length part))))

-- C are the calls of a loop that took x, and no d yet: each `fill_buf` lent some bytes without d, and all of them were consumed;
-- or it was interrupted
pub data PartCalls (d : ℕ) : List ReadCall → List ℕ → Type 0 where
  no_part : PartCalls d [] []
  and_part : (C : List ReadCall) (x lent : List ℕ) → PartCalls d C x → 0 < length lent → Lacks d lent
      → PartCalls d (C ++ Filled (Ok lent) ∷ Consumed (length lent) ∷ []) (x ++ lent)
  part_interrupted : (C : List ReadCall) (x : List ℕ) (e : Error) → PartCalls d C x → IsInterruption e
      → PartCalls d (C ++ Filled (Err e) ∷ []) x

-- C are the calls of a loop that took a piece x: the last `fill_buf` lent the end of x, and the bytes up to this end were consumed; or it
-- lent nothing. If the result is an error, the last `fill_buf` returned this fault; or, if the loop allocates, it lent some bytes, the
-- allocation for them failed, and none of them were consumed.
abbrev pub PieceCalls : Type 0 → ℕ → List ReadCall → List ℕ → Result ℕ Error → Type 0
PieceCalls may_refuse d C x (Ok _) = (D : List ReadCall) × (y : List ℕ) × (lent : List ℕ) × (n : ℕ) × PartCalls d D y
    × FindsPiece d lent n true × (x ≡ y ++ take n lent) × (C ≡ D ++ Filled (Ok lent) ∷ Consumed n ∷ [])
PieceCalls may_refuse d C x (Err e) = (D : List ReadCall) × PartCalls d D x × ((IsFault e × (C ≡ D ++ Filled (Err e) ∷ []))
    ⊎ (may_refuse × IsOutOfMemory e × (lent : List ℕ) × (0 < length lent) × (C ≡ D ++ Filled (Ok lent) ∷ [])))

-- all pieces; or, if a fault comes after them, those that end in d
abbrev pub pieces_before : ℕ → Option Error → List ℕ → List (List ℕ)
pieces_before d None bs = pieces_of d bs
pieces_before d (Some e) bs = filter (ends_with_byte d) (pieces_of d bs)

-- the pieces that a reader with these events gives: all, or those that end in d before the first fault
abbrev pub pieces_given : ℕ → List Event → List (List ℕ)
pieces_given d E = pieces_before d (first_fault E) (bytes_to_fault E)

-- the events E give these pieces first, and then what those after them give
pub record GivesFirst (d : ℕ) (E : List Event) (ps : List (List ℕ)) (after : List Event) : Type 0 where
  pub pieces : pieces_given d E ≡ ps ++ pieces_given d after
  pub fault : first_fault E ≡ first_fault after
  pub bytes : bytes_to_fault E ≡ concat ps ++ bytes_to_fault after

-- the events E give this piece next, and then what those after it give
pub record GivesNext (d : ℕ) (E : List Event) (piece : List ℕ) (after : List Event) : Type 0 where
  pub pieces : pieces_given d E ≡ piece ∷ pieces_given d after
  pub fault : first_fault E ≡ first_fault after
  pub bytes : bytes_to_fault E ≡ piece ++ bytes_to_fault after

-- they give nothing, and have no fault
abbrev pub GivesNone : ℕ → List Event → Type 0
GivesNone d E = (pieces_given d E ≡ []) × (first_fault E ≡ None)

-- What a piece that was read with this result says of the events E: it comes next; or none does. After an error, it is the first fault, and
-- no piece comes before it; or a byte was to come, and memory was refused.
abbrev pub GivenRead : ℕ → List Event → List ℕ → Result ℕ Error → List Event → Type 0
GivenRead d E piece (Ok n) after = ((0 < length piece) × GivesNext d E piece after) ⊎ ((length piece ≡ 0) × GivesNone d E)
GivenRead d E piece (Err e) after = ((pieces_given d E ≡ []) × (first_fault E ≡ Some e))
    ⊎ (IsOutOfMemory e × (0 < length (bytes_to_fault E)))

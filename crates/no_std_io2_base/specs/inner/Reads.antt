-- Calls of a reader, one after another, and how they ended. `how` is `Ok(true)` if the reader may go on,
-- `Ok(false)` if it met the end, and an error if it met that fault.
use Rattle.std.specs.Prelude.{◌≡◌, ℕ, ◌-◌, ◌<◌, min, List, [], ◌∷◌, ◌++◌, length, take, Result, Ok, Err, ◌+◌, ◌≤◌, drop, ◌⊎◌, ⊤, Bool, true}
use Rattle.std.specs.Prelude.{false, IfErr}
use Rattle.no_std_io2_base.specs.{declared.error.Error.{Error}, Errors.{IsInterruption, IsFault}}
use Rattle.no_std_io2_base.specs.{Calls.{ReadCall, Filled, Consumed, Made, Gave, GaveExactly, GaveAll}, Events.{Store, Event, HasNoFault}}
use Rattle.no_std_io2_base.specs.{Seek.{IsTarget}, declared.traits.seek.SeekFrom.{SeekFrom}, inner.Events.{EndsInFault}}
use Rattle.no_std_io2_base.specs.{Takes.{ReaderState, IsAtEnd, Reader}, Read.{ReadCallLaw}, inner.Read.{Gathers, GathersUntil}}

-- how a reader that took P ended, and tells this now
abbrev pub GathersTo : List Event → Result Bool Error → ReaderState → Type 0
GathersTo P (Ok true) new = HasNoFault P
GathersTo P (Ok false) new = HasNoFault P × IsAtEnd new
GathersTo P (Err e) new = EndsInFault P e

-- C are reads in a row that gave x, and ended like this
abbrev pub ReadsTo : (ℕ → ℕ → Type 0) → List ReadCall → List ℕ → Result Bool Error → Type 0
ReadsTo asks C x (Ok true) = Gathers asks C x
ReadsTo asks C x (Ok false) = GathersUntil asks C x (Ok [])
ReadsTo asks C x (Err e) = GathersUntil asks C x (Err e)

-- From old to new reads gave x, and ended like this. `asks` says into how much room a read is made after that many bytes.
pub record Reads {X : Type 0} (R : Reader X) (asks : ℕ → ℕ → Type 0) (old : X) (x : List ℕ) (how : Result Bool Error)
    (new : X) : Type 0 where
  pub calls : List ReadCall
  pub made : Made (ReadCallLaw R) old calls new
  pub are : ReadsTo asks calls x how
  pub fault : IfErr how IsFault

-- some bytes were given or lent, or the call was interrupted
abbrev GoesOn : Result (List ℕ) Error → Type 0
GoesOn (Ok x) = 0 < length x
GoesOn (Err e) = IsInterruption e

-- each of these calls went on, or consumed lent bytes
abbrev pub AllGoOn : List ReadCall → Type 0
AllGoOn [] = ⊤
AllGoOn (Gave room answer ∷ C) = GoesOn answer × AllGoOn C
AllGoOn (Filled answer ∷ C) = GoesOn answer × AllGoOn C
AllGoOn (Consumed n ∷ C) = AllGoOn C
AllGoOn (GaveExactly room answer ∷ C) = ⊥
AllGoOn (GaveAll x answer ∷ C) = ⊥

-- this call met the end or the fault
abbrev AnsweredBy : ReadCall → Result (List ℕ) Error → Type 0
AnsweredBy call answer = (call ≡ Filled answer) ⊎ ((room : ℕ) × (call ≡ Gave room answer))

-- calls that went on were made, and then, at the end or a fault, one more, which met it
abbrev pub Asked : List ReadCall → Result Bool Error → Type 0
Asked C (Ok true) = AllGoOn C
Asked C (Ok false) = (D : List ReadCall) × (call : ReadCall) × AllGoOn D × (C ≡ D ++ call ∷ []) × AnsweredBy call (Ok [])
Asked C (Err e) = (D : List ReadCall) × (call : ReadCall) × AllGoOn D × (C ≡ D ++ call ∷ []) × AnsweredBy call (Err e)

-- C are the calls of a loop that takes `want` bytes and has taken x: each `fill_buf` lent some bytes, and as many of them as were still
-- wanted were consumed; or it was interrupted
pub data PortionCalls (want : ℕ) : List ReadCall → List ℕ → Type 0 where
  no_portion : PortionCalls want [] []
  and_portion : (C : List ReadCall) (x lent : List ℕ) (n : ℕ) → PortionCalls want C x → length x < want → 0 < length lent
      → n ≡ min (length lent) (want - length x) → PortionCalls want (C ++ Filled (Ok lent) ∷ Consumed n ∷ []) (x ++ take n lent)
  portion_interrupted : (C : List ReadCall) (x : List ℕ) (e : Error) → PortionCalls want C x → length x < want → IsInterruption e
      → PortionCalls want (C ++ Filled (Err e) ∷ []) x

-- C are such calls, and then a `fill_buf` with this answer, which ended the loop too early
abbrev pub PortionsUntil : ℕ → List ReadCall → List ℕ → Result (List ℕ) Error → Type 0
PortionsUntil want C x answer = (D : List ReadCall) × PortionCalls want D x × (length x < want) × (C ≡ D ++ Filled answer ∷ [])

-- the target of this seek exists, and n bytes of the content are there
abbrev pub HasBytesAt : SeekFrom → ℕ → Store → Type 0
HasBytesAt at n s = (place : ℕ) × IsTarget (length s.content) s.position at place × (place + n ≤ length s.content)

-- the bytes of the content from the target of this seek on are bs, and this position is after them
pub record ReadsAt (s : Store) (at : SeekFrom) (bs : List ℕ) (now : ℕ) : Type 0 where
  pub place : ℕ
  pub target : IsTarget (length s.content) s.position at place
  pub there : bs ≡ take (length bs) (drop place s.content)
  pub behind : now ≡ place + length bs

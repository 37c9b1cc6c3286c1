-- What the laws of `Read` and `BufRead` are made of: answers, and the reads of a loop.
use Rattle.std.specs.Prelude.{ℕ, ◌-◌, List, Ok, Err, Result, ◌^◌, min, ◌≡◌, ◌<◌, [], ◌∷◌, ◌++◌, length, ◌⊎◌, ◌+◌, ◌≤◌, IfOk, IfSome}
use Rattle.std.specs.Borrow.{Bor}
use Rattle.no_std_io2_base.specs.{declared.error.Error.{Error}, Errors.{IsInterruption, IsFault, IsUnexpectedEnd, IsOutOfMemory}}
use Rattle.no_std_io2_base.specs.{Events.{Event, fails, event_bytes, HasNoFault}, inner.Events.{cut, BeginsWith, EndsInFault}}
use Rattle.no_std_io2_base.specs.{Takes.{ReaderState, Takes, to_come, IsAtEnd, Reader, tells, answered}, Moves.{IsFront}}
use Rattle.no_std_io2_base.specs.Calls.{ReadCall, Gave, GaveExactly, GaveAll, Filled}

-- all of buf, or the error
abbrev pub gave_whole : Result (Unit {0}) Error → List ℕ → Result (List ℕ) Error
gave_whole (Ok u) buf = Ok buf
gave_whole (Err e) buf = Err e

-- the result without its number
abbrev pub without_number : Result ℕ Error → Result (Unit {0}) Error
without_number (Ok n) = Ok tt
without_number (Err e) = Err e

-- the bytes of a result: none if it is an error
abbrev pub bytes_given : Result (List ℕ) Error → List ℕ
bytes_given (Ok x) = x
bytes_given (Err e) = []

-- C are reads in a row that gave x: each gave some bytes, or was interrupted. `asks` says into how much room a read
-- is made after that many bytes.
pub data Gathers (asks : ℕ → ℕ → Type 0) : List ReadCall → List ℕ → Type 0 where
  no_read : Gathers asks [] []
  and_gave : (C : List ReadCall) (x y : List ℕ) (room : ℕ) → Gathers asks C x → asks (length x) room → 0 < length y
      → Gathers asks (C ++ Gave room (Ok y) ∷ []) (x ++ y)
  and_again : (C : List ReadCall) (x : List ℕ) (room : ℕ) (e : Error) → Gathers asks C x → asks (length x) room → IsInterruption e
      → Gathers asks (C ++ Gave room (Err e) ∷ []) x

-- C are such reads, and then a read that ended them with this result
abbrev pub GathersUntil : (ℕ → ℕ → Type 0) → List ReadCall → List ℕ → Result (List ℕ) Error → Type 0
GathersUntil asks C x answer = (D : List ReadCall) × (room : ℕ) × Gathers asks D x × asks (length x) room × (C ≡ D ++ Gave room answer ∷ [])

-- the room after `at` bytes of a buffer of `size` is all of the rest, and not empty
abbrev pub IsRest : ℕ → ℕ → ℕ → Type 0
IsRest size at room = (at + room ≡ size) × (0 < room)

-- there is some room
abbrev pub IsRoom : ℕ → ℕ → Type 0
IsRoom at room = 0 < room

-- C are the reads of a `read_exact(buf)`: they fill buf, or its front if the end or a fault comes first
abbrev pub FillCalls : List ReadCall → Result (Unit {0}) Error → List ℕ → Type 0
FillCalls C (Ok u) buf = Gathers (IsRest (length buf)) C buf
FillCalls C (Err e) buf = (x : List ℕ) × IsFront x buf × ((IsUnexpectedEnd e × GathersUntil (IsRest (length buf)) C x (Ok []))
    ⊎ (IsFault e × GathersUntil (IsRest (length buf)) C x (Err e)))

-- C are the calls of a `read_exact(buf)`: these reads, or the `read_exact` of a type that has a body of its own for it
abbrev pub ExactCalls : List ReadCall → Result (Unit {0}) Error → List ℕ → Type 0
ExactCalls C reply buf = (C ≡ GaveExactly (length buf) (gave_whole reply buf) ∷ []) ⊎ FillCalls C reply buf

-- C are the reads of a `read_full` into this much room, which gave x: until it is full, or the end or a fault comes first
abbrev pub FullCalls : List ReadCall → ℕ → List ℕ → Result (Unit {0}) Error → Type 0
FullCalls C room x (Ok u) = (Gathers (IsRest room) C x × (length x ≡ room)) ⊎ GathersUntil (IsRest room) C x (Ok [])
FullCalls C room x (Err e) = IsFault e × GathersUntil (IsRest room) C x (Err e)

-- C are the reads of a `read_to_end` that gave x: up to the end, a fault, or a failed allocation
abbrev pub DrainCalls : List ReadCall → List ℕ → Result (Unit {0}) Error → Type 0
DrainCalls C x (Ok u) = GathersUntil IsRoom C x (Ok [])
DrainCalls C x (Err e) = (IsFault e × GathersUntil IsRoom C x (Err e)) ⊎ (IsOutOfMemory e × Gathers IsRoom C x)

-- C are the calls of a `read_to_end` that gave x: these reads, or some reads and then the `read_to_end` of a type that has a body of its
-- own for it
abbrev pub ToEndCalls : List ReadCall → List ℕ → Result (Unit {0}) Error → Type 0
ToEndCalls C x answer = ((D : List ReadCall) × (y : List ℕ) × (z : List ℕ) × Gathers IsRoom D y × (x ≡ y ++ z)
    × (C ≡ D ++ GaveAll z answer ∷ [])) ⊎ DrainCalls C x answer

-- there is some room, which ends at most `limit` bytes behind the start
abbrev pub IsRoomWithin : ℕ → ℕ → ℕ → Type 0
IsRoomWithin limit at room = (0 < room) × (at + room ≤ limit)

-- C are the reads of a `read_at_most` that gave x: up to the limit, the end, a fault, or a failed allocation
abbrev pub AtMostCalls : List ReadCall → ℕ → List ℕ → Result (Unit {0}) Error → Type 0
AtMostCalls C limit x (Ok u) = (Gathers (IsRoomWithin limit) C x × (length x ≡ limit)) ⊎ GathersUntil (IsRoomWithin limit) C x (Ok [])
AtMostCalls C limit x (Err e) = (IsFault e × GathersUntil (IsRoomWithin limit) C x (Err e))
    ⊎ (IsOutOfMemory e × Gathers (IsRoomWithin limit) C x)

-- the events that a `fill_buf` took: none, or the error that it returned
abbrev pub fault_of : Result (List ℕ) Error → List Event
fault_of (Ok x) = []
fault_of (Err e) = fails e ∷ []

-- P has no fault, and its bytes are x. If these are `room` bytes, it ends with the last of them.
pub record Gives (room : ℕ) (P : List Event) (x : List ℕ) : Type 0 where
  pub no_fault : HasNoFault P
  pub given : event_bytes P ≡ x
  pub within : cut room P ≡ P

-- all was taken; or nothing was, of fewer bytes than `room` without a fault
abbrev pub AllOrNone : List Event → ℕ → List Event → Type 0
AllOrNone P room left = (left ≡ []) ⊎ ((P ≡ []) × HasNoFault left × (length (event_bytes left) < room))

-- how a `read_exact` of `room` bytes that took P ended: it gave them; or a fault came before the last of them, or the end
abbrev pub FillsOrEnds : ℕ → List Event → Result (List ℕ) Error → ReaderState → Type 0
FillsOrEnds room P (Ok x) new = Gives room P x × (length x ≡ room)
FillsOrEnds room P (Err e) new = (length (event_bytes P) < room)
    × (EndsInFault P e ⊎ (IsUnexpectedEnd e × HasNoFault P × IfSome (to_come new) (AllOrNone P room)))

-- how a `read_full` into this much room that took P ended: it gave so many bytes, or met the end; or a fault came first
abbrev pub FillsOrMeetsEnd : ℕ → List Event → Result (Unit {0}) Error → ReaderState → Type 0
FillsOrMeetsEnd room P (Ok u) new = HasNoFault P × (cut room P ≡ P) × (length (event_bytes P) < room → IsAtEnd new)
FillsOrMeetsEnd room P (Err e) new = EndsInFault P e × (length (event_bytes P) < room)

-- how a `read_to_end` that took P ended: at the end; or after a fault; or since an allocation failed, for which `lacks` is a reason
abbrev pub DrainsOrStops : {A : Type 0} → Type 0 → List Event → Result A Error → ReaderState → Type 0
DrainsOrStops lacks P (Ok _) new = HasNoFault P × IsAtEnd new
DrainsOrStops lacks P (Err e) new = EndsInFault P e ⊎ (HasNoFault P × IsOutOfMemory e × lacks)

-- how a `read_at_most` that took P ended: it gave as many bytes as the limit allows, or met the end; or a fault came first, or an
-- allocation failed, for which `lacks` is a reason
abbrev pub EndsWithin : ℕ → Type 0 → List Event → Result ℕ Error → ReaderState → Type 0
EndsWithin limit lacks P (Ok _) new = HasNoFault P × (length (event_bytes P) < limit → IsAtEnd new)
EndsWithin limit lacks P (Err e) new = (length (event_bytes P) < limit) × DrainsOrStops {A = ℕ} lacks P (Err e) new

-- a `read`, by its answer
pub record GaveLaw {X : Type 0} (R : Reader X) (old : X) (room : ℕ) (answer : Result (List ℕ) Error) (new : X) : Type 0 where
  -- it gives at most as many bytes as fit
  pub bound : length (bytes_given answer) ≤ room
  -- it takes the bytes or the error that it gives
  pub takes : Takes (tells R old) (answered answer) (tells R new)
  -- it gives no bytes only at the end, or if there is no room
  pub end : answer ≡ Ok [] → 0 < room → IsAtEnd (tells R new)
  -- it is one call
  pub call : R.may old (Gave room answer) new

-- a `fill_buf`, by its answer
pub record FilledLaw {X : Type 0} (R : Reader X) (old : X) (answer : Result (List ℕ) Error) (new : X) : Type 0 where
  -- if bytes were held, they are lent, all of them, and nothing has changed
  pub held : 0 < length (R.held old) → (answer ≡ Ok (R.held old)) × (new ≡ old)
  -- the lent bytes come next, and are held
  pub front : IfOk answer (λ x. IfSome (to_come (tells R old)) (λ E. BeginsWith E x))
  pub lends : R.held new ≡ bytes_given answer
  -- none are lent only at the end
  pub end : answer ≡ Ok [] → IsAtEnd (tells R new)
  -- nothing is taken, except the error that was returned
  pub takes : Takes (tells R old) (fault_of answer) (tells R new)
  -- it is one call
  pub call : R.may old (Filled answer) new

-- the least room into which a read to the end reads
abbrev pub least_room : ℕ
least_room = 32

-- the bytes that were lent, or the error
abbrev pub lent_bytes : Result (Bor (List ℕ)) Error → Result (List ℕ) Error
lent_bytes (Ok s) = Ok s.now
lent_bytes (Err e) = Err e

-- the result of a call that counts at most `usize::MAX` bytes
abbrev pub at_most_max : Result ℕ Error → Result ℕ Error
at_most_max (Ok n) = Ok (min n (2 ^ 64 - 1))
at_most_max (Err e) = Err e

-- What the calls of a `BufReader` do.
use Rattle.std.specs.Prelude.{◌≡◌, ℕ, ◌<◌, ◌≤◌, ◌+◌, ◌-◌, ◌*◌, max, Bool, true, false, List, [], ◌++◌, length, take, drop, ◌⊎◌, Option, Ok}
use Rattle.std.specs.Prelude.{Err, Result, IsErrAnd}
use Rattle.no_std_io2_base.specs.{declared.error.Error.{Error}, Errors.{IsUnexpectedEnd, IsOutOfMemory}, Events.{Event, Store}}
use Rattle.no_std_io2_base.specs.{Takes.{ReaderState, to_come, Reader}, Moves.{IsFront}}
use Rattle.no_std_io2_base.specs.{Calls.{ReadCall, Gave, GaveExactly, GaveAll, Filled, Consumed, ByCalls}, Read.{ReadCallLaw}}
use Rattle.no_std_io2_base.specs.{inner.Read.{bytes_given, gave_whole, ToEndCalls}, inner.Reads.{Reads}}
use Rattle.no_std_io2.specs.declared.buffered.buf_reader.BufReader.{BufReader}
use Rattle.no_std_io2.specs.inner.Buffer.{IsSuffix, behind_held, store_before, AreBefore, HasTo}
use Rattle.no_std_io2.specs.BufReader.{reader_held, reader_behind, reader_inner, KeepsBuffer}

-- r after `*r.get_mut() = x`
abbrev pub reader_with_inner : {R : Type 0} {S : ℕ} → BufReader R S → R → BufReader R S
reader_with_inner r x = record r { inner = x }

-- the events of a `BufReader`: the held bytes, and then the inner reader's events
abbrev pub reader_events : {R : Type 0} {S : ℕ} → (R → ReaderState) → BufReader R S → Option (List Event)
reader_events told r = behind_held (reader_held r) (to_come (told (reader_inner r)))

-- the turns of a `BufReader`: one for each held byte, and S + 1 for each turn of the inner reader
abbrev pub reader_turns : {R : Type 0} {S : ℕ} → (R → ℕ) → BufReader R S → ℕ
reader_turns {S = room} turns r = length (reader_held r) + (room + 1) * turns (reader_inner r)

-- a `BufReader` is sound: the bytes behind, and then the held bytes, are those of the inner store right before its position
abbrev pub ReaderIsSound : {R : Type 0} {S : ℕ} → (R → Option Store) → BufReader R S → Type 0
ReaderIsSound store r = AreBefore (reader_behind r ++ reader_held r) (store (reader_inner r))

-- what a `BufReader` with a buffer of this size tells, if these bytes are held, and the inner reader tells this
abbrev pub reader_told : ℕ → List ℕ → ReaderState → ReaderState
reader_told room held inner = record {
  events = behind_held held (to_come inner);
  store = store_before held inner.store;
  turns = length held + (room + 1) * inner.turns;
}

-- these bytes lie behind, and these are held
abbrev pub HasBuffer : {R : Type 0} {S : ℕ} → BufReader R S → List ℕ → List ℕ → Type 0
HasBuffer r behind held = (reader_behind r ≡ behind) × (reader_held r ≡ held)

-- nothing lies behind, and nothing is held
abbrev pub HasNoBuffer : {R : Type 0} {S : ℕ} → BufReader R S → Type 0
HasNoBuffer r = HasBuffer r [] []

-- Bytes were held after those behind: as many as fit the caller's room are given, and then lie behind; the others are still held. Or the
-- read of the bytes failed: its error is returned, and the buffer is empty.
abbrev pub PassesOn : {R : Type 0} {S : ℕ} → List ℕ → Result (List ℕ) Error → ℕ → Result (List ℕ) Error → BufReader R S → Type 0
PassesOn behind (Ok held) room answer new = (answer ≡ Ok (take room held)) × HasBuffer new (behind ++ take room held) (drop room held)
PassesOn behind (Err e) room answer new = (answer ≡ Err e) × HasNoBuffer new

-- it gives held bytes, and makes no inner call
abbrev pub GivesHeld : {R : Type 0} {S : ℕ} → BufReader R S → ℕ → Result (List ℕ) Error → BufReader R S → Type 0
GivesHeld old room answer new =
    (reader_inner new ≡ reader_inner old) × PassesOn (reader_behind old) (Ok (reader_held old)) room answer new

-- The inner call of a `read` of a `BufReader`. If bytes are held, there is none. If none are held, it reads once: into the caller's room if
-- that is as large as the buffer, and else into the buffer.
pub data ReadsBelow {R : Type 0} {S : ℕ} (inner : Reader R) (old : BufReader R S) (room : ℕ) (answer : Result (List ℕ) Error)
    (new : BufReader R S) : Type 0 where
  of_held : 0 < length (reader_held old) → GivesHeld old room answer new → ReadsBelow inner old room answer new
  went_past : reader_held old ≡ [] → S ≤ room → ReadCallLaw inner (reader_inner old) (Gave room answer) (reader_inner new) → HasNoBuffer new
      → ReadsBelow inner old room answer new
  was_filled : reader_held old ≡ [] → room < S → (read : Result (List ℕ) Error)
      → ReadCallLaw inner (reader_inner old) (Gave S read) (reader_inner new) → PassesOn [] read room answer new
      → ReadsBelow inner old room answer new

-- A `fill_buf` of a `BufReader` changes nothing while bytes are held, and lends them. If none are, it makes one inner read into the buffer,
-- and lends what it gave.
pub data FillsBelow {R : Type 0} {S : ℕ} (inner : Reader R) (old : BufReader R S) (answer : Result (List ℕ) Error)
    (new : BufReader R S) : Type 0 where
  lent_held : 0 < length (reader_held old) → answer ≡ Ok (reader_held old) → new ≡ old → FillsBelow inner old answer new
  lent_read : reader_held old ≡ [] → ReadCallLaw inner (reader_inner old) (Gave S answer) (reader_inner new)
      → HasBuffer new [] (bytes_given answer) → FillsBelow inner old answer new

-- a `read_to_end` could not grow the vector for the held bytes: it appended x, the first of them, and no inner call was made
abbrev RefusesAll : {R : Type 0} {S : ℕ} → BufReader R S → List ℕ → Result (Unit {0}) Error → BufReader R S → Type 0
RefusesAll old x answer new = IsErrAnd answer IsOutOfMemory × (reader_inner new ≡ reader_inner old)
    × ((left : List ℕ) × (reader_held old ≡ x ++ left) × HasBuffer new (reader_behind old ++ x) left)

-- What a call may do to a `BufReader`. A `read_exact` of its own gives only held bytes. A `read_to_end` appends the held bytes, empties the
-- buffer, and calls the inner `read_to_end`, unless the vector could not grow for the held bytes. A `consume` drops held bytes.
abbrev pub ReaderMay : {R : Type 0} {S : ℕ} → Reader R → BufReader R S → ReadCall → BufReader R S → Type 0
ReaderMay inner old (Gave room answer) new = ReadsBelow inner old room answer new
ReaderMay inner old (GaveExactly room answer) new = (room ≤ length (reader_held old)) × GivesHeld old room answer new
ReaderMay inner old (GaveAll x answer) new = RefusesAll old x answer new
    ⊎ ((y : List ℕ) × (x ≡ reader_held old ++ y)
    × ByCalls (ReadCallLaw inner) (reader_inner old) (λ C. ToEndCalls C y answer) (reader_inner new) × HasNoBuffer new)
ReaderMay inner old (Filled answer) new = FillsBelow inner old answer new
ReaderMay inner old (Consumed n) new = (reader_inner new ≡ reader_inner old)
    × HasBuffer new (reader_behind old ++ take n (reader_held old)) (drop n (reader_held old))

-- while fewer than `wanted` bytes are there, `held` and those that were read, a read is made into room for the rest, or into the buffer if
-- that is larger
abbrev pub AsksExact : ℕ → ℕ → ℕ → ℕ → ℕ → Type 0
AsksExact size wanted held at room = (held + at < wanted) × (room ≡ max size (wanted - (held + at)))

-- What reads for `wanted` bytes that gave x leave, by how they ended. If all were given, and more than were held: fewer bytes than a full
-- buffer lie behind, the last that were given. After the end or a fault the buffer is empty.
abbrev pub LeavesThrough : {R : Type 0} {S : ℕ} → BufReader R S → ℕ → List ℕ → Result Bool Error → BufReader R S → Type 0
LeavesThrough {S = size} old wanted x (Ok true) new =
    length (reader_held old) < wanted → IsSuffix x (reader_behind new) × (length (reader_behind new) < size)
LeavesThrough old wanted x (Ok false) new = HasNoBuffer new
LeavesThrough old wanted x (Err e) new = HasNoBuffer new

-- Reads of a `BufReader` for `wanted` bytes gave x, and ended like this: which inner reads they made, and what is in the buffer then.
pub record ReadsThrough {R : Type 0} {S : ℕ} (inner : Reader R) (old : BufReader R S) (wanted : ℕ) (x : List ℕ) (how : Result Bool Error)
    (new : BufReader R S) : Type 0 where
  pub given : List ℕ
  pub reads : Reads inner (AsksExact S wanted (length (reader_held old))) (reader_inner old) given how (reader_inner new)
  -- the held bytes, and then those that the inner reads gave, are x and what is still held
  pub split : reader_held old ++ given ≡ x ++ reader_held new
  -- whether all were given
  pub enough : HasTo wanted how (length x)
  pub leaves : LeavesThrough old wanted x how new

-- how a `read_full` with this result ended: with a full buffer, at the end, or at a fault
abbrev pub full_ended : Result (Unit {0}) Error → Bool → Result Bool Error
full_ended (Ok u) full = Ok full
full_ended (Err e) full = Err e

-- A `read_exact` of `room` bytes. If enough are held, it gives them and makes no inner call. If not, it makes inner reads: until all
-- are given, or up to the end or a fault, after the bytes x.
pub data LeavesExact {R : Type 0} {S : ℕ} (inner : Reader R) (old : BufReader R S) (room : ℕ) : Result (Unit {0}) Error → List ℕ
    → BufReader R S → Type 0 where
  only_held : {reply : Result (Unit {0}) Error} {buf : List ℕ} {new : BufReader R S} → room ≤ length (reader_held old)
      → GivesHeld old room (gave_whole reply buf) new → LeavesExact inner old room reply buf new
  read_whole : {u : Unit {0}} {buf : List ℕ} {new : BufReader R S} → length (reader_held old) < room
      → ReadsThrough inner old room buf (Ok true) new → LeavesExact inner old room (Ok u) buf new
  read_to_end : {e : Error} {x buf : List ℕ} {new : BufReader R S} → length (reader_held old) < room → IsUnexpectedEnd e → IsFront x buf
      → ReadsThrough inner old room x (Ok false) new → LeavesExact inner old room (Err e) buf new
  read_to_fault : {e : Error} {x buf : List ℕ} {new : BufReader R S} → length (reader_held old) < room → IsFront x buf
      → ReadsThrough inner old room x (Err e) new → LeavesExact inner old room (Err e) buf new

-- a piece that was held whole was appended, and no inner call was made; or an allocation failed, and nothing changed
abbrev pub TakesHeld : {R : Type 0} {S : ℕ} → List ℕ → List ℕ → BufReader R S → List ℕ → Result ℕ Error → List ℕ → BufReader R S → Type 0
TakesHeld piece rest old before (Ok n) after new = (n ≡ length piece) × (after ≡ before ++ piece)
    × HasBuffer new (reader_behind old ++ piece) rest × (reader_inner new ≡ reader_inner old)
TakesHeld piece rest old before (Err e) after new = IsOutOfMemory e × (after ≡ before) × (new ≡ old)

-- a line that was held whole was appended, and no inner call was made; or the text did not accept the line, which was taken; or the
-- allocation for reading it failed
abbrev pub TakesHeldLine : {R : Type 0} {S : ℕ} → List ℕ → List ℕ → BufReader R S → List ℕ → Result ℕ Error → List ℕ → BufReader R S
    → Type 0
TakesHeldLine line rest old before (Ok n) after new = TakesHeld line rest old before (Ok n) after new
TakesHeldLine line rest old before (Err e) after new = (after ≡ before) × (reader_inner new ≡ reader_inner old)
    × (HasBuffer new (reader_behind old ++ line) rest ⊎ (IsOutOfMemory e × KeepsBuffer old new))

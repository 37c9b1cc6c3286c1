-- What calls may do to streams in memory, to a `Sink`, an `Empty` and a `Repeat`.
use Rattle.std.specs.Prelude.{◌≡◌, ℕ, ◌+◌, ◌<◌, ◌≤◌, List, ◌++◌, length, Result, Ok, Err, IsOk, IfOk, [], take, drop, OnOk, IsErrAnd}
use Rattle.std.specs.Prelude.{IsOkAnd, replicate, Some, Vec, vec_len, vec_capacity, IfErr, OnErr}
use Rattle.no_std_io2_base.specs.inner.{Cursor.{HasMoved}, Read.{least_room}}
use Rattle.no_std_io2_base.specs.Calls.{WriteCall, Wrote, WroteAll, Flushed, ReadCall, Gave, GaveExactly, GaveAll, Filled, Consumed}
use Rattle.no_std_io2_base.specs.{declared.error.Error.{Error}, Errors.{IsOutOfMemory, IsUnexpectedEnd}, Calls.{SeekCall, Sought}}
use Rattle.no_std_io2_base.specs.{Moves.{WriterState}, declared.util.{Empty.{Empty}, Repeat.{Repeat}, Sink.{Sink}}}

-- A reader of the bytes that are left gives as many of them as fit. Its `read_exact` gives all that it is asked for, or changes nothing.
abbrev pub GivesLeft : {X : Type 0} → (X → List ℕ) → X → ReadCall → X → Type 0
GivesLeft left old (Gave room answer) new = (answer ≡ Ok (take room (left old))) × (left new ≡ drop room (left old))
GivesLeft left old (GaveExactly room answer) new =
    (room ≤ length (left old) → (answer ≡ Ok (take room (left old))) × (left new ≡ drop room (left old)))
    × (length (left old) < room → IsErrAnd answer IsUnexpectedEnd × (new ≡ old))
GivesLeft left old (GaveAll x answer) new = (left old ≡ x ++ left new) × OnOk answer (left new ≡ [])
GivesLeft left old (Filled answer) new = (answer ≡ Ok (left old)) × (new ≡ old)
GivesLeft left old (Consumed n) new = (n ≤ length (left old)) × (left new ≡ drop n (left old))

-- A queue gives some of its bytes, in order; a `read` is the only call that it has of its own.
abbrev pub GivesFront : {X : Type 0} → (X → List ℕ) → X → ReadCall → X → Type 0
GivesFront left old (Gave room answer) new = IsOkAnd answer (λ x. left old ≡ x ++ left new)
GivesFront left old _ new = ⊥

-- All of x was appended; or the capacity was too small for the length and x, the allocation failed, and nothing was appended.
abbrev pub AppendsWhole : {A : Type 0} → List ℕ → ℕ → ℕ → List ℕ → Result A Error → List ℕ → Type 0
AppendsWhole old len capacity x (Ok v) new = new ≡ old ++ x
AppendsWhole old len capacity x (Err e) new = IsOutOfMemory e × (capacity < len + length x) × (new ≡ old)

-- what a call may do to a writer with this content, length and capacity, which does not shrink
abbrev pub AppendsMay : {W : Type 0} → (W → List ℕ) → (W → ℕ) → (W → ℕ) → W → WriteCall → W → Type 0
AppendsMay items len capacity old (Wrote x reply) new =
    IfOk reply (λ n. n ≡ length x) × AppendsWhole (items old) (len old) (capacity old) x reply (items new) × (capacity old ≤ capacity new)
AppendsMay items len capacity old (WroteAll x reply) new =
    AppendsWhole (items old) (len old) (capacity old) x reply (items new) × (capacity old ≤ capacity new)
AppendsMay items len capacity old (Flushed reply) new = IsOk reply × (new ≡ old)

-- the bytes that a `Repeat` is still going to give
abbrev pub repeat_left : Repeat → List ℕ
repeat_left r = replicate r.left r.byte

-- the bytes that a sink took
abbrev pub sink_taken : Sink → List ℕ
sink_taken s = s.taken.bytes

-- the bytes that an `Empty` took
abbrev pub empty_taken : Empty → List ℕ
empty_taken e = sink_taken e.sink

-- what a sink tells: the bytes that it took are out, and no mishap is to come
abbrev pub sink_told : Sink → WriterState
sink_told s = record { out = sink_taken s; held = []; mishaps = Some []; turns = 0 }

-- what one call does: a `write` takes all its bytes, and a `flush` changes nothing
abbrev pub SinkMay : Sink → WriteCall → Sink → Type 0
SinkMay old (Wrote x reply) new = (reply ≡ Ok (length x)) × (sink_taken new ≡ sink_taken old ++ x)
SinkMay old (Flushed reply) new = (reply ≡ Ok tt) × (new ≡ old)
SinkMay old (WroteAll x reply) new = ⊥

-- a seek of an `Empty` stays at 0
abbrev pub StaysAtStart : {X : Type 0} → X → SeekCall → X → Type 0
StaysAtStart old (Sought from reply) new = (reply ≡ Ok 0) × (new ≡ old)
StaysAtStart old _ new = ⊥

-- a vector has room for this many more bytes; or it had not, and an allocation failed. Nothing else changed.
pub record Reserves {A : Type 0} (wanted : ℕ) (old : Vec ℕ A) (reply : Result (Unit {0}) Error) (new : Vec ℕ A) : Type 0 where
  pub items : new.items ≡ old.items
  pub len : vec_len new ≡ vec_len old
  pub room : OnOk reply (vec_len new + wanted ≤ vec_capacity new)
  pub grows : vec_capacity old ≤ vec_capacity new
  pub refused : IfErr reply IsOutOfMemory
  pub full : OnErr reply (vec_capacity old < vec_len old + wanted)

-- some bytes are gone from the front of a slice, and are at the end of a vector. An allocation can fail only if that had no room for them
-- and 32 more.
pub record AppendsPart {A : Type 0} (rest rest' : List ℕ) (old : Vec ℕ A) (reply : Result (Unit {0}) Error) (new : Vec ℕ A)
    : Type 0 where
  pub moved : HasMoved rest rest' old.items new.items
  pub grows : vec_capacity old ≤ vec_capacity new
  pub refused : IfErr reply IsOutOfMemory
  pub full : OnErr reply (vec_capacity old < vec_len new + least_room)

-- The held bytes of a buffer, and those behind them.
use Rattle.std.specs.Prelude.{◌≡◌, ℕ, ◌<◌, ◌≤◌, ◌-◌, ◌&&◌, nat_eq, nat_le, Bool, true, false, List, ◌++◌, length, drop, Option, None, Some}
use Rattle.std.specs.Prelude.{Ok, Err, Result, ℤ, pos, negsuc, ◌+◌, take, slice_range}
use Rattle.std.proofs.Common.{lt_of_le_of_lt, sub-le}
use lib.Pointwise.{pointwise}
use Rattle.no_std_io2_base.specs.{declared.error.Error.{Error}, Events.{Event, events_of, Store}, Takes.{Reader}}
use Rattle.no_std_io2_base.specs.{inner.Read.{GaveLaw, bytes_given}, inner.Seek.{IsAtOffset}}
use Rattle.no_std_io2.specs.{declared.buffered.buffer.Buffer.{Buffer}, declared.buffered.unsent.Unsent.{Unsent}}

-- the bytes from the start to the end
abbrev pub buffer_held : {S : ℕ} → Buffer S → List ℕ
buffer_held b = slice_range b.bytes b.start b.end

-- the bytes before the start: those that were given since the last read
abbrev pub buffer_behind : {S : ℕ} → Buffer S → List ℕ
buffer_behind b = take b.start b.bytes

-- the bytes that the buffered writer held
abbrev pub unsent_bytes : {S : ℕ} → Unsent S → List ℕ
unsent_bytes u = buffer_held u.buffer

-- the number of the bytes that a read gave, or its error
abbrev number_given : Result (List ℕ) Error → Result ℕ Error
number_given (Ok x) = Ok (length x)
number_given (Err e) = Err e

-- One read went into all the room after the held bytes of a buffer of S bytes, and the bytes that it gave are held after them.
pub record ReadsOn {R : Type 0} (I : Reader R) (S : ℕ) (old : R) (held : List ℕ) (reply : Result ℕ Error) (held' : List ℕ) (new : R)
    : Type 0 where
  pub answer : Result (List ℕ) Error
  pub read : GaveLaw I old (S - length held) answer new
  pub number : reply ≡ number_given answer
  pub holds : held' ≡ held ++ bytes_given answer

-- the offset stays in the buffer: it goes back by at most the number of bytes behind, and forward by at most the number of held bytes
abbrev pub IsInBuffer : ℤ → ℕ → ℕ → Type 0
IsInBuffer (pos k) behind held = k ≤ held
IsInBuffer (negsuc k) behind held = k + 1 ≤ behind

-- the border between `behind` and `held` has moved by `offset`; joined, they are the same list as before
abbrev pub IsCutOn : ℤ → List ℕ → List ℕ → List ℕ → List ℕ → Type 0
IsCutOn offset behind held behind' held' = (behind' ++ held' ≡ behind ++ held) × IsAtOffset (length behind) offset (length behind')

-- `end` is a suffix of `whole`
abbrev pub IsSuffix : List ℕ → List ℕ → Type 0
IsSuffix whole end = (front : List ℕ) × (whole ≡ front ++ end)

-- the held bytes, and then the events to come, if these are told
abbrev pub behind_held : List ℕ → Option (List Event) → Option (List Event)
behind_held held None = None
behind_held held (Some E) = Some (events_of held ++ E)

-- whether these bytes are those of the content right before its position
abbrev pub is_before : List ℕ → Store → Bool
is_before whole s = nat_le (length whole) s.position
    && pointwise nat_eq (drop (s.position - length whole) s.content) (whole ++ drop s.position s.content)

-- a lower position fits too
abbrev lower_fits : (position n limit : ℕ) → position < limit → position - n < limit
lower_fits position n limit fits = lt_of_le_of_lt (sub-le position n) fits

-- the same content, at a position that is lower by n
abbrev pub step_back : ℕ → Store → Store
step_back n s = record { content = s.content; position = s.position - n; fits = (s.fits.0, lower_fits s.position n _ s.fits.1) }

-- the store, if this test is true
abbrev pub store_if : Bool → Store → Option Store
store_if true s = Some s
store_if false s = None

-- the inner store at a position that is lower by the held bytes, if these are the bytes of its content right before the inner position
abbrev pub store_before : List ℕ → Option Store → Option Store
store_before held None = None
store_before held (Some s) = store_if (is_before held s) (step_back (length held) s)

-- a store is told, and these bytes are those of its content right before its position
abbrev pub AreBefore : List ℕ → Option Store → Type 0
AreBefore whole None = ⊥
AreBefore whole (Some s) = is_before whole s ≡ true

-- after `Ok(true)` there are at least n bytes, and otherwise fewer
abbrev pub HasTo : ℕ → Result Bool Error → ℕ → Type 0
HasTo n (Ok true) len = n ≤ len
HasTo n (Ok false) len = len < n
HasTo n (Err e) len = len < n

-- a read is made only while fewer than n bytes are held, of S that fit, and into all the room after them
abbrev pub AsksOn : ℕ → ℕ → List ℕ → ℕ → ℕ → Type 0
AsksOn S n held at room = (length held + at < n) × (length held + at + room ≡ S)

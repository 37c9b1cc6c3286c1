-- The law of each call of `Read`.
use Rattle.std.specs.Prelude.{◌≡◌, ℕ, ◌<◌, List, ◌++◌, length, take, Result, ◌+◌, ◌-◌, ◌≤◌, Vec, vec_len, vec_capacity, IfOk}
use Rattle.std.specs.Prelude.{IsOk, drop, min, String, string_len, string_capacity, string_bytes}
use Rattle.no_std_io2_base.specs.{declared.error.Error.{Error}}
use Rattle.no_std_io2_base.specs.{Events.{Event, events_of, event_bytes}, inner.Events.{cut}}
use Rattle.no_std_io2_base.specs.Takes.{Takes, IsAtEnd, gave_front, Reader, tells, answered}
use Rattle.no_std_io2_base.specs.inner.Read.{gave_whole, without_number, ExactCalls, FullCalls, ToEndCalls, AtMostCalls, EndsWithin}
use Rattle.no_std_io2_base.specs.inner.Read.{GaveLaw, FilledLaw}
use Rattle.no_std_io2_base.specs.{Calls.{ByCalls, ReadCall, Gave, GaveExactly, GaveAll, Filled, Consumed}, inner.Read.{least_room}}
use Rattle.no_std_io2_base.specs.inner.Lines.{AnswersLine}
use Rattle.no_std_io2_base.specs.inner.Read.{FillsOrEnds, FillsOrMeetsEnd}
use Rattle.no_std_io2_base.specs.inner.Read.{DrainsOrStops}

-- `consume(amount)`
pub record ConsumeLaw {X : Type 0} (R : Reader X) (old : X) (amount : ℕ) (new : X) : Type 0 where
  -- the first of the held bytes are dropped, and taken
  pub held : R.held new ≡ drop amount (R.held old)
  pub takes : Takes (tells R old) (events_of (take amount (R.held old))) (tells R new)
  -- it is one call
  pub call : R.may old (Consumed amount) new

-- a call, by its law
abbrev pub ReadCallLaw : {X : Type 0} → Reader X → X → ReadCall → X → Type 0
ReadCallLaw R old (Gave room answer) new = GaveLaw R old room answer new
ReadCallLaw R old (GaveExactly room answer) new = R.may old (GaveExactly room answer) new
    × ((P : List Event) × Takes (tells R old) P (tells R new) × FillsOrEnds room P answer (tells R new))
ReadCallLaw R old (GaveAll x answer) new = R.may old (GaveAll x answer) new
    × ((P : List Event) × Takes (tells R old) P (tells R new) × (event_bytes P ≡ x) × DrainsOrStops (Unit {0}) P answer (tells R new))
ReadCallLaw R old (Filled answer) new = FilledLaw R old answer new
ReadCallLaw R old (Consumed n) new = (n ≤ length (R.held old)) × ConsumeLaw R old n new

-- `read(buf)`
pub record ReadLaw {X : Type 0} (R : Reader X) (old : X) (buf : List ℕ) (reply : Result ℕ Error) (buf' : List ℕ) (new : X) : Type 0 where
  -- it gives at most as many bytes as fit
  pub bound : IfOk reply (λ n. n ≤ length buf')
  -- it takes the bytes or the error that it gives
  pub takes : Takes (tells R old) (answered (gave_front reply buf')) (tells R new)
  -- it gives 0 bytes only at the end, or if buf is empty
  pub end : IfOk reply (λ n. n ≡ 0 → 0 < length buf' → IsAtEnd (tells R new))
  -- it is one call
  pub call : R.may old (Gave (length buf') (gave_front reply buf')) new

-- `read_exact(buf)`
pub record ReadExactLaw {X : Type 0} (R : Reader X) (old : X) (buf : List ℕ) (reply : Result (Unit {0}) Error) (buf' : List ℕ)
    (new : X) : Type 0 where
  -- what it takes
  pub taken : List Event
  pub takes : Takes (tells R old) taken (tells R new)
  -- that fills the buffer, or ends in a fault, or is too short
  pub ends : FillsOrEnds (length buf') taken (gave_whole reply buf') (tells R new)
  -- an empty buffer makes no call
  pub empty : length buf ≡ 0 → IsOk reply × (new ≡ old)
  -- which calls it made
  pub calls : ByCalls (ReadCallLaw R) old (λ C. ExactCalls C reply buf') new

-- `read_full(buf, &mut filled)`, of a buffer whose first `filled` bytes are there already
pub record ReadFullLaw {X : Type 0} (R : Reader X) (old : X) (buf : List ℕ) (filled : ℕ) (reply : Result (Unit {0}) Error) (buf' : List ℕ)
    (filled' : ℕ) (new : X) : Type 0 where
  -- what it takes
  pub taken : List Event
  pub takes : Takes (tells R old) taken (tells R new)
  -- its bytes come after those that were there, and are counted
  pub fills : take filled' buf' ≡ take filled buf ++ event_bytes taken
  pub counts : filled' ≡ filled + length (event_bytes taken)
  -- that fills the rest of the buffer, or is all, or ends in a fault
  pub ends : FillsOrMeetsEnd (length buf - filled) taken reply (tells R new)
  -- a full buffer makes no call
  pub full : length buf ≤ filled → IsOk reply × (new ≡ old)
  -- which calls it made
  pub calls : ByCalls (ReadCallLaw R) old (λ C. FullCalls C (length buf - filled) (event_bytes taken) reply) new

-- `read_to_end(&mut buf)` of a reader that gives up only if `lacks` holds for the number of bytes that it took
pub record ToEndLaw {X A : Type 0} (lacks : ℕ → Type 0) (R : Reader X) (old : X) (buf : Vec ℕ A) (reply : Result ℕ Error) (buf' : Vec ℕ A)
    (new : X) : Type 0 where
  -- what it takes
  pub taken : List Event
  pub takes : Takes (tells R old) taken (tells R new)
  -- its bytes are appended, and the result is their number
  pub appends : (buf'.items ≡ buf.items ++ event_bytes taken) × IfOk reply (λ n. n ≡ length (event_bytes taken))
  -- that is all, or it ends in a fault, or an allocation failed
  pub ends : DrainsOrStops (lacks (length (event_bytes taken))) taken reply (tells R new)
  -- the capacity never shrinks
  pub capacity : vec_capacity buf ≤ vec_capacity buf'
  -- which calls it made
  pub calls : ByCalls (ReadCallLaw R) old (λ C. ToEndCalls C (event_bytes taken) (without_number reply)) new

-- `read_to_end(&mut buf)`: an allocation can fail only if buf had no room for the bytes that were taken and 32 more
abbrev pub ReadToEndLaw : {X A : Type 0} → Reader X → X → Vec ℕ A → Result ℕ Error → Vec ℕ A → X → Type 0
ReadToEndLaw R old buf = ToEndLaw (λ n. vec_capacity buf < vec_len buf + (n + least_room)) R old buf

-- `read_at_most(&mut r, limit, &mut buf)`
pub record ReadAtMostLaw {X A : Type 0} (R : Reader X) (limit : ℕ) (old : X) (buf : Vec ℕ A) (reply : Result ℕ Error) (buf' : Vec ℕ A)
    (new : X) : Type 0 where
  -- what it takes, which ends with the byte at the limit
  pub taken : List Event
  pub takes : Takes (tells R old) taken (tells R new)
  pub within : cut limit taken ≡ taken
  -- its bytes are appended, and the result is their number
  pub appends : (buf'.items ≡ buf.items ++ event_bytes taken) × IfOk reply (λ n. n ≡ length (event_bytes taken))
  -- these are as many as the limit allows, or all; or a fault came first, or there was no room for 32 more of them and no memory
  pub ends : EndsWithin limit (vec_capacity buf < vec_len buf + min limit (length (event_bytes taken) + least_room)) taken reply
      (tells R new)
  -- the capacity never shrinks
  pub capacity : vec_capacity buf ≤ vec_capacity buf'
  -- at limit 0 it makes no call
  pub none : limit ≡ 0 → IsOk reply × (new ≡ old)
  -- which calls it made
  pub calls : ByCalls (ReadCallLaw R) old (λ C. AtMostCalls C limit (event_bytes taken) (without_number reply)) new

-- `read_to_string(alloc, buf)`
pub record ReadToStringLaw {X A : Type 0} (R : Reader X) (old : X) (buf : String A) (reply : Result ℕ Error) (buf' : String A) (new : X)
    : Type 0 where
  -- what it takes
  pub taken : List Event
  pub takes : Takes (tells R old) taken (tells R new)
  -- that is all, as `read_to_end` takes it, with this result
  pub read : Result ℕ Error
  pub count : IfOk read (λ n. n ≡ length (event_bytes taken))
  pub ends : DrainsOrStops (string_capacity buf < string_len buf + (length (event_bytes taken) + least_room)) taken read (tells R new)
  -- it is appended if it is UTF-8 and there is room for it
  pub answers : AnswersLine (event_bytes taken) read reply (string_bytes buf) (string_bytes buf')
  -- the capacity never shrinks
  pub capacity : string_capacity buf ≤ string_capacity buf'
  -- which calls it made
  pub calls : ByCalls (ReadCallLaw R) old (λ C. ToEndCalls C (event_bytes taken) (without_number read)) new

-- What calls of a reader gave, one after another: those of a loop, of a `skip`, and of a seek and a read.
use Rattle.std.specs.Prelude.{◌≡◌, ◌⊎◌, ℕ, ◌+◌, ◌<◌, List, [], length, Result, Ok, Err, Bool, true, IsOk, OnOk, IfSome, IsSomeAnd}
use Rattle.std.specs.Prelude.{String, string_bytes}
use Rattle.no_std_io2_base.specs.{declared.error.Error.{Error}, Errors.{IsFault, IsUnexpectedEnd, IsOutOfMemory}}
use Rattle.no_std_io2_base.specs.{Events.{Event, event_bytes, HasNoFault}, inner.Events.{EndsInFault}}
use Rattle.no_std_io2_base.specs.{Takes.{ReaderState, Takes, IsAtEnd, Reader, tells}, Calls.{ReadCall, ByCalls}}
use Rattle.no_std_io2_base.specs.Read.{ReadCallLaw, ReadExactLaw, ReadToStringLaw}
use Rattle.no_std_io2_base.specs.{inner.Reads.{PortionCalls, PortionsUntil, HasBytesAt, ReadsAt, GathersTo, Asked}, Pieces.{GivesPieces}}
use Rattle.no_std_io2_base.specs.{Seek.{Seeker, SeekLaw}, declared.traits.seek.SeekFrom.{SeekFrom}}

-- From old to new a reader took these bytes, and ended like this.
pub record Took (old : ReaderState) (x : List ℕ) (how : Result Bool Error) (new : ReaderState) : Type 0 where
  pub taken : List Event
  pub takes : Takes old taken new
  pub are : event_bytes taken ≡ x
  pub ends : GathersTo taken how new

-- From old to new a reader took these bytes, and no fault, and may go on.
abbrev pub TakesBytes : ReaderState → List ℕ → ReaderState → Type 0
TakesBytes old x new = Took old x (Ok true) new

-- From old to new a reader that lends got calls of `read` and `fill_buf`. It gave x, and may go on; or it met the end or
-- a fault, after which it got no more calls.
pub record Fetches {X : Type 0} (R : Reader X) (old : X) (x : List ℕ) (how : Result Bool Error) (new : X) : Type 0 where
  pub took : Took (tells R old) x how (tells R new)
  pub calls : ByCalls (ReadCallLaw R) old (λ C. Asked C how) new

-- bytes were fetched, and this holds for them and for how that ended
abbrev pub Fetched : {X : Type 0} → Reader X → X → (List ℕ → Result Bool Error → Type 0) → X → Type 0
Fetched R old Ends new = (x : List ℕ) × (how : Result Bool Error) × Fetches R old x how new × Ends x how

-- From old to new a reader gave these pieces. After them this part of the next one was taken, or all of it; and then came the error e: the
-- reader's fault, or an allocation failed.
pub record StopsAfter (d : ℕ) (e : Error) (old : ReaderState) (ps : List (List ℕ)) (part : List ℕ) (new : ReaderState) : Type 0 where
  -- what the reader tells after the pieces
  pub mid : ReaderState
  pub gives : GivesPieces d old ps mid
  -- how the taking of the part ended
  pub how : Result Bool Error
  pub took : Took mid part how new
  pub whose : (how ≡ Err e) ⊎ ((how ≡ Ok true) × IsOutOfMemory e)

-- C are the calls of a `skip` of n bytes that skipped x: up to the last of them, a fault, or the end
abbrev SkipCalls : ℕ → List ReadCall → List ℕ → Result (Unit {0}) Error → Type 0
SkipCalls n C x (Ok u) = PortionCalls n C x
SkipCalls n C x (Err e) = (IsFault e × PortionsUntil n C x (Err e)) ⊎ (IsUnexpectedEnd e × PortionsUntil n C x (Ok []))

-- how a `skip` that took P ended, with `left` bytes still to be skipped: all were skipped; or a fault came first, or the end
abbrev SkipEnds : List Event → Result (Unit {0}) Error → ℕ → ReaderState → Type 0
SkipEnds P (Ok u) left new = HasNoFault P × (left ≡ 0)
SkipEnds P (Err e) left new = (0 < left) × (EndsInFault P e ⊎ (IsUnexpectedEnd e × HasNoFault P × IsAtEnd new))

-- `skip(&mut left)`: of n bytes, `left` are still to be skipped
pub record Skipped {X : Type 0} (R : Reader X) (old : X) (n : ℕ) (reply : Result (Unit {0}) Error) (left : ℕ) (new : X) : Type 0 where
  -- what it takes
  pub taken : List Event
  pub takes : Takes (tells R old) taken (tells R new)
  -- its bytes are the skipped ones
  pub count : length (event_bytes taken) + left ≡ n
  -- how it ended
  pub ends : SkipEnds taken reply left (tells R new)
  -- which calls it made
  pub calls : ByCalls (ReadCallLaw R) old (λ C. SkipCalls n C (event_bytes taken) reply) new

-- a seek failed, and its error is the result; or the seek succeeded, and a `read_exact` after it had this result
abbrev SeeksThenReads : {X : Type 0} → Seeker X → Reader X → X → SeekFrom → List ℕ → Result (Unit {0}) Error → List ℕ → X → Type 0
SeeksThenReads {X} S R old at buf reply buf' new = ((e : Error) × (reply ≡ Err e) × SeekLaw S old at (Err e) new)
    ⊎ ((mid : X) × (n : ℕ) × SeekLaw S old at (Ok n) mid × ReadExactLaw R mid buf reply buf' new)

-- `read_exact_at(at, buf)`
pub record ReadAtLaw {X : Type 0} (S : Seeker X) (R : Reader X) (old : X) (at : SeekFrom) (buf : List ℕ) (reply : Result (Unit {0}) Error)
    (buf' : List ℕ) (new : X) : Type 0 where
  -- a told store keeps its content; after `Ok` the bytes at the target were read
  pub store : IfSome (S.store old) (λ s. IsSomeAnd (S.store new) (λ t. (t.content ≡ s.content) × OnOk reply (ReadsAt s at buf' t.position)))
  -- it succeeds if a store is told that has these bytes
  pub enough : IsSomeAnd (S.store old) (HasBytesAt at (length buf)) → IsOk reply
  -- which calls it made
  pub calls : SeeksThenReads S R old at buf reply buf' new

-- the result of `io::read_to_string`, by that of its read: the string that was read into, or the error
abbrev AnswersString : {A : Type 0} → Result ℕ Error → String A → Result (String A) Error → Type 0
AnswersString (Ok n) text result = result ≡ Ok text
AnswersString (Err e) text result = result ≡ Err e

-- `io::read_to_string(alloc, reader)`: a `read_to_string` into an empty string, which is the result after `Ok`
pub record NewStringLaw {X A : Type 0} (R : Reader X) (old : X) (result : Result (String A) Error) : Type 0 where
  pub unused : String A
  pub none : string_bytes unused ≡ []
  -- the read, and what it leaves
  pub reply : Result ℕ Error
  pub string : String A
  pub new : X
  pub law : ReadToStringLaw R old unused reply string new
  -- what is returned of it
  pub answers : AnswersString reply string result

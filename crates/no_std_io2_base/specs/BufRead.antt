-- The state after a `fill_buf`, and the law of each call of `BufRead`.
use Rattle.std.specs.Prelude.{◌≡◌, ℕ, ◌<◌, List, [], ◌++◌, length, Ok, Result, ◌+◌, ◌≤◌, Vec, String, vec_len, vec_capacity, string_bytes}
use Rattle.std.specs.{Prelude.{string_len, string_capacity, IfOk, IfSome, IsOkAnd}, Borrow.{Bor}}
use Rattle.no_std_io2_base.specs.{declared.error.Error.{Error}, Events.{Event, event_bytes}, inner.Events.{BeginsWith}}
use Rattle.no_std_io2_base.specs.{Takes.{Takes, to_come, IsAtEnd, Reader, tells}, Calls.{Filled, ByCalls}, Read.{ReadCallLaw}}
use Rattle.no_std_io2_base.specs.{inner.Read.{bytes_given, fault_of, lent_bytes, at_most_max}, Pieces.{newline}}
use Rattle.no_std_io2_base.specs.{inner.Lines.{AnswersLine}, inner.Pieces.{PieceCalls}}
use Rattle.no_std_io2_base.specs.inner.Pieces.{PieceEnds}

-- `fill_buf()`: its result
pub record FillBufLaw {X : Type 0} (R : Reader X) (old : X) (reply : Result (Bor (List ℕ)) Error) : Type 0 where
  -- held bytes are lent, all of them
  pub held : 0 < length (R.held old) → IsOkAnd reply (λ s. s.now ≡ R.held old)
  -- the lent bytes come next
  pub front : IfOk reply (λ s. IfSome (to_come (tells R old)) (λ E. BeginsWith E s.now))
  -- an empty slice is lent only at the end
  pub end : IfOk reply (λ s. s.now ≡ [] → IsAtEnd (tells R old))

-- `fill_buf()`: the state once the borrow has ended
abbrev pub AfterLoan : {X : Type 0} → Reader X → X → Result (Bor (List ℕ)) Error → X → Type 0
AfterLoan R old reply new = record {
  -- the lent bytes are held, and none after an error
  lends : R.held new ≡ bytes_given (lent_bytes reply);
  -- nothing is taken, except the error that was returned
  takes : Takes (tells R old) (fault_of (lent_bytes reply)) (tells R new);
  -- if bytes were held, nothing has changed
  unchanged : 0 < length (R.held old) → new ≡ old;
  -- an empty slice is lent only at the end
  end : lent_bytes reply ≡ Ok [] → IsAtEnd (tells R new);
  -- it is one call
  call : R.may old (Filled (lent_bytes reply)) new;
}

-- `read_until(delim, buf)`
pub record ReadUntilLaw {X A : Type 0} (R : Reader X) (old : X) (delim : ℕ) (buf : Vec ℕ A) (reply : Result ℕ Error) (buf' : Vec ℕ A)
    (new : X) : Type 0 where
  -- what it takes
  pub taken : List Event
  pub takes : Takes (tells R old) taken (tells R new)
  -- its bytes are appended
  pub appends : buf'.items ≡ buf.items ++ event_bytes taken
  -- they are one piece; or a fault came first, or bytes for which the vector had no room, and it could not grow
  pub ends : PieceEnds (λ n. vec_capacity buf < vec_len buf + n) delim (tells R old) taken reply
  -- the capacity never shrinks
  pub capacity : vec_capacity buf ≤ vec_capacity buf'
  -- which calls it made
  pub calls : ByCalls (ReadCallLaw R) old (λ C. PieceCalls (Unit {0}) delim C (event_bytes taken) reply) new

-- `skip_until(delim)`
pub record SkipUntilLaw {X : Type 0} (R : Reader X) (old : X) (delim : ℕ) (reply : Result ℕ Error) (new : X) : Type 0 where
  -- what it takes
  pub taken : List Event
  pub takes : Takes (tells R old) taken (tells R new)
  -- that is one piece, and the result is its length; or a fault came first
  pub read : Result ℕ Error
  pub is : reply ≡ at_most_max read
  pub ends : PieceEnds (λ _. ⊥) delim (tells R old) taken read
  -- which calls it made
  pub calls : ByCalls (ReadCallLaw R) old (λ C. PieceCalls ⊥ delim C (event_bytes taken) read) new

-- `read_line(alloc, buf)`
pub record ReadLineLaw {X A : Type 0} (R : Reader X) (old : X) (buf : String A) (reply : Result ℕ Error) (buf' : String A) (new : X)
    : Type 0 where
  -- what it takes
  pub taken : List Event
  pub takes : Takes (tells R old) taken (tells R new)
  -- that is a line, as `read_until` takes it with a newline as delimiter, by this result
  pub read : Result ℕ Error
  pub ends : PieceEnds (λ n. string_capacity buf < string_len buf + n) newline (tells R old) taken read
  -- it is appended if it is UTF-8 and there is room for it
  pub answers : AnswersLine (event_bytes taken) read reply (string_bytes buf) (string_bytes buf')
  -- the capacity never shrinks
  pub capacity : string_capacity buf ≤ string_capacity buf'
  -- which calls it made
  pub calls : ByCalls (ReadCallLaw R) old (λ C. PieceCalls (Unit {0}) newline C (event_bytes taken) read) new

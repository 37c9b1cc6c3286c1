-- What asks do to a buffered reader, and what they do over a filling reader.
use Rattle.std.specs.Prelude.{◌≡◌, ℕ, ◌+◌, ◌≤◌, ◌&&◌, min, nat_eq, nat_lt, Bool, true, false, if◌then◌else◌, List, [], ◌∷◌, ◌++◌, length}
use Rattle.std.specs.Prelude.{drop, ⊤, Result, Ok, Err, is_err}
use Rattle.no_std_io2.specs.{declared.io.{Error.{Error}, ErrorKind.{ErrorKind, TheVariants.{UnexpectedEof}}}, Errors.{error_kind}}
use Rattle.no_std_io2.specs.{Calls.{ReadCall, Gave, Filled, Consumed, Made}, Read.{ReadExactLaw, ReadCallLaw}, Takes.{Reader, bytes_left}}
use Rattle.no_std_io2.specs.{declared.buffered.buf_reader.BufReader.{BufReader}, BufReader.{reader_held, reader_inner}}
use Rattle.io_bench.specs.declared.asks.Ask.{Ask, TheVariants.{Read, Exact, Fill}}

-- whether a read met the end, by its result: it gave no byte, and nothing is held
abbrev pub read_answer : Result (List ℕ) Error → List ℕ → Result Bool Error
read_answer (Ok x) held = Ok (nat_eq (length x) 0 && nat_eq (length held) 0)
read_answer (Err e) held = Err e

-- an error of this kind is the end, and any other stays an error
abbrev pub end_or_error : ErrorKind → Error → Result Bool Error
end_or_error UnexpectedEof e = Ok true
end_or_error _ e = Err e

-- whether an exact read met the end, by its result: it failed for want of bytes
abbrev pub exact_answer : Result (Unit {0}) Error → Result Bool Error
exact_answer (Ok u) = Ok false
exact_answer (Err e) = end_or_error (error_kind e) e

-- whether a `fill_buf` met the end, by its result: it lent nothing
abbrev pub fill_answer : Result (List ℕ) Error → Result Bool Error
fill_answer (Ok x) = Ok (nat_eq (length x) 0)
fill_answer (Err e) = Err e

-- the calls of a fill: a `fill_buf`, and unless it failed, a `consume` of at most `most` of the lent bytes
abbrev pub fill_calls : ℕ → Result (List ℕ) Error → List ReadCall
fill_calls most (Ok x) = Filled (Ok x) ∷ Consumed (min most (length x)) ∷ []
fill_calls most (Err e) = Filled (Err e) ∷ []

-- one ask and its answer, from old to new, by the laws of its calls
abbrev pub Answered : {B : Type 0} → Reader B → Ask → B → Result Bool Error → B → Type 0
Answered R (Read len) old answer new = (reply : Result (List ℕ) Error) × (answer ≡ read_answer reply (R.held new))
    × ReadCallLaw R old (Gave len reply) new
Answered R (Exact len) old answer new = (reply : Result (Unit {0}) Error) × (answer ≡ exact_answer reply)
    × ((buf : List ℕ) × (buf' : List ℕ) × (length buf' ≡ len) × ReadExactLaw R old buf reply buf' new)
Answered R (Fill most) old answer new = (reply : Result (List ℕ) Error) × (answer ≡ fill_answer reply)
    × Made (ReadCallLaw R) old (fill_calls most reply) new

-- an ask that met the end
abbrev pub met_end : Result Bool Error → Bool
met_end (Ok is_end) = is_end
met_end (Err e) = false

-- The asks were made one after another; `at_end` of them met the end, and `failed` of them failed.
pub data CameTo {B : Type 0} (R : Reader B) : List Ask → B → ℕ → ℕ → B → Type 0 where
  no_ask : {r : B} → CameTo R [] r 0 0 r
  next_ask : {asks : List Ask} {old mid new : B} {at_end failed ends failures : ℕ} (ask : Ask) (answer : Result Bool Error)
      → CameTo R asks old at_end failed mid → Answered R ask mid answer new → ends ≡ at_end + (if met_end answer then 1 else 0)
      → failures ≡ failed + (if is_err answer then 1 else 0) → CameTo R (asks ++ ask ∷ []) old ends failures new

-- a buffer of this length has room for the bytes of the ask
abbrev pub Fits : ℕ → Ask → Type 0
Fits room (Read len) = len ≤ room
Fits room (Exact len) = len ≤ room
Fits room (Fill most) = ⊤

-- each ask of a list fits a buffer of `room` bytes
abbrev pub AllFit : ℕ → List Ask → Type 0
AllFit room [] = ⊤
AllFit room (ask ∷ asks) = Fits room ask × AllFit room asks

-- the bytes to come from a buffer in front of a filling reader: the held ones, and then those that are left
-- in the reader
abbrev pub left_behind : {R : Type 0} {S : ℕ} → Reader R → BufReader R S → List ℕ
left_behind I r = reader_held r ++ bytes_left I (reader_inner r)

-- at most `most` bytes are gone from the front, and at least one if `most` is above 0 and there are any
abbrev pub DropsFront : ℕ → List ℕ → List ℕ → Type 0
DropsFront most left after = (n : ℕ) × (min 1 most ≤ n) × (n ≤ most) × (after ≡ drop n left)

-- one ask took the first of these bytes, and left the others
abbrev pub AskStep : Ask → List ℕ → List ℕ → Type 0
AskStep (Read len) left after = DropsFront len left after
AskStep (Fill most) left after = DropsFront most left after
AskStep (Exact len) left after = after ≡ drop len left

-- whether an ask meets the end, with this many bytes to come
abbrev pub meets_end : Ask → ℕ → Bool
meets_end (Exact len) all = nat_lt all len
meets_end _ all = nat_lt all 1

-- One step for each ask; so many of them meet the end.
pub data Steps : List Ask → List ℕ → List ℕ → ℕ → Type 0 where
  no_step : {left : List ℕ} → Steps [] left left 0
  next_step : {asks : List Ask} {left mid after : List ℕ} {ends : ℕ} (ask : Ask) → Steps asks left mid ends → AskStep ask mid after
      → Steps (asks ++ ask ∷ []) left after (ends + (if meets_end ask (length mid) then 1 else 0))

-- What a read of a number does. A number is a value that some bytes spell; a `value` says which one.
use Rattle.std.specs.Prelude.{◌≡◌, ℕ, ℤ, ◌<◌, List, [], ◌∷◌, ◌++◌, length, drop, replicate, slice_index, Result, Ok, Err, IfOk, Some}
use Rattle.std.specs.Int.{Width, cast_signed}
use Rattle.no_std_io2.specs.{declared.io.Error.{Error}, Events.{Event, events_of}, Takes.{to_come, Reader, tells}, Read.{ReadExactLaw}}

-- the number that one byte is
abbrev pub first_byte : List ℕ → ℕ
first_byte bytes = slice_index bytes 0

-- the signed number of width w whose two's complement the first n bytes spell
abbrev pub signed_by : Width → (ℕ → List ℕ → ℕ) → ℕ → List ℕ → ℤ
signed_by w number n bytes = cast_signed w (number n bytes)

-- each of them is a byte
abbrev pub AreBytes : List ℕ → Type 0
AreBytes bytes = (i : ℕ) → slice_index bytes i < 256

-- the result without its value
abbrev pub outcome : {X : Type 0} → Result X Error → Result (Unit {0}) Error
outcome (Ok x) = Ok tt
outcome (Err e) = Err e

-- A number of n bytes was read, by one `read_exact` of n bytes. After `Ok` these are bytes, and spell the result; an error is that of the
-- `read_exact`, whose law says what was taken.
pub record ReadsValue {V X : Type 0} (R : Reader V) (value : List ℕ → X) (n : ℕ) (old : V) (reply : Result X Error) (new : V) : Type 0 where
  pub buf : List ℕ
  pub long : length buf ≡ n
  pub law : ReadExactLaw R old (replicate n 0) (outcome reply) buf new
  pub are : IfOk reply (λ x. AreBytes buf)
  pub spells : IfOk reply (λ x. x ≡ value buf)

-- if the bytes of a number are known to come next, that number is read, and no other byte
abbrev pub ReadsBack : {V X : Type 0} → Reader V → (X → Type 0) → (X → List ℕ) → V → Result X Error → V → Type 0
ReadsBack {X = X} R fits spelled old reply new = (x : X) (rest : List Event) → fits x
    → to_come (tells R old) ≡ Some (events_of (spelled x) ++ rest) → (reply ≡ Ok x) × (to_come (tells R new) ≡ Some rest)

-- From old to new these numbers were read, one after another.
pub data AreRead {V X : Type 0} (R : Reader V) (value : List ℕ → X) (n : ℕ) (old : V) : List X → V → Type 0 where
  no_number : AreRead R value n old [] old
  one_more : {xs : List X} {mid new : V} (x : X) → AreRead R value n old xs mid → ReadsValue R value n mid (Ok x) new
      → AreRead R value n old (xs ++ x ∷ []) new

-- Numbers were read into `dst`: all of it; or the first ones, and then the next read failed. The rest of `dst` is as it was.
abbrev pub ReadsInto : {V X : Type 0} → Reader V → (List ℕ → X) → ℕ → V → List X → Result (Unit {0}) Error → List X → V → Type 0
ReadsInto R value n old dst (Ok u) dst' new = AreRead R value n old dst' new
ReadsInto {V} {X} R value n old dst (Err e) dst' new = (xs : List X) × (mid : V) × AreRead R value n old xs mid
    × (length xs < length dst) × (dst' ≡ xs ++ drop (length xs) dst) × ReadsValue R value n mid (Err e) new

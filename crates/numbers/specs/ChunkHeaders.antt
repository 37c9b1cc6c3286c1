-- What the header of a chunk is, and how it is written and read.
use Rattle.std.specs.Prelude.{◌≡◌, ◌⊎◌, ℕ, List, ◌++◌, Result, Ok, Err}
use Rattle.byteorder.specs.Endian.{big_bytes, big_number}
use Rattle.no_std_io2.specs.{declared.io.Error.{Error}, Takes.{Reader}, Writers.{Writer, WriteAllOf}}
use Rattle.numbers.specs.Numbers.{ReadsValue}

-- the kind in two bytes and the length in four, the highest byte first
abbrev pub chunk_header : ℕ → ℕ → List ℕ
chunk_header kind len = big_bytes 2 kind ++ big_bytes 4 len

-- a header was written: the kind by one `write_all`, and if that succeeded, the length by another
abbrev pub WritesChunkHeader : {W : Type 0} → Writer W → ℕ → ℕ → W → Result (Unit {0}) Error → W → Type 0
WritesChunkHeader {W} I kind len old reply new = ((e : Error) × (reply ≡ Err e) × WriteAllOf I old (big_bytes 2 kind) (Err e) new)
    ⊎ ((mid : W) × WriteAllOf I old (big_bytes 2 kind) (Ok tt) mid × WriteAllOf I mid (big_bytes 4 len) reply new)

-- this number, with one that was read behind it
abbrev with_first : {A B : Type 0} → A → Result B Error → Result (A × B) Error
with_first a (Ok b) = Ok (a, b)
with_first a (Err e) = Err e

-- two numbers were read: one of n bytes, and behind it one of m bytes; or the read of the first failed
abbrev pub ReadsTwo : {V A B : Type 0} → Reader V → (List ℕ → A) → ℕ → (List ℕ → B) → ℕ → V → Result (A × B) Error → V → Type 0
ReadsTwo {V} {A} {B} R first n second m old reply new = ((e : Error) × (reply ≡ Err e) × ReadsValue R first n old (Err e) new)
    ⊎ ((a : A) × (mid : V) × (b : Result B Error) × ReadsValue R first n old (Ok a) mid × ReadsValue R second m mid b new
    × (reply ≡ with_first a b))

-- a header was read: the kind, and behind it the length
abbrev pub ReadsChunkHeader : {V : Type 0} → Reader V → V → Result (ℕ × ℕ) Error → V → Type 0
ReadsChunkHeader R = ReadsTwo R (big_number 2) 2 (big_number 4) 4

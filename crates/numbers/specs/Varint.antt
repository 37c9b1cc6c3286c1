-- A number in groups of seven bits, the lowest first (LEB128): each byte but the last has its highest bit set.
use Rattle.std.specs.Prelude.{◌≡◌, ◌≢◌, ◌⊎◌, ℕ, ◌+◌, ◌*◌, ◌%◌, ◌<◌, ◌≤◌, ◌^◌, List, [], ◌∷◌, ◌++◌, length, take, codes, ⊤, Result, Ok, Err}
use Rattle.std.specs.Prelude.{Some}
use Rattle.no_std_io2.specs.{declared.io.{Error.{Error}, ErrorKind.TheVariants.{InvalidData}}, Errors.{SaysError}}
use Rattle.no_std_io2.specs.{Events.{Event, events_of}, Takes.{to_come, Reader, tells}}
use Rattle.numbers.specs.Numbers.{AreRead, ReadsValue, first_byte}

-- the number that these bytes spell
abbrev pub varint_value : List ℕ → ℕ
varint_value [] = 0
varint_value (b ∷ bytes) = b % 128 + 128 * varint_value bytes

-- a byte behind which another one comes
abbrev pub VarintContinues : ℕ → Type 0
VarintContinues b = (128 ≤ b) × (b < 256)

-- none of them ends a number
abbrev pub NoneEnds : List ℕ → Type 0
NoneEnds [] = ⊤
NoneEnds (b ∷ bytes) = VarintContinues b × NoneEnds bytes

-- The bytes are a number, the shortest that spells it: the last one is not 0, if others come before it.
abbrev pub IsVarint : List ℕ → Type 0
IsVarint [] = ⊥
IsVarint (b ∷ []) = b < 128
IsVarint (b ∷ c ∷ bytes) = VarintContinues b × (c ∷ bytes ≢ 0 ∷ []) × IsVarint (c ∷ bytes)

-- these bytes spell n
abbrev pub SpellsVarint : ℕ → List ℕ → Type 0
SpellsVarint n bytes = IsVarint bytes × (varint_value bytes ≡ n)

-- no number below 2^64 begins with these bytes
abbrev pub IsRefused : List ℕ → Type 0
IsRefused bytes = (rest : List ℕ) → IsVarint (bytes ++ rest) → 2 ^ 64 ≤ varint_value (bytes ++ rest)

-- the error that says so
abbrev pub SaysNoVarint : Error → Type 0
SaysNoVarint e = SaysError InvalidData (codes "no number of 64 bits") e

-- Bytes were read one by one: those of a number, and no others. Or the read of one more failed, after which bytes are lost; or no number
-- below 2^64 begins with those that were read.
abbrev pub ReadsVarint : {V : Type 0} → Reader V → V → Result ℕ Error → V → Type 0
ReadsVarint R old (Ok n) new = (bytes : List ℕ) × AreRead R first_byte 1 old bytes new × SpellsVarint n bytes
ReadsVarint {V} R old (Err e) new = (bytes : List ℕ) × (((mid : V) × AreRead R first_byte 1 old bytes mid × NoneEnds bytes
    × (length bytes < 10) × ReadsValue R first_byte 1 mid (Err e) new)
    ⊎ (AreRead R first_byte 1 old bytes new × (length bytes ≤ 10) × IsRefused bytes × SaysNoVarint e))

-- if the bytes of a number are known to come next, it is read, and no other byte
abbrev pub ReadsVarintBack : {V : Type 0} → Reader V → V → Result ℕ Error → V → Type 0
ReadsVarintBack R old reply new = (n : ℕ) (bytes : List ℕ) (rest : List Event) → SpellsVarint n bytes → n < 2 ^ 64
    → to_come (tells R old) ≡ Some (events_of bytes ++ rest) → (reply ≡ Ok n) × (to_come (tells R new) ≡ Some rest)

-- bytes up to one that ends a number; or ten, and none does
abbrev pub IsGathered : List ℕ → Type 0
IsGathered bytes = ((x : List ℕ) × (b : ℕ) × (bytes ≡ x ++ b ∷ []) × NoneEnds x × (b < 128)) ⊎ (NoneEnds bytes × (length bytes ≡ 10))

-- the first bytes of the buffer were read and are so; or the read of one more failed
abbrev pub GathersVarint : {V : Type 0} → Reader V → V → List ℕ → Result ℕ Error → V → Type 0
GathersVarint R old buf (Ok n) new = (n ≤ length buf) × (0 < n) × AreRead R first_byte 1 old (take n buf) new × IsGathered (take n buf)
GathersVarint {V} R old buf (Err e) new = (bytes : List ℕ) × (mid : V) × AreRead R first_byte 1 old bytes mid × NoneEnds bytes
    × (length bytes < 10) × ReadsValue R first_byte 1 mid (Err e) new

-- if the bytes of a number are known to come next, these are gathered, and no other byte
abbrev pub GathersBack : {V : Type 0} → Reader V → V → List ℕ → Result ℕ Error → V → Type 0
GathersBack R old buf reply new = (bytes : List ℕ) (rest : List Event) → IsVarint bytes → length bytes ≤ 10
    → to_come (tells R old) ≡ Some (events_of bytes ++ rest)
    → (reply ≡ Ok (length bytes)) × (take (length bytes) buf ≡ bytes) × (to_come (tells R new) ≡ Some rest)

-- What a record is, and which records some bytes begin with.
use Rattle.std.specs.Prelude.{◌≡◌, ℕ, ◌+◌, ◌*◌, ◌<◌, ◌^◌, ◌%◌, List, [], ◌∷◌, ◌++◌, length, drop}
use Rattle.std.specs.{Int.{w32, to_le_bytes}, List.{fold, AllByRecursion}}

-- the check after one more number
abbrev pub add_number : ℕ → ℕ → ℕ
add_number check n = (check * 16777619 + n) % 2 ^ 32

-- the check that a payload of this length begins with
abbrev pub start : ℕ → ℕ
start len = add_number 2166136261 len

-- the check of a payload: of its length, and then of its bytes
abbrev pub check_of : List ℕ → ℕ
check_of payload = fold add_number (start (length payload)) payload

-- a header: a length and a check, as little-endian numbers of four bytes
abbrev pub header : ℕ → ℕ → List ℕ
header len check = to_le_bytes w32 len ++ to_le_bytes w32 check

-- the bytes of a record
abbrev pub record_of : List ℕ → List ℕ
record_of payload = header (length payload) (check_of payload) ++ payload

-- the bytes of records, one after another
abbrev pub log_of : List (List ℕ) → List ℕ
log_of [] = []
log_of (payload ∷ payloads) = record_of payload ++ log_of payloads

-- no record stands whole at the front of these bytes
abbrev pub HasNoRecord : List ℕ → Type 0
HasNoRecord bytes = (payload rest : List ℕ) → length payload < 2 ^ 32 → bytes ≡ record_of payload ++ rest → ⊥

-- the lengths of these payloads fit a header
abbrev pub AreShort : List (List ℕ) → Type 0
AreShort payloads = AllByRecursion (λ p. length p < 2 ^ 32) payloads

-- The bytes begin with exactly these records, and no whole record follows them, but `rest`.
pub record HasRecords (content : List ℕ) (payloads : List (List ℕ)) (rest : List ℕ) : Type 0 where
  pub short : AreShort payloads
  pub bytes : content ≡ log_of payloads ++ rest
  pub none : HasNoRecord rest

-- These payloads are to be written over old bytes. No record that is cut short there makes a record with the old bytes behind it, and
-- the old bytes behind all of them begin with none.
abbrev pub NoneByChance : List ℕ → List (List ℕ) → Type 0
NoneByChance tail [] = HasNoRecord tail
NoneByChance tail (payload ∷ payloads) =
    ((front lost : List ℕ) → record_of payload ≡ front ++ lost → 0 < length lost → HasNoRecord (front ++ drop (length front) tail))
    × NoneByChance (drop (length (record_of payload)) tail) payloads

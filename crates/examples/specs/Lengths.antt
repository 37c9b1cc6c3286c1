-- Records with their length in front, and what skipping them takes.
use Rattle.std.specs.Prelude.{◌≡◌, ◌⊎◌, ℕ, ◌<◌, List, [], ◌∷◌, ◌++◌, length, Result, Ok, Err, false}
use Rattle.no_std_io2.specs.{Errors.{IsUnexpectedEnd}, Reads.{Took}, Takes.{ReaderState, Reader, tells}, declared.io.Error.{Error}}

-- these bytes are whole records: each is a length, in one byte, followed by that many bytes
pub data AreRecords : List ℕ → Type 0 where
  no_record : AreRecords []
  and_record : (xs body : List ℕ) (len : ℕ) → AreRecords xs → length body ≡ len → AreRecords (xs ++ len ∷ body)

-- these bytes are a record whose end is missing
abbrev pub IsCutOff : List ℕ → Type 0
IsCutOff part = (len : ℕ) × (body : List ℕ) × (part ≡ len ∷ body) × (length body < len)

-- whole records were taken, up to the end; or a fault came behind whole records or inside another one, or the end inside one
abbrev RecordsEnd : ReaderState → ReaderState → Result (Unit {0}) Error → Type 0
RecordsEnd old new (Ok u) = (xs : List ℕ) × AreRecords xs × Took old xs (Ok false) new
RecordsEnd old new (Err e) = (xs : List ℕ) × (part : List ℕ) × AreRecords xs
    × ((Took old (xs ++ part) (Err e) new × ((part ≡ []) ⊎ IsCutOff part))
    ⊎ (Took old (xs ++ part) (Ok false) new × IsUnexpectedEnd e × IsCutOff part))

-- From old to new the records of a reader were skipped.
abbrev pub SkipsRecords : {X : Type 0} → Reader X → X → Result (Unit {0}) Error → X → Type 0
SkipsRecords R old reply new = RecordsEnd (tells R old) (tells R new) reply

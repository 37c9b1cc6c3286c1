-- The lines of a script.
use Rattle.std.specs.Prelude.{◌≡◌, ℕ, ◌==◌, ◌≤◌, ◌<◌, ◌^◌, if◌then◌else◌, codes, List, [], ◌∷◌, ◌++◌, length, ◌⊎◌, Option, Some, None, Bool}
use Rattle.std.specs.{Prelude.{true, false}, List.{flat_map}, Str.Parse.{IsNumeral, digits_value}}

-- the escape of a byte: a newline is a backslash and `n`, a backslash is two backslashes, any other byte is itself
abbrev pub escaped_byte : ℕ → List ℕ
escaped_byte b = if b == 10 then codes "\\n" else (if b == 92 then codes "\\\\" else b ∷ [])

-- these bytes, each escaped
abbrev pub escaped : List ℕ → List ℕ
escaped bytes = flat_map escaped_byte bytes

-- these bytes followed by those, if there are those
abbrev pub joined_if : List ℕ → Option (List ℕ) → Option (List ℕ)
joined_if bytes None = None
joined_if bytes (Some rest) = Some (bytes ++ rest)

-- the bytes that an escaped text stands for, or none if it has a bad escape
abbrev pub unescaped : List ℕ → Option (List ℕ)
unescaped [] = Some []
unescaped (b ∷ []) = if b == 92 then None else Some (b ∷ [])
unescaped (b ∷ c ∷ text) =
    if b == 92
    then (if c == 110 then joined_if (10 ∷ []) (unescaped text) else (if c == 92 then joined_if (92 ∷ []) (unescaped text) else None))
    else joined_if (b ∷ []) (unescaped (c ∷ text))

-- a text that stands for bytes is good, and these are appended
abbrev pub IsAppended : Option (List ℕ) → Bool → List ℕ → List ℕ → Type 0
IsAppended (Some bytes) good old new = (good ≡ true) × (new ≡ old ++ bytes)
IsAppended None good old new = good ≡ false

-- these are one to five digits, their number is n, and n is below 2 ^ 16
pub record IsCount (digits : List ℕ) (n : ℕ) : Type 0 where
  pub numeral : IsNumeral 10 digits
  pub value : digits_value 10 digits ≡ n
  pub short : length digits ≤ 5
  pub fits : n < 2 ^ 16

-- a letter is followed by a space and this text, or by nothing, and then this text is empty
abbrev pub IsTextArgument : List ℕ → List ℕ → Type 0
IsTextArgument rest text = (rest ≡ 32 ∷ text) ⊎ ((rest ≡ []) × (text ≡ []))

-- The text of a reading.
use Rattle.std.specs.Prelude.{ℕ, List, [], ◌∷◌, ◌++◌, decimal}

-- `NAME=VALUE` and a newline
abbrev pub reading : List ℕ → ℕ → List ℕ
reading name value = name ++ 61 ∷ (decimal value ++ 10 ∷ [])

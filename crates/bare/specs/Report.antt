-- The text of a report, and of an event.
use Rattle.std.specs.Prelude.{ℕ, ◌+◌, List, [], ◌∷◌, ◌++◌, codes, decimal}

-- a text for each value, which are numbered from i on, joined
abbrev pub texts_from : (ℕ → ℕ → List ℕ) → ℕ → List ℕ → List ℕ
texts_from text i [] = []
texts_from text i (x ∷ xs) = text i x ++ texts_from text (i + 1) xs

-- the line of a reading: `sensor 0 = 17`
abbrev pub reading_line : ℕ → ℕ → List ℕ
reading_line i reading = codes "sensor " ++ (decimal i ++ (codes " = " ++ (decimal reading ++ 10 ∷ [])))

-- the lines of all readings
abbrev pub report : List ℕ → List ℕ
report readings = texts_from reading_line 0 readings

-- the line of an event: `event 17`
abbrev pub event_line : ℕ → List ℕ
event_line number = codes "event " ++ (decimal number ++ 10 ∷ [])

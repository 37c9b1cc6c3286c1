-- The text of a table.
use Rattle.std.specs.{Prelude.{ℕ, ◌<◌, ◌⊎◌, List, [], ◌∷◌, ◌++◌, length, take, get_or, decimal, Some, Result, Ok, Err}, List.{flat_map}}
use Rattle.no_std_io2.specs.{declared.io.Error.{Error}, Errors.{IsTextError}, Moves.{WriterState, Moves, MovesFront}, Writers.{Writer}}
use Rattle.no_std_io2.specs.inner.Writers.{PrintsByOne}

-- `ID=VALUE` and a newline
abbrev pub row_text : ℕ × ℕ → List ℕ
row_text row = decimal row.0 ++ 61 ∷ (decimal row.1 ++ 10 ∷ [])

-- a line for each of these rows
abbrev pub table : List (ℕ × ℕ) → List ℕ
table rows = flat_map row_text rows

-- The writer stopped with the error e, and has accepted a front of the table; or the `fmt` of a number failed, and the writer has accepted
-- the rows before it, each whole.
abbrev pub StopsTable : WriterState → List (ℕ × ℕ) → Error → WriterState → Type 0
StopsTable old rows e new =
    MovesFront old (table rows) (Err e) new ⊎ (IsTextError e × (k : ℕ) × (k < length rows) × Moves old (table (take k rows)) [] new)

-- These rows were printed, each by one call, in order, and no other call was made.
pub data ArePrinted {W : Type 0} (I : Writer W) (old : W) : List (ℕ × ℕ) → W → Type 0 where
  no_row : ArePrinted I old [] old
  and_row : {rows : List (ℕ × ℕ)} {mid new : W} (row : ℕ × ℕ) → ArePrinted I old rows mid
      → PrintsByOne I 32 (Some (row_text row)) mid (Ok tt) new → ArePrinted I old (rows ++ row ∷ []) new

-- All rows were printed so; or the first k, and then the call for the next one failed.
abbrev pub PrintsRows : {W : Type 0} → Writer W → List (ℕ × ℕ) → W → Result (Unit {0}) Error → W → Type 0
PrintsRows I rows old (Ok u) new = ArePrinted I old rows new
PrintsRows {W} I rows old (Err e) new = (k : ℕ) × (mid : W) × (k < length rows) × ArePrinted I old (take k rows) mid
    × PrintsByOne I 32 (Some (row_text (get_or rows k (0, 0)))) mid (Err e) new

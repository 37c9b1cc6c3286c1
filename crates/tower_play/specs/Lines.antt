-- What the lines of a script say.
use Rattle.std.specs.Prelude.{◌≡◌, ℕ, Bool, true, false, List, [], ◌++◌, codes, ⊤}
use Rattle.io_bench.specs.{declared.faulty.Act.TheVariants.{Take, Zero, Fail}, Kinds.{kind_name}}
use Rattle.tower_play.specs.declared.script.{Line.{Line, TheVariants.{Empty, Act, Write, WriteAll, Flush, Bad}}, Step.{Step}}
use Rattle.tower_play.specs.{declared.script.Step.TheVariants.{Write as write_step, WriteAll as write_all_step}}
use Rattle.tower_play.specs.Script.{IsCount, IsTextArgument}

-- what a line says; a bad line says nothing
abbrev pub Says : List ℕ → Line → Type 0
Says line Empty = line ≡ []
Says line (Act (Take n)) = (digits : List ℕ) × (line ≡ codes "t " ++ digits) × IsCount digits n
Says line (Act Zero) = line ≡ codes "z"
Says line (Act (Fail kind)) = line ≡ codes "e " ++ kind_name kind
Says line (Write text) = (rest : List ℕ) × (line ≡ codes "w" ++ rest) × IsTextArgument rest text.now
Says line (WriteAll text) = (rest : List ℕ) × (line ≡ codes "a" ++ rest) × IsTextArgument rest text.now
Says line Flush = line ≡ codes "f"
Says line Bad = ⊤

-- a line that says something
abbrev pub IsNoBad : Line → Type 0
IsNoBad Bad = ⊥
IsNoBad _ = ⊤

-- a line that is empty, an act or a call
pub record IsGood (line : List ℕ) : Type 0 where
  pub said : Line
  pub says : Says line said
  pub good : IsNoBad said

-- a call with a text of that many bytes
abbrev pub text_step : Bool → ℕ → Step
text_step false n = write_step n
text_step true n = write_all_step n

-- What a program is asked of itself, and what it tells.
use Rattle.std.specs.{Prelude.{◌≡◌, ℕ, List, ◌++◌, ◌⊎◌, codes, Option, Some, Result, OnErr, OnOk}, Process.{exit_status}}
use Rattle.std.specs.{declared.process.ExitCode.{ExitCode}, Fmt.{◌++?◌}}
use Rattle.std.specs.declared.io.Error as Std

-- this word asks for a help or for a version
abbrev pub AsksAbout : List ℕ → Type 0
AsksAbout word = (word ≡ codes "--help") ⊎ (word ≡ codes "--version")

-- a line was handed to standard error, whose text is this, if it is known
abbrev pub TellsLine : {R : Type 0} → (R → Option (List ℕ) → Result (Unit {0}) Std.Error → Type 0) → R → Option (List ℕ) → Type 0
TellsLine may rt text = (reply : Result (Unit {0}) Std.Error) × may rt text reply

-- A text was printed, and the program ended with this status: 0, or 1 after an error, of which a line was handed to standard error.
pub record EndsPrinted {R : Type 0} (may_print may_tell : R → Option (List ℕ) → Result (Unit {0}) Std.Error → Type 0) (rt : R)
    (program text : List ℕ) (status : ExitCode) : Type 0 where
  pub reply : Result (Unit {0}) Std.Error
  pub printed : may_print rt (Some text) reply
  pub done : OnOk reply (exit_status status ≡ 0)
  pub failed : OnErr reply (exit_status status ≡ 1)
  pub told : OnErr reply ((line : Option (List ℕ)) × TellsLine may_tell rt line)

-- the line of an error of this text: the program's name stands in front
abbrev pub error_line : List ℕ → Option (List ℕ) → Option (List ℕ)
error_line program text = Some program ++? Some (codes ": ") ++? text

-- what `--version` prints
abbrev pub version_line : List ℕ → List ℕ → List ℕ
version_line program number = program ++ codes " " ++ number ++ codes "\n"

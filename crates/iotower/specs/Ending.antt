-- What the program does for its arguments, and how it ends. F are the ghost members of the device of a play, K those of the input, and I
-- those of the output.
use Rattle.std.specs.{Prelude.{◌≡◌, ◌⊎◌, ℕ, Bool, List, [], codes, Option, Some, None, Result, Ok, Err, IfSome, String}, Global.{Global}}
use Rattle.std.specs.{Process.{exit_status}, declared.process.ExitCode.{ExitCode}}
use Rattle.no_std_io2.specs.{declared.io.Error.{Error}, Errors.{IsOutOfMemory}, Pieces.{newline}, Retries.{IsFaultOf}}
use Rattle.no_std_io2.specs.{Takes.{Reader, tells, to_come}, Writers.{Writer}}
use Rattle.io_bench.specs.declared.faulty.Faulty.{Faulty}
use Rattle.cli.specs.About.{TellsLine, error_line}
use Rattle.system_streams.specs.Copies.{CopiesAll, HandsThrough}
use Rattle.tower_play.specs.{declared.playing.{Fault.{Fault, TheVariants.{Io, Line}}, Shape.{Shape}}, Play.{IsPlay, WritesText}}
use Rattle.tower_play.specs.{Faults.{fault_display}, Reading.{IsBadAt}}
use Rattle.iotower.specs.{Words.{AsksOf}, declared.Command.{Command, TheVariants.{Copy, Play}}}
use Rattle.std.specs.declared.io.Error as Std

-- A copy through such a buffer had this result: all of the input was accepted and sent, or the fault is that of the input or the output.
abbrev pub DoesCopy : {X W : Type 0} → Reader X → Writer W → Bool → X → W → Result W Fault → Type 0
DoesCopy K I line from old (Ok new) =
    ((n : ℕ) × CopiesAll (tells K from) (I.told old) n (I.told new)) × ((I.told new).held ≡ []) × HandsThrough I line old new
DoesCopy K I line from old (Err fault) = (e : Error) × (fault ≡ Io e) × IsFaultOf (tells K from) (I.told old) e

-- A play on such a tower had this result: the text of the run was sent; or a line of the script is bad; or the fault is that of the
-- input or the output, or memory was refused.
abbrev pub DoesPlay : {D X W : Type 0} → Writer (Faulty D) → Reader X → Writer W → Shape → X → W → Result W Fault → Type 0
DoesPlay F K I shape from old (Ok new) = WritesText (IsPlay F shape (to_come (tells K from))) (I.told old) (I.told new)
DoesPlay F K I shape from old (Err (Line n)) = IfSome (to_come (tells K from)) (λ E. IsBadAt newline E n)
DoesPlay F K I shape from old (Err (Io e)) = IsFaultOf (tells K from) (I.told old) e ⊎ IsOutOfMemory e

-- what a command did
abbrev pub Does : {D X W : Type 0} → Writer (Faulty D) → Reader X → Writer W → Command → X → W → Result W Fault → Type 0
Does F K I (Copy line) from old reply = DoesCopy K I line from old reply
Does F K I (Play shape) from old reply = DoesPlay F K I shape from old reply

-- How a run ends that had this result: with the status 0; or a line of its fault goes to standard error, and the status is 1.
abbrev pub EndsRun : {R T : Type 0} → (R → Option (List ℕ) → Result (Unit {0}) Std.Error → Type 0) → R → Result T Fault → ExitCode
    → Type 0
EndsRun may rt (Ok done) status = exit_status status ≡ 0
EndsRun may rt (Err fault) status = (exit_status status ≡ 1) × TellsLine may rt (error_line (codes "iotower") (Some (fault_display fault)))

-- what is told of a wrong call
abbrev pub usage_text : List ℕ
usage_text = codes "usage: iotower copy buf|line, iotower play buf|line|buf-buf|line-buf"

-- How the program ends, by what its arguments ask for: a command, and it does what that says; no command, which is a wrong call; or the
-- fault of not having them.
abbrev pub EndsAsked : {R D X W : Type 0} → (R → Option (List ℕ) → Result (Unit {0}) Std.Error → Type 0) → R → Writer (Faulty D) → Reader X
    → Writer W → X → W → Result (Option Command) Fault → ExitCode → Type 0
EndsAsked {W = W} may rt F K I from old (Ok (Some command)) status =
    (reply : Result W Fault) × Does F K I command from old reply × EndsRun may rt reply status
EndsAsked may rt F K I from old (Ok None) status = (exit_status status ≡ 2) × TellsLine may rt (Some usage_text)
EndsAsked may rt F K I from old (Err fault) status = EndsRun {T = Unit {0}} may rt (Err fault) status

-- The whole program: it was called with these arguments, or with some that were not found, and ended with this status.
pub record Answers {R D X W T : Type 0} (may : R → Option (List ℕ) → Result (Unit {0}) Std.Error → Type 0) (rt : R) (F : Writer (Faulty D))
    (K : Reader X) (I : Writer W) (words : T → List (String Global)) (found : Result T Std.Error) (from : X) (old : W) (status : ExitCode)
    : Type 0 where
  pub asked : Result (Option Command) Fault
  pub asks : AsksOf words found asked
  pub ends : EndsAsked may rt F K I from old asked status

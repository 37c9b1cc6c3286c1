-- The script that lines make.
use Rattle.std.specs.Prelude.{◌≡◌, ℕ, ◌+◌, ◌-◌, ◌^◌, ◌<◌, ◌⊎◌, min, true, false, List, [], ◌∷◌, ◌++◌, length, vec_len, vec_capacity, None}
use Rattle.std.specs.Io.BufRead.{strip_last}
use Rattle.no_std_io2.specs.{Events.{Event}}
use Rattle.io_bench.specs.PieceRuns.{AllPieces}
use Rattle.tower_play.specs.declared.script.{Calls.{Calls}, Script.{Script}, Line.{Line, TheVariants.{Empty, Act, Write, WriteAll, Flush}}}
use Rattle.tower_play.specs.{declared.script.{Line.TheVariants.{Bad}, Step.TheVariants.{Flush as flush_step}}, Script.{unescaped}}
use Rattle.tower_play.specs.{Lines.{Says, IsGood}, Calls.{AddsText, IsFull}}

-- one flush was added
abbrev AddsFlush : Calls → Calls → Type 0
AddsFlush old new = (new.steps.items ≡ old.steps.items ++ flush_step ∷ []) × (new.texts ≡ old.texts)

-- a line that says this adds nothing, an act before the first call, or a call
abbrev AddsSaid : Line → Script → Script → Type 0
AddsSaid Empty old new = new ≡ old
AddsSaid (Act act) old new =
    (vec_len old.calls.steps ≡ 0) × (new.acts.items ≡ old.acts.items ++ act ∷ []) × (new.calls ≡ old.calls)
AddsSaid (Write text) old new = (new.acts ≡ old.acts) × AddsText false text.now old.calls new.calls
AddsSaid (WriteAll text) old new = (new.acts ≡ old.acts) × AddsText true text.now old.calls new.calls
AddsSaid Flush old new = (new.acts ≡ old.acts) × AddsFlush old.calls new.calls
AddsSaid Bad old new = ⊥

-- what a good line adds
pub record Adds (line : List ℕ) (old new : Script) : Type 0 where
  pub said : Line
  pub says : Says line said
  pub adds : AddsSaid said old new

-- a line that says something is bad all the same: an act after a call, or a text with a bad escape
abbrev IsUnfit : Line → Script → Type 0
IsUnfit (Act act) old = 0 < vec_len old.calls.steps
IsUnfit (Write text) old = unescaped text.now ≡ None
IsUnfit (WriteAll text) old = unescaped text.now ≡ None
IsUnfit _ old = ⊥

-- there is no room for what a line that says this adds: an act before the first call, a text and a call, or a call
abbrev pub LineLacksRoom : Line → Script → Type 0
LineLacksRoom (Act act) old = (vec_len old.calls.steps ≡ 0) × (vec_capacity old.acts < vec_len old.acts + 1)
LineLacksRoom (Write text) old = IsFull (length text.now) old.calls
LineLacksRoom (WriteAll text) old = IsFull (length text.now) old.calls
LineLacksRoom Flush old = vec_capacity old.calls.steps < vec_len old.calls.steps + 1
LineLacksRoom _ old = ⊥

-- the line is bad after those that made this script: it says nothing, or something that is bad there
abbrev pub IsBadLine : List ℕ → Script → Type 0
IsBadLine line old = (IsGood line → ⊥) ⊎ ((said : Line) × Says line said × IsUnfit said old)

-- the lines add this, one after another
abbrev pub AddsAll : List (List ℕ) → Script → Script → Type 0
AddsAll [] old new = new ≡ old
AddsAll (line ∷ lines) old new = (mid : Script) × Adds line old mid × AddsAll lines mid new

-- a script of no lines
pub record IsFreshScript (script : Script) : Type 0 where
  pub acts : script.acts.items ≡ []
  pub steps : script.calls.steps.items ≡ []
  pub texts : script.calls.texts.items ≡ []

-- the script is what the lines of these events add, each ended by d, and no event is a fault
pub record IsRead (d : ℕ) (E : List Event) (script : Script) : Type 0 where
  pub lines : List (List ℕ)
  pub all : AllPieces (strip_last d) d E lines
  pub start : Script
  pub fresh : IsFreshScript start
  pub adds : AddsAll lines start script

-- the first bad line has this number, from 1: the lines before it make a script, and it is bad after them
pub record IsFirstBad (lines : List (List ℕ)) (n : ℕ) : Type 0 where
  pub good : List (List ℕ)
  pub bad : List ℕ
  pub left : List (List ℕ)
  pub are : lines ≡ good ++ bad ∷ left
  pub start : Script
  pub fresh : IsFreshScript start
  pub made : Script
  pub adds : AddsAll good start made
  pub is : IsBadLine bad made
  pub number : n ≡ min (length good + 1) (2 ^ 64 - 1)

-- no event is a fault, and this is the number of the first bad line of these events, each ended by d
pub record IsBadAt (d : ℕ) (E : List Event) (n : ℕ) : Type 0 where
  pub lines : List (List ℕ)
  pub all : AllPieces (strip_last d) d E lines
  pub first : IsFirstBad lines n

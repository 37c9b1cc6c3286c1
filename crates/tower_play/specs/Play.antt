-- The calls of a play, and what it prints.
use Rattle.std.specs.Prelude.{◌≡◌, ℕ, List, [], ◌++◌, Option, IfSome}
use Rattle.no_std_io2.specs.{Writers.{Writer}, Moves.{WriterState, Moves, told_out}, Calls.{WriteCall}, inner.BufWriter.{with_buffer}}
use Rattle.no_std_io2.specs.{inner.{BufWriter.{InnerCalls, LevelCalls}, LineWriter.{LineCalls}}, Events.{Event}, Pieces.{newline}}
use Rattle.io_bench.specs.{declared.{faulty.{Act.{Act}, Faulty.{Faulty}}, runs.{Op.{Op}, Reply.{Reply}}}, Faulty.{with_acts, acts_left}}
use Rattle.io_bench.specs.Runs.{Ran, RunBelow, RunLaw}
use Rattle.tower_play.specs.declared.{playing.Shape.{Shape, TheVariants.{Buf, Line, BufBuf, LineBuf}}, script.Script.{Script}}
use Rattle.tower_play.specs.{Calls.{AreCalls}, Reading.{IsRead}, Report.{printed_report}}

-- what a tower with empty buffers tells over an empty vector with these acts in front
abbrev pub fresh_told : List Act → WriterState
fresh_told acts = with_acts (told_out []) acts

-- the calls of a level above a buffer of 8 bytes were these calls of the device below both; these bytes are held afterwards, the inner
-- level's first
abbrev pub TwoLevels : (List ℕ → WriteCall → List WriteCall → List ℕ → Type 0) → List WriteCall → List WriteCall → List ℕ → Type 0
TwoLevels outer calls below held = (mid : List WriteCall) × (above : List ℕ) × (inner : List ℕ)
    × LevelCalls outer [] calls mid above × LevelCalls (InnerCalls 8) [] mid below inner × (held ≡ inner ++ above)

-- the calls of a tower of this shape were these calls of the device
abbrev pub TowerCalls : Shape → List WriteCall → List WriteCall → List ℕ → Type 0
TowerCalls Buf calls below held = LevelCalls (InnerCalls 8) [] calls below held
TowerCalls Line calls below held = LevelCalls (LineCalls 8) [] calls below held
TowerCalls BufBuf calls below held = TwoLevels (InnerCalls 8) calls below held
TowerCalls LineBuf calls below held = TwoLevels (LineCalls 8) calls below held

-- These calls were made of a writer, and the text has their replies, and the bytes that were out and held afterwards.
pub record ShowsRun {T : Type 0} (I : Writer T) (old : T) (ops : List Op) (text : List ℕ) : Type 0 where
  pub replies : List Reply
  pub new : T
  pub law : RunLaw I old ops replies new
  pub shown : text ≡ printed_report replies (I.told new).out (I.told new).held

-- These calls were made of a tower of this shape, over an empty device that fails as these acts say, and the text shows the run.
pub record Shows {W : Type 0} (I : Writer (Faulty W)) (shape : Shape) (acts : List Act) (ops : List Op) (text : List ℕ) : Type 0 where
  pub replies : List Reply
  pub old : Faulty W
  pub fresh : (acts_left old ≡ acts) × (I.told old ≡ fresh_told acts)
  pub new : Faulty W
  pub held : List ℕ
  pub ran : Ran (fresh_told acts) ops replies (with_buffer (I.told new) held)
  -- the device got the calls that such a tower makes
  pub calls : RunBelow I (λ calls below. TowerCalls shape calls below held) old ops replies new
  pub shown : text ≡ printed_report replies (I.told new).out held

-- The text shows the run of a script on such a tower. If events were to come, the script is read from all of them.
pub record IsPlay {W : Type 0} (I : Writer (Faulty W)) (shape : Shape) (events : Option (List Event)) (text : List ℕ) : Type 0 where
  pub script : Script
  pub read : IfSome events (λ E. IsRead newline E script)
  pub ops : List Op
  pub calls : AreCalls script.calls ops
  pub shows : Shows I shape script.acts.items ops text

-- From old to new a writer accepted a text for which P holds, and nothing is held.
pub record WritesText (P : List ℕ → Type 0) (old new : WriterState) : Type 0 where
  pub text : List ℕ
  pub is : P text
  pub moves : Moves old text [] new
  pub empty : new.held ≡ []

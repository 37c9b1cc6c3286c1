-- What became of the files that a program is called with. `Try` is what a try of one may do to the program's state, and `Tell` what
-- telling of one that failed may do.
use Rattle.std.specs.Prelude.{◌≡◌, Bool, true, false, List, [], ◌∷◌, ◌++◌, Result, Ok, Err}
use Rattle.cli.specs.declared.files.FileFault.{FileFault, TheVariants.{File, Output}}

-- Files with these names were tried, one after another, and the output did not fail. Of each that failed it was told why, right after its
-- try. `whole` says that none failed.
pub data TriesEach {X N E : Type 0} (Try : X → N → Result (Unit {0}) (FileFault E) → X → Type 0) (Tell : X → N → E → X → Type 0) (old : X)
    : List N → Bool → X → Type 0 where
  none_tried : TriesEach Try Tell old [] true old
  then_done : {names : List N} {whole : Bool} {mid new : X} (name : N) → TriesEach Try Tell old names whole mid
      → Try mid name (Ok tt) new → TriesEach Try Tell old (names ++ name ∷ []) whole new
  then_told : {names : List N} {whole : Bool} {mid tried new : X} (name : N) (why : E) → TriesEach Try Tell old names whole mid
      → Try mid name (Err (File why)) tried → Tell tried name why new → TriesEach Try Tell old (names ++ name ∷ []) false new

-- The output failed at one of these names. Those before it had been tried, and nothing was done for those behind it.
pub record StopsAt {X N E : Type 0} (Try : X → N → Result (Unit {0}) (FileFault E) → X → Type 0) (Tell : X → N → E → X → Type 0)
    (names : List N) (old : X) (why : E) (new : X) : Type 0 where
  pub before : List N
  pub at : N
  pub behind : List N
  pub are : names ≡ before ++ at ∷ behind
  pub whole : Bool
  pub mid : X
  pub tried : TriesEach Try Tell old before whole mid
  pub output_fails : Try mid at (Err (Output why)) new

-- All names were tried, or the output failed before.
abbrev pub TriesFiles : {X N E : Type 0} → (X → N → Result (Unit {0}) (FileFault E) → X → Type 0) → (X → N → E → X → Type 0) → List N → X
    → Result Bool E → X → Type 0
TriesFiles Try Tell names old (Ok whole) new = TriesEach Try Tell old names whole new
TriesFiles Try Tell names old (Err why) new = StopsAt Try Tell names old why new

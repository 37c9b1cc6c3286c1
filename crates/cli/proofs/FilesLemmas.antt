-- A program's way through its files: one file more.
use Rattle.no_std_io2.proofs.Words.{◌≡◌, ℕ, ◌+◌, ◌<◌, Bool, false, List, [], ◌∷◌, ◌++◌, length, take, drop, get_or, Result, Ok, Err, sym}
use Rattle.no_std_io2.proofs.Words.{ap, ◌∙◌, subst, arith, common_steps, take_more, take-append-drop}
use Rattle.cli.specs.{declared.files.FileFault.{FileFault, TheVariants.{File, Output}}, Files.{TriesEach, then_done, then_told, StopsAt}}

module _ {N : Type 0} (names : List N) (i : ℕ) (name : N) (within : i < length names) (is : name ≡ get_or names i name) where
  with_one : take (i + 1) names ≡ take i names ++ name ∷ []
  with_one = take_more names i name within ∙ ap (λ n. take i names ++ n ∷ []) (sym is)

  all_are : names ≡ take i names ++ name ∷ drop (i + 1) names
  all_are = grind (arith, common_steps, take-append-drop (i + 1) names, with_one)

module _ {X N E : Type 0} {Try : X → N → Result (Unit {0}) (FileFault E) → X → Type 0} {Tell : X → N → E → X → Type 0} {old : X}
    (names : List N) (i : ℕ) (name : N) (within : i < length names) (is : name ≡ get_or names i name) where
  pub tries_done : {whole : Bool} {mid new : X} {u : Unit {0}} → TriesEach Try Tell old (take i names) whole mid → Try mid name (Ok u) new
      → TriesEach Try Tell old (take (i + 1) names) whole new
  tries_done {whole} {new = new} so_far done =
      subst (λ l. TriesEach Try Tell old l whole new) (sym (with_one names i name within is)) (then_done name so_far done)

  pub tries_told : {whole : Bool} {mid tried new : X} {why : E} → TriesEach Try Tell old (take i names) whole mid
      → Try mid name (Err (File why)) tried → Tell tried name why new → TriesEach Try Tell old (take (i + 1) names) false new
  tries_told {new = new} {why} so_far failed told =
      subst (λ l. TriesEach Try Tell old l false new) (sym (with_one names i name within is)) (then_told name why so_far failed told)

  pub stops_at : {whole : Bool} {mid new : X} {why : E} → TriesEach Try Tell old (take i names) whole mid
      → Try mid name (Err (Output why)) new → StopsAt Try Tell names old why new
  stops_at so_far fails = record {
    before = take i names;
    at = name;
    behind = drop (i + 1) names;
    are = all_are names i name within is;
    whole = _;
    mid = _;
    tried = so_far;
    output_fails = fails;
  }

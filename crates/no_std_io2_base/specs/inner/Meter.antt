-- By how much each number rises that counts the calls of a writer.
use Rattle.std.specs.Prelude.{◌≡◌, ℕ, ◌+◌, ◌≤◌}
use Rattle.no_std_io2_base.specs.{Writers.{Writer, TakesAll}, Meter.{IsMeter}}

-- If the writer takes all, each number that counts its calls rises by n.
abbrev pub Costs : {W : Type 0} → Writer W → W → ℕ → W → Type 0
Costs {W} I old n new = (cost : W → ℕ) → IsMeter I.may cost → TakesAll I old → cost new ≡ cost old + n

-- If the writer takes all, each number that counts its calls rises by at most n.
abbrev pub CostsAtMost : {W : Type 0} → Writer W → W → ℕ → W → Type 0
CostsAtMost {W} I old n new = (cost : W → ℕ) → IsMeter I.may cost → TakesAll I old → cost new ≤ cost old + n

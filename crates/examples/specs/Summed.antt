-- What a writer with a checksum adds to its sum.
use Rattle.std.specs.Prelude.{◌≡◌, ℕ, List, ◌+◌, ◌%◌, ◌^◌, sum}
use Rattle.examples.specs.declared.summed.Summed.{Summed}

-- the inner writer
abbrev pub summed_inner : {W : Type 0} → Summed W → W
summed_inner s = s.inner

-- the sum so far
abbrev pub summed_sum : {W : Type 0} → Summed W → ℕ
summed_sum s = s.sum

-- the sum grew by these bytes, modulo 2^64
abbrev pub Sums : {W : Type 0} → Summed W → List ℕ → Summed W → Type 0
Sums old bytes new = summed_sum new % 2 ^ 64 ≡ (summed_sum old + sum bytes) % 2 ^ 64

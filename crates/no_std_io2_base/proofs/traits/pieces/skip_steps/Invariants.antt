use Rattle.std.{proofs.Common.{◌≡◌, ◌≤◌, ◌-◌, length}, specs.List.{AllWithin}}
use Rattle.no_std_io2_base.proofs.traits.pieces.skip_steps.Given as goal

abbrev pub invariant-steps : goal.invariant-steps
invariant-steps l = (l.at ≤ length l.bytes) × AllWithin (λ b. b ≡ l.wanted → ⊥) l.bytes 0 l.at

abbrev pub decreases-steps : goal.decreases-steps
decreases-steps l = length l.bytes - l.at

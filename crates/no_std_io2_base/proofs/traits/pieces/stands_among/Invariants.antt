use Rattle.std.{proofs.Common.{◌≡◌, ◌+◌, false}, specs.List.{AllWithin}}
use Rattle.no_std_io2_base.proofs.traits.pieces.stands_among.Given as goal

abbrev pub invariant-bytes : goal.invariant-bytes
invariant-bytes g l = l.stands ≡ false → AllWithin (λ b. b ≡ l.wanted → ⊥) l.bytes l.at (l.at + l.i)

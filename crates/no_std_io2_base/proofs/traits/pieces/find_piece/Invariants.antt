use Rattle.std.{proofs.Common.{◌≡◌}, specs.List.{AllWithin}}
use Rattle.no_std_io2_base.proofs.traits.pieces.find_piece.Given as goal

abbrev pub invariant-bytes : goal.invariant-bytes
invariant-bytes l = AllWithin (λ b. b ≡ l.delim → ⊥) l.lent 0 l.i

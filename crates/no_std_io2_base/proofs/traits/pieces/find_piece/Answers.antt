-- Where the delimiter was found, and that it was not: the search does not use what holds of each byte below a place.
use Rattle.std.proofs.Common.{◌<◌, ◌≢◌, length, rules, arith}
use Rattle.no_std_io2_base.proofs.PieceLemmas.{all_before, found_at, found_none}
use Rattle.no_std_io2_base.proofs.traits.pieces.find_piece.Goals as goal

pub returns-then-lent-i : goal.returns-then-lent-i
returns-then-lent-i c =
    let within : c.bytes.i < length c.args.lent.now = omega arith in
    found_at _ _ c.bytes.i within (search rules) (all_before (λ b. b ≢ c.args.delim) _ _ within c.bytes.invariant)

pub returns : goal.returns
returns c = found_none c.is_empty.ensures (search rules)

-- The prover does not go over the calls of a loop.
use Rattle.no_std_io2.proofs.LimitLemmas.{limit_until}
use Rattle.promises.proofs.AtLimit.{until_at_limit}
use Rattle.promises.proofs.adaptors.keeps_to_its_limit_in_a_piece.Goals as goal

pub returns : goal.returns
returns g c =
    record { takes = limit_until _ c.read_until.ensures.law; at_limit = until_at_limit _ c.read_until.result c.read_until.ensures.law }

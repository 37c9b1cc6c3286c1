-- The prover does not go over the calls of a loop.
use Rattle.no_std_io2.proofs.LimitLemmas.{limit_line}
use Rattle.promises.proofs.AtLimit.{line_at_limit}
use Rattle.promises.proofs.adaptors.keeps_to_its_limit_in_a_line.Goals as goal

pub returns : goal.returns
returns g c =
    record { takes = limit_line _ c.read_line.ensures.law; at_limit = line_at_limit _ c.read_line.result c.read_line.ensures.law }

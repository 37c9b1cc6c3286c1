-- The prover does not go over the calls of a loop.
use Rattle.no_std_io2.proofs.LimitLemmas.{limit_to_end}
use Rattle.promises.proofs.adaptors.drains_to_its_limit.Goals as goal

pub returns : goal.returns
returns g c = record { takes = limit_to_end c.read_to_end.ensures.law; at_limit = c.read_to_end.ensures.at_limit }

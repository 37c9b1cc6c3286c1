-- The prover does not go over the calls of a loop.
use Rattle.no_std_io2.proofs.LimitLemmas.{limit_exact}
use Rattle.promises.proofs.AtLimit.{exact_at_limit}
use Rattle.promises.proofs.adaptors.keeps_to_its_limit.Goals as goal

pub returns : goal.returns
returns g c =
    record {
      takes = limit_exact c.read_exact.result c.read_exact.ensures.law;
      at_limit =
          exact_at_limit _ c.read_exact.result c.read_exact.ensures.law;
    }

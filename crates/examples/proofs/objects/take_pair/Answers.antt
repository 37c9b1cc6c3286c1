-- The search does not join the two calls.
use Rattle.no_std_io2.proofs.TakesLemmas.{TakesBytes-pair}
use Rattle.examples.proofs.objects.take_pair.Goals as goal

pub returns : goal.returns
returns g c = TakesBytes-pair _ c.in_ok-read_exact.ensures c.read_exact-2.ensures

-- The search does not join the two calls.
use Rattle.no_std_io2.proofs.MovesLemmas.{MovesFront-join}
use Rattle.examples.proofs.objects.put_twice.Goals as goal

pub returns : goal.returns
returns g c = MovesFront-join _ _ _ c.in_ok-write_all.ensures.moves c.write_all-2.ensures.moves

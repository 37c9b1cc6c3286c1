-- The prover does not use a meter of the inner writer at the inner states.
use Rattle.no_std_io2.proofs.Forwards.{behind_did}
use Rattle.promises.proofs.counts.has_meters.Goals as goal

pub returns-clause-lent : goal.returns-clause-lent
returns-clause-lent g c = λ cost meter old new call made. meter old.now new.now call (behind_did old new call made)

pub returns-clause-boxed : goal.returns-clause-boxed
returns-clause-boxed g c = λ cost meter old new call made. meter old.value new.value call made

-- The prover does not name the lemmas.
use Rattle.no_std_io2.proofs.{TakesLemmas.{reader}, InMemoryReads.{meters_passing}, Forwards.{behind_did}}
use Rattle.io_bench.proofs.DeviceLemmas.{tally_meters_reads}
use Rattle.promises.proofs.counts.has_read_meters.Goals as goal

pub returns-clause-lent : goal.returns-clause-lent
returns-clause-lent g c = λ cost meter. meters_passing (λ v. v.now) (reader g.R.Stored g.R.Read) behind_did cost meter

pub returns-clause-boxed : goal.returns-clause-boxed
returns-clause-boxed g c = λ cost meter. meters_passing (λ b. b.value) (reader g.R.Stored g.R.Read) (λ a b call did. did) cost meter

pub returns-clause-counted : goal.returns-clause-counted
returns-clause-counted g c = tally_meters_reads (reader g.R.Stored g.R.Read)

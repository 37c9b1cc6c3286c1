-- The prover does not name the lemmas of the levels.
use Rattle.no_std_io2.proofs.{TakesLemmas.{reader}, LimitLemmas.{limit_fills}, InMemoryReads.{fills_passing}, Forwards.{behind_did}}
use Rattle.io_bench.proofs.DeviceLemmas.{tally_fills}
use Rattle.promises.proofs.counts.has_filling_levels.Goals as goal

pub returns-clause-lent : goal.returns-clause-lent
returns-clause-lent g c = λ fills. fills_passing (λ v. v.now) (reader g.R.Stored g.R.Read) behind_did c.args.lent.now fills

pub returns-clause-boxed : goal.returns-clause-boxed
returns-clause-boxed g c = λ fills. fills_passing (λ b. b.value) (reader g.R.Stored g.R.Read) (λ a b call did. did) c.args.boxed.now fills

pub returns-clause-limited : goal.returns-clause-limited
returns-clause-limited g c = λ fills. limit_fills c.args.limited.now fills

pub returns-clause-counted : goal.returns-clause-counted
returns-clause-counted g c = λ fills. tally_fills c.args.counted.now fills

-- The prover does not name the lemma.
use Rattle.no_std_io2.proofs.ReadsLemmas.{held_next}
use Rattle.promises.proofs.reads.holds_what_comes_next.Goals as goal

pub returns : goal.returns
returns g c = held_next c.fill_buf.result c.fill_buf.ensures.law

pub returns-in_err-lent : goal.returns-in_err-lent
returns-in_err-lent g c = held_next c.fill_buf.result c.fill_buf.ensures.law

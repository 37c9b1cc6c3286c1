-- The calls of the buffer add what is held no more.
use Rattle.no_std_io2.proofs.{CallsLemmas.{law_may}, BufWriterLemmas.{flush_adds}}
use Rattle.examples.proofs.SumLemmas.{sums_join}
use Rattle.examples.proofs.summed.flush_summed.Goals as goal

pub returns : goal.returns
returns g c = flush_adds sums_join (law_may _) c.flush.ensures.law.call

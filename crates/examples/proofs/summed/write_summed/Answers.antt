-- The calls of the trait's loop add what they accepted.
use Rattle.no_std_io2.proofs.{CallsLemmas.{law_may}, CallsAdd.{writes_add}}
use Rattle.examples.proofs.SumLemmas.{sums_join}
use Rattle.examples.proofs.summed.write_summed.Goals as goal

pub returns : goal.returns
returns g c =
    let made = c.write_rest.ensures.law.calls in
    writes_add sums_join (law_may _) made.are _ _ made.made

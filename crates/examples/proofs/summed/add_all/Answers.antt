-- The sum of the bytes up to an index needs a lemma about sums.
use Rattle.no_std_io2.proofs.Words.{common_steps, arith}
use Rattle.std.proofs.{Common.{take_all}, lemmas.List.Sums.{sum_by_more}}
use Rattle.examples.proofs.summed.add_all.Goals as goal

pub bytes-preserved : goal.bytes-preserved
bytes-preserved c = grind (arith, common_steps, sum_by_more)

pub returns : goal.returns
returns c = grind (arith, common_steps, take_all)

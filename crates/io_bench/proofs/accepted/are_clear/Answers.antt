-- The prover does not find what holds of the calls before the one that is tested.
use Rattle.no_std_io2.proofs.Words.{common_steps, arith, sym}
use Rattle.std.proofs.lemmas.Slice.Zip.{AllZip-long}
use Rattle.io_bench.proofs.RunLemmas.{AllZip-more, one_more, all_through, clear_at}
use Rattle.io_bench.proofs.accepted.are_clear.Goals as goal

pub returns-then-ops-replies-clause-no : goal.returns-then-ops-replies-clause-no
returns-then-ops-replies-clause-no c e clear = absurd (c.if-ops-replies.true (sym (AllZip-long _ _ _ clear)))

pub calls-preserved : goal.calls-preserved
calls-preserved c = grind (arith, common_steps, AllZip-more, one_more)

pub returns-in_default-clause-no : goal.returns-in_default-clause-no
returns-in_default-clause-no c e clear = grind (arith, common_steps, clear_at)

pub returns-clause-yes : goal.returns-clause-yes
returns-clause-yes c e = grind (arith, common_steps, all_through)

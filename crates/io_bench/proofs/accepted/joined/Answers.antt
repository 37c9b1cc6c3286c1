-- The prover does not find that the bytes of one more call follow those of the others.
use Rattle.no_std_io2.proofs.Words.{common_steps, arith, err_from_is_err_and}
use Rattle.std.proofs.lemmas.Slice.Zip.{AllZip-long}
use Rattle.io_bench.proofs.RunLemmas.{JoinsEach-more, one_more, all_through, clear_at, unclear, run_once, some_accepted}
use Rattle.io_bench.proofs.accepted.joined.Goals.{in_default}
use Rattle.io_bench.proofs.accepted.joined.Goals as goal

pub bounds-replies-i : goal.bounds-replies-i
bounds-replies-i c = omega (arith, c.calls-test.true, AllZip-long _ _ _ (c.are_clear.ensures.yes c.if-not-are_clear.false))

pub calls-preserved : goal.calls-preserved
calls-preserved c = grind (arith, common_steps, AllZip-long, JoinsEach-more, clear_at, in_default, one_more)

pub returns-clause-known : goal.returns-clause-known
returns-clause-known c = grind (arith, common_steps, AllZip-long, all_through, run_once)

pub returns-then-not-are_clear-clause-no_one : goal.returns-then-not-are_clear-clause-no_one
returns-then-not-are_clear-clause-no_one c e bytes j = unclear _ _ bytes j (c.are_clear.ensures.no c.if-not-are_clear.true)

pub returns-in_err-extend_from_slice-clause-err : goal.returns-in_err-extend_from_slice-clause-err
returns-in_err-extend_from_slice-clause-err c = grind (arith, common_steps, err_from_is_err_and, some_accepted)

-- The prover does not join the calls of two loops.
use Rattle.std.proofs.{Common.{arith}, lemmas.Grind.{common_steps}}
use Rattle.no_std_io2.proofs.CallsLemmas.{by_then}
use Rattle.promises.proofs.CallsEnd.{ends_after_both, writes_end}
use Rattle.promises.proofs.bytes.continues_with_the_rest.Goals as goal

pub returns-clause-calls : goal.returns-clause-calls
returns-clause-calls g c = grind (arith, common_steps, by_then, ends_after_both, writes_end)

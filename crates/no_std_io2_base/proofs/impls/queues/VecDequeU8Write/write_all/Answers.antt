-- The law: the search does not find which bytes an error left out.
use Rattle.std.proofs.{lemmas.Grind.{common_steps}, Common.{arith}}
use Rattle.no_std_io2_base.proofs.{CallsLemmas.{own_law}, CursorLemmas.{appends_all}}
use Rattle.no_std_io2_base.proofs.impls.queues.VecDequeU8Write.write_all.Goals as goal

pub returns-clause-law : goal.returns-clause-law
returns-clause-law g c = grind (arith, common_steps, appends_all, own_law)

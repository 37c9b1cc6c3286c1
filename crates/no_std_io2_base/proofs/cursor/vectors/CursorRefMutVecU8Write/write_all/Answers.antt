-- The law, from what the vector has: the search does not find the lemmas for it.
use Rattle.std.proofs.{lemmas.Grind.{common_steps}, Common.{arith}}
use Rattle.no_std_io2_base.proofs.{CallsLemmas.{own_law}, CursorLemmas.{puts_all}}
use Rattle.no_std_io2_base.proofs.cursor.vectors.CursorRefMutVecU8Write.write_all.Goals as goal

pub returns-clause-law : goal.returns-clause-law
returns-clause-law g c = grind (arith, common_steps, own_law, puts_all)

-- The law, from how many bytes fit: the search does not find the lemmas for it.
use Rattle.std.proofs.{lemmas.Grind.{common_steps}, Common.{arith}}
use Rattle.no_std_io2_base.proofs.{CallsLemmas.{own_law}, CursorLemmas.{fits_all}}
use Rattle.no_std_io2_base.proofs.cursor.slices.CursorRefMutSliceU8Write.write_all.Goals as goal

pub returns-clause-law : goal.returns-clause-law
returns-clause-law c = grind (arith, common_steps, fits_all, own_law)

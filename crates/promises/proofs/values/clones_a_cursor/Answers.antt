-- A clone of bytes is these bytes.
use Rattle.std.proofs.{Common.{arith}, lemmas.{Grind.{common_steps}, Result.{IfOk-weaker}, List.Elements.{same_from_all_zip}}}
use Rattle.promises.proofs.values.clones_a_cursor.Goals as goal

pub returns : goal.returns
returns g c = grind (arith, common_steps, IfOk-weaker, same_from_all_zip)

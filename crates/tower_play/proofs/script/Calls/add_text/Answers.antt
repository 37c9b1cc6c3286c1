-- The prover does not find which text is meant (`is_meant`), or that none is (`is_not_meant`).
use Rattle.std.proofs.lemmas.Grind.{common_steps}
use Rattle.no_std_io2.proofs.Words.{length-append, arith}
use Rattle.tower_play.proofs.{Escapes.{is_meant, is_not_meant}, script.Calls.add_text.Goals.{then-is_whole, else-is_whole}}
use Rattle.tower_play.proofs.script.Calls.add_text.Goals as goal

pub returns-then-not-unescape-clause-bad : goal.returns-then-not-unescape-clause-bad
returns-then-not-unescape-clause-bad c = grind (arith, common_steps, is_not_meant)

pub returns-clause-adds : goal.returns-clause-adds
returns-clause-adds c = grind (arith, common_steps, else-is_whole, is_meant, length-append, then-is_whole)

-- Where the tail ends in each of the four cases, by the definition of `held_tail`.
use Rattle.no_std_io2.proofs.{Words.{common_steps, arith, take, drop, refl}, LineWriterStates.{lines_rest}}
use Rattle.std.proofs.lemmas.List.{take_min}
use Rattle.no_std_io2_base.proofs.LineLemmas.{take_lines}
use Rattle.no_std_io2.proofs.buffered.line_writer.steps.tail_end.Goals as goal

pub returns-then-sent-len-clause-tail : goal.returns-then-sent-len-clause-tail
returns-then-sent-len-clause-tail g c = grind (arith, common_steps, take_min)

pub returns-then-len-sent-clause-tail : goal.returns-then-len-sent-clause-tail
returns-then-len-sent-clause-tail g c = grind (arith, common_steps, lines_rest)

pub returns-then-part-eq0-clause-tail : goal.returns-then-part-eq0-clause-tail
returns-then-part-eq0-clause-tail g c = grind (arith, common_steps)

pub returns-else-part-eq0-clause-tail : goal.returns-else-part-eq0-clause-tail
returns-else-part-eq0-clause-tail g c = grind (arith, common_steps, take_lines (take g.row.S (drop c.args.sent c.args.x.now)) refl)

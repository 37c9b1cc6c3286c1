-- The range of the held bytes starts later, by lemmas about ranges.
use Rattle.no_std_io2.proofs.{Words.{common_steps, arith, length-take}, BufferedReads.{range_rest, front_more}}
use Rattle.no_std_io2.proofs.buffered.buffer.Buffer.consume.Goals as goal

pub returns-clause-held : goal.returns-clause-held
returns-clause-held g c = grind (arith, common_steps, length-take, range_rest)

pub returns-clause-behind : goal.returns-clause-behind
returns-clause-behind g c = grind (arith, common_steps, front_more, length-take)

-- The range of the held bytes ends later, by a lemma about ranges.
use Rattle.no_std_io2.proofs.{Words.{common_steps, arith}, BufferedReads.{range_more}}
use Rattle.no_std_io2.proofs.buffered.buffer.Buffer.append.Goals as goal

pub returns-clause-held : goal.returns-clause-held
returns-clause-held g c = grind (arith, common_steps, range_more)

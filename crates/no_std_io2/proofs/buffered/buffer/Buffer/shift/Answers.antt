-- Where the offset, a number of 64 bits, cuts the buffer.
use Rattle.no_std_io2.proofs.{Words.{common_steps, to_z-of_z, arith, length-take-le, length-drop}, BufferedReads.{cut_on}}
use Rattle.no_std_io2.proofs.buffered.buffer.Buffer.shift.Goals as goal

pub returns-in-Some-clause-within : goal.returns-in-Some-clause-within
returns-in-Some-clause-within g c = grind (arith, common_steps, to_z-of_z, length-take-le, length-drop, cut_on)

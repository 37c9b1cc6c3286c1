-- A later start drops the first characters.
use Rattle.no_std_io2.proofs.{Words.{common_steps, arith, length-take}, BufferedReads.{range_rest}}
use Rattle.base64_stream.proofs.text.Text.consume.Goals as goal

pub returns : goal.returns
returns c = grind (arith, common_steps, length-take, range_rest)

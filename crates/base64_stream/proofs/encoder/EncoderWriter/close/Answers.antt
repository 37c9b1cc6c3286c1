-- Whether there is a last group decides what was put; the search does not split into these cases.
use Rattle.no_std_io2.proofs.Words.{common_steps, arith}
use Rattle.base64_stream.proofs.EncoderLemmas.{last_put, last_kept}
use Rattle.base64_stream.proofs.encoder.EncoderWriter.close.Goals as goal

pub returns-clause-put : goal.returns-clause-put
returns-clause-put g c = grind (arith, common_steps, last_put)

pub returns-clause-err : goal.returns-clause-err
returns-clause-err g c = grind (arith, common_steps, last_kept)

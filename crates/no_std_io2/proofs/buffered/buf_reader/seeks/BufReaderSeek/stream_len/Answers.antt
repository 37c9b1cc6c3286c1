-- The inner reader is measured, and nothing else changes.
use Rattle.no_std_io2.proofs.{Words.{arith, common_steps}, BufReaderSeeks.{measures}}
use Rattle.no_std_io2_base.proofs.TakesLemmas.{seeker}
use Rattle.no_std_io2.proofs.buffered.buf_reader.seeks.BufReaderSeek.stream_len.Goals as goal

pub returns : goal.returns
returns g c = grind (arith, common_steps, measures, seeker)

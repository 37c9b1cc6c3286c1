-- `read_full` ends with its reader's turns.
use Rattle.no_std_io2_base.proofs.{ReadLoops.{FullSoFar}, TakesLemmas.{reader}}
use Rattle.no_std_io2.{specs.inner.BufReader.{reader_turns}, proofs.BufferedReads.{buf_reader}}
use Rattle.no_std_io2.proofs.buffered.buf_reader.reads.BufReaderRead.read_full.Given as goal

abbrev pub invariant-reads : goal.invariant-reads
invariant-reads g l =
    FullSoFar (buf_reader (reader g.R.Stored g.R.Read)) l.initial.self l.initial.buf l.initial.filled l.filled l.buf l.self

abbrev pub decreases-reads : goal.decreases-reads
decreases-reads g l = reader_turns g.R.Read.turns l.self

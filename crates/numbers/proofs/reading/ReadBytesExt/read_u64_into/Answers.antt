-- One number more; the search does not add it.
use Rattle.no_std_io2.proofs.Words.{arith}
use Rattle.numbers.proofs.NumberLemmas.{into_more}
use Rattle.numbers.proofs.reading.ReadBytesExt.read_u64_into.Goals as goal

pub numbers-preserved : goal.numbers-preserved
numbers-preserved g c =
    into_more c.args.dst.now c.numbers.dst c.numbers.i c.in_ok-dst.field-0 (omega arith) c.numbers.invariant c.in_ok-dst.ensures.reads

-- One signed number more; the search does not add it.
use Rattle.no_std_io2.proofs.Words.{arith, rules}
use Rattle.std.specs.Int.{w16}
use Rattle.numbers.proofs.NumberLemmas.{into_signed}
use Rattle.numbers.proofs.reading.ReadBytesExt.read_i16_into.Goals as goal

pub numbers-preserved : goal.numbers-preserved
numbers-preserved g c =
    into_signed w16 c.args.dst.now c.numbers.dst c.numbers.i c.in_ok-dst.field-0 (search rules) (omega arith) c.numbers.invariant
    c.in_ok-dst.ensures.reads

-- The numbers so far.
use Rattle.no_std_io2.proofs.TakesLemmas.{reader}
use Rattle.std.specs.Int.{w8, cast_signed}
use Rattle.numbers.{specs.Numbers.{first_byte}, proofs.NumberLemmas.{ReadSoFar}}
use Rattle.numbers.proofs.reading.ReadBytesExt.read_i8_into.Given as goal

abbrev pub invariant-numbers : goal.invariant-numbers
invariant-numbers g l =
    ReadSoFar (reader g.Self.Stored g.Self.Read) (λ bytes. cast_signed w8 (first_byte bytes)) 1 l.fn.self l.fn.dst l.i l.dst l.self

-- The numbers so far.
use Rattle.no_std_io2.proofs.TakesLemmas.{reader}
use Rattle.std.specs.Int.{w64}
use Rattle.numbers.{specs.Numbers.{signed_by}, proofs.NumberLemmas.{ReadSoFar}}
use Rattle.numbers.proofs.reading.ReadBytesExt.read_i64_into.Given as goal

abbrev pub invariant-numbers : goal.invariant-numbers
invariant-numbers g l =
    ReadSoFar (reader g.Self.Stored g.Self.Read) (signed_by w64 g.T.ByteOrder.number_of 8) 8 l.fn.self l.fn.dst l.i l.dst l.self

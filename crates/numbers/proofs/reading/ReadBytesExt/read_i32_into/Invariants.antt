-- The numbers so far.
use Rattle.no_std_io2.proofs.TakesLemmas.{reader}
use Rattle.std.specs.Int.{w32}
use Rattle.numbers.{specs.Numbers.{signed_by}, proofs.NumberLemmas.{ReadSoFar}}
use Rattle.numbers.proofs.reading.ReadBytesExt.read_i32_into.Given as goal

abbrev pub invariant-numbers : goal.invariant-numbers
invariant-numbers g l =
    ReadSoFar (reader g.Self.Stored g.Self.Read) (signed_by w32 g.T.ByteOrder.number_of 4) 4 l.fn.self l.fn.dst l.i l.dst l.self

-- The value of the last bytes.
use Rattle.no_std_io2.proofs.Words.{◌≡◌, ◌≤◌, length, drop}
use Rattle.numbers.specs.Varint.{varint_value}
use Rattle.numbers.proofs.varint.value_of.Given as goal

abbrev pub invariant-bytes : goal.invariant-bytes
invariant-bytes l = record { value : l.n ≡ varint_value (drop l.i l.bytes); within : l.i ≤ length l.bytes }

abbrev pub decreases-bytes : goal.decreases-bytes
decreases-bytes l = l.i

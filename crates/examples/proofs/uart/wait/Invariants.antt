-- No byte was put, the chip was not ready at the last look, if there was one, and so many looks are left.
use Rattle.no_std_io2.proofs.Words.{◌≡◌, ◌⊎◌, false}
use Rattle.examples.proofs.uart.wait.Given as goal

abbrev pub invariant-looks : goal.invariant-looks
invariant-looks g l = (g.R.Registers.sent l.registers ≡ g.R.Registers.sent l.initial.registers)
    × ((l.left ≡ l.looks) ⊎ (g.R.Registers.ready l.registers ≡ false))

abbrev pub decreases-looks : goal.decreases-looks
decreases-looks g l = l.left

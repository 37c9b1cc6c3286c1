-- The prover does not find that a number of so few digits fits (`decimal_fits`).
use Rattle.no_std_io2.proofs.Words.{arith}
use Rattle.examples.proofs.ArLemmas.{decimal_fits}
use Rattle.examples.proofs.ar.decimal.Goals as goal

pub overflow_mul-n : goal.overflow_mul-n
overflow_mul-n c =
    omega (arith, decimal_fits c.digits.n c.digits.byte-index c.digits.invariant.small (omega (arith, c.digits-test.true, c.requires)))

pub overflow_add-n : goal.overflow_add-n
overflow_add-n c =
    omega (arith, decimal_fits c.digits.n c.digits.byte-index c.digits.invariant.small (omega (arith, c.digits-test.true, c.requires)))

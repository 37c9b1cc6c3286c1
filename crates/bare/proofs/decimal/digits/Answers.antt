-- The last digit of a number that has more than one, and then its first: the search does not take these steps.
use Rattle.std.proofs.Common.{◌≡◌, ◌+◌, ◌-◌, ◌/◌, ◌%◌, ◌∙◌, length, arith, ap, append-nil, append_assoc, length-append, length-set, refl}
use Rattle.std.proofs.lemmas.{Fmt.{IsAscii-decimal, decimal_digit, decimal_step, length-decimal-le}, List.{drop-set}}
use Rattle.std.proofs.Math.ListN.{drop_of_length-le}
use Rattle.std.specs.Fmt.{decimal}
use Rattle.bare.proofs.decimal.digits.Goals as goal

pub digits-init : goal.digits-init
digits-init c =
    let fits = c.ranges.value.fits in
    let none = drop_of_length-le c.args.room.now {i = 20} (omega (arith, c.told-room)) in (
      length-decimal-le 20 c.args.value (omega arith) (omega (arith, fits)) fits,
      omega (arith, c.told-room),
      rw (none, append-nil) refl,
    )

pub overflow_sub-at : goal.overflow_sub-at
overflow_sub-at c =
    let l = c.digits in
    let long = ap length (decimal_step l.rest c.digits-test.true l.auto.rest-fits.fits) ∙ length-append (decimal (l.rest / 10)) _ in
    omega (arith, long, l.invariant.0)

pub bounds-room-at : goal.bounds-room-at
bounds-room-at c =
    let l = c.digits in
    let long = ap length (decimal_step l.rest c.digits-test.true l.auto.rest-fits.fits) ∙ length-append (decimal (l.rest / 10)) _ in
    omega (arith, long, l.invariant.0, l.invariant.1)

pub digits-preserved : goal.digits-preserved
digits-preserved c =
    let l = c.digits in
    let step = decimal_step l.rest c.digits-test.true l.auto.rest-fits.fits in
    let long = ap length step ∙ length-append (decimal (l.rest / 10)) _ in
    let set = drop-set l.room (l.at - 1) (48 + l.rest % 10) (omega (arith, long, l.invariant.0, l.invariant.1)) in
    let next : l.at - 1 + 1 ≡ l.at = omega (arith, long, l.invariant.0) in (
      omega (arith, long, l.invariant.0),
      omega (arith, long, l.invariant.1, length-set l.room (l.at - 1) (48 + l.rest % 10)),
      rw (set, next) (rw (step, append_assoc) at l.invariant.2),
    )

pub overflow_sub-room : goal.overflow_sub-room
overflow_sub-room c =
    let l = c.digits in
    omega (arith, ap length (decimal_digit l.rest (omega (arith, c.digits-test.false))), l.invariant.0)

pub bounds-room-at-2 : goal.bounds-room-at-2
bounds-room-at-2 c =
    let l = c.digits in
    omega (arith, ap length (decimal_digit l.rest (omega (arith, c.digits-test.false))), l.invariant.0, l.invariant.1)

pub overflow_sub-result : goal.overflow_sub-result
overflow_sub-result c =
    let l = c.digits in
    omega (arith, ap length (decimal_digit l.rest (omega (arith, c.digits-test.false))), l.invariant.0)

pub returns-clause-written : goal.returns-clause-written
returns-clause-written c =
    let l = c.digits in
    let one = decimal_digit l.rest (omega (arith, c.digits-test.false)) in
    let some = ap length one in
    let set = drop-set l.room (l.at - 1) (48 + l.rest) (omega (arith, some, l.invariant.0, l.invariant.1)) in
    let next : l.at - 1 + 1 ≡ l.at = omega (arith, some, l.invariant.0) in
    rw (set, next) (rw one at l.invariant.2)

pub returns-clause-ascii : goal.returns-clause-ascii
returns-clause-ascii c = IsAscii-decimal c.args.value c.ranges.value.fits

-- The prover does not find how an ask was answered by the law of its call.
use Rattle.no_std_io2.proofs.{Words.{◌≡◌, min, length, Ok, Err, ap, arith, refl, returned_err}, PieceLoops.{filled_law}}
use Rattle.io_bench.proofs.asks.ask_fill.Goals as goal

pub returns-in_err-lent : goal.returns-in_err-lent
returns-in_err-lent g c =
    let filled = filled_law c.in_err-lent.was c.fill_buf.ensures.law c.fill_buf.follows.holds-at-none in
    rw (returned_err c.from_residual.ensures) (Err c.in_err-lent.field-0.0, refl, (_, filled, refl))

pub returns : goal.returns
returns g c =
    let filled = filled_law c.in_ok-lent.was c.fill_buf.ensures.law c.fill_buf.follows.holds-at-none in
    let all : c.min.result ≡ min c.args.most (length c.in_ok-lent.field-0.now) = omega (arith, c.min.ensures) in
    let within = ap length filled.lends in
    (Ok c.in_ok-lent.field-0.now, refl, (_, filled, (_, (omega arith, rw all at c.consume.ensures.law), refl)))

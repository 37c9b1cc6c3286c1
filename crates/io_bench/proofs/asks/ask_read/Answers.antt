-- The prover does not find how an ask was answered by the law of its call.
use Rattle.no_std_io2.proofs.Words.{common_steps, ◌≡◌, nat_eq, length, take, Ok, arith, ap, length-take-le, nat_tests, err_from_is_err_and}
use Rattle.no_std_io2.proofs.{Words.{reader_held}, TakesLemmas.{read_law}}
use Rattle.std.proofs.Common.{◌&&◌}
use Rattle.io_bench.proofs.asks.ask_read.Goals.{then-n-eq0, else-n-eq0}
use Rattle.io_bench.proofs.asks.ask_read.Goals as goal

pub returns-in_err-n : goal.returns-in_err-n
returns-in_err-n g c = grind (arith, common_steps, err_from_is_err_and, read_law)

pub returns : goal.returns
returns g c =
    let n = c.in_ok-n.n in
    let x = take n c.read.new.buf in
    let law = read_law (Ok n) c.in_ok-n.ensures.law in
    let long = length-take-le n c.read.new.buf c.in_ok-n.ensures.law.bound in
    let ends : c.if-n-eq0.result ≡ (nat_eq (length x) 0 && nat_eq (length (reader_held c.read.new.self)) 0) = elim c.if-n-eq0.branch [
      | then-n-eq0 w ↦ grind (arith, nat_tests, long, w.result-is, w.if-n-eq0, w.is_empty.ensures, ap length w.buffer.ensures.value)
      | else-n-eq0 w ↦ grind (arith, nat_tests, long, w.result-is, w.if-n-eq0)
    ] in
    (Ok x, ap Ok ends, rw c.read.auto.buf at law)

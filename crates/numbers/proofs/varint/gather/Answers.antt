-- The bytes so far, and one more; the search does not join them.
use Rattle.no_std_io2.proofs.Words.{arith, returned_err}
use Rattle.numbers.proofs.VarintLemmas.{gather_none, gather_more, gather_last, gather_fails, gather_ten, last_back, fails_back, ten_back}
use Rattle.numbers.proofs.varint.gather.Goals as goal

pub bytes-init : goal.bytes-init
bytes-init g c = gather_none c.args.bytes.now

pub bytes-preserved : goal.bytes-preserved
bytes-preserved g c =
    gather_more c.args.bytes.now c.bytes.bytes c.bytes.i (omega arith) c.bytes.invariant c.in_ok-b.b
    (omega (arith, c.if-b-lt128.false)) c.in_ok-b.ensures.reads c.in_ok-b.ensures.back

pub returns-then-b-lt128-clause-reads : goal.returns-then-b-lt128-clause-reads
returns-then-b-lt128-clause-reads g c =
    gather_last c.args.bytes.now c.bytes.bytes c.bytes.i (omega arith) c.bytes.invariant c.in_ok-b.b (omega (arith, c.if-b-lt128.true))
    (omega arith) c.in_ok-b.ensures.reads

pub returns-then-b-lt128-clause-back : goal.returns-then-b-lt128-clause-back
returns-then-b-lt128-clause-back g c =
    last_back c.args.bytes.now c.bytes.bytes c.bytes.i (omega arith) c.bytes.invariant c.in_ok-b.b c.read_u8.new.self
    (omega (arith, c.if-b-lt128.true)) c.in_ok-b.ensures.back

pub returns-in_err-b-clause-reads : goal.returns-in_err-b-clause-reads
returns-in_err-b-clause-reads g c =
    rw (returned_err c.from_residual.ensures)
    (gather_fails c.args.bytes.now c.bytes.bytes c.bytes.i (omega arith) c.bytes.invariant (omega arith)
    c.in_err-b.ensures.reads c.bytes.bytes)

pub returns-in_err-b-clause-back : goal.returns-in_err-b-clause-back
returns-in_err-b-clause-back g c =
    rw (returned_err c.from_residual.ensures) (fails_back c.args.bytes.now c.bytes.bytes c.bytes.i (omega arith) c.bytes.invariant _
    c.in_err-b.ensures.back c.bytes.bytes)

pub returns-clause-reads : goal.returns-clause-reads
returns-clause-reads g c = gather_ten c.args.bytes.now c.bytes.bytes c.bytes.i c.bytes.r (omega arith) (omega arith) c.bytes.invariant

pub returns-clause-back : goal.returns-clause-back
returns-clause-back g c = ten_back c.args.bytes.now c.bytes.bytes c.bytes.i c.bytes.r (omega arith) (omega arith) c.bytes.invariant

-- What was put so far, and one byte more; the search does not join them.
use Rattle.no_std_io2.proofs.Words.{◌≡◌, refl, subst, arith}
use Rattle.numbers.proofs.VarintLemmas.{PutSoFar, left_small, put_last, put_more, put_none}
use Rattle.numbers.proofs.varint.put_varint.Goals as goal

pub bytes-init : goal.bytes-init
bytes-init c = put_none c.args.n c.args.bytes.now (omega arith)

pub bytes-preserved : goal.bytes-preserved
bytes-preserved c =
    put_more c.args.n c.bytes.left c.bytes.i c.bytes.bytes (omega arith) c.bytes.invariant (omega (arith, c.if-left-lt128.false)) _ refl

pub returns-then-left-lt128-clause-spells : goal.returns-then-left-lt128-clause-spells
returns-then-left-lt128-clause-spells c =
    put_last c.args.n c.bytes.left c.bytes.i c.bytes.bytes (omega arith) c.bytes.invariant (omega (arith, c.if-left-lt128.true))

pub returns-clause-spells : goal.returns-clause-spells
returns-clause-spells c =
    let nine : c.bytes.i ≡ 9 = omega arith in
    let before = subst (λ k. PutSoFar c.args.n c.bytes.left k c.bytes.bytes) nine c.bytes.invariant in
    put_last c.args.n c.bytes.left 9 c.bytes.bytes (omega arith) before (left_small c.args.n c.bytes.left c.bytes.bytes before)

-- The last byte decides whether the bytes are a number; the search does not use how they were gathered.
use Rattle.no_std_io2.proofs.Words.{refl, arith}
use Rattle.numbers.proofs.VarintLemmas.{decode_high, decode_none, decode_some, decode_zero}
use Rattle.numbers.proofs.varint.decode.Goals as goal

pub returns-then-last-ge128-clause-none : goal.returns-then-last-ge128-clause-none
returns-then-last-ge128-clause-none c =
    decode_high c.args.bytes.now _ c.requires.gathered c.requires.some refl (omega (arith, c.if-last-ge128.true))

pub returns-then-bytes-gt1-clause-none : goal.returns-then-bytes-gt1-clause-none
returns-then-bytes-gt1-clause-none c =
    decode_zero c.args.bytes.now _ c.requires.gathered c.requires.some refl (omega arith) (omega arith)

pub returns-clause-some : goal.returns-clause-some
returns-clause-some c =
    decode_some c.args.bytes.now _ c.requires.gathered c.requires.some refl (omega arith) (λ zero more. omega (arith, zero, more))
    c.value_of.result c.value_of.ensures.some

pub returns-clause-none : goal.returns-clause-none
returns-clause-none c =
    decode_none c.args.bytes.now _ c.requires.gathered c.requires.some refl (omega arith) c.value_of.result c.value_of.ensures.none

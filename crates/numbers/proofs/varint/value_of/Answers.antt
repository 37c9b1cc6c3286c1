-- The value of the last bytes, and of one more; the search does not join them.
use Rattle.no_std_io2.proofs.Words.{◌≡◌, ◌+◌, ◌-◌, ◌∙◌, drop, sym, ap, arith, length}
use Rattle.std.proofs.lemmas.List.{drop_all}
use Rattle.numbers.{specs.Varint.{varint_value}, proofs.VarintLemmas.{value_more, value_past}}
use Rattle.numbers.proofs.varint.value_of.Goals as goal

pub bytes-init : goal.bytes-init
bytes-init c = record {
  value = sym
      (ap varint_value (drop_all (length c.args.bytes.now) c.args.bytes.now (omega arith)));
  within = omega arith;
}

pub bytes-preserved : goal.bytes-preserved
bytes-preserved c =
    let l = c.args.bytes.now in
    let i = c.bytes.i in
    let next : i - 1 + 1 ≡ i = omega arith in
    let more = value_more l (i - 1) (omega (arith, c.bytes.invariant.within)) in
    record {
      value = omega (arith, more, c.bytes.invariant.value, ap (λ k. varint_value (drop k l)) next);
      within = omega (arith, c.bytes.invariant.within);
    }

pub returns-then-n-ge144115188075855872-clause-none : goal.returns-then-n-ge144115188075855872-clause-none
returns-then-n-ge144115188075855872-clause-none c =
    value_past c.args.bytes.now c.bytes.i (omega arith) c.bytes.invariant.within (omega (arith, c.bytes.invariant.value))

pub returns-clause-some : goal.returns-clause-some
returns-clause-some c =
    let zero : c.bytes.i ≡ 0 = omega arith in
    c.bytes.invariant.value ∙ ap (λ k. varint_value (drop k c.args.bytes.now)) zero

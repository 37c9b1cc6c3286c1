-- The law, by the lemmas of calls that fill a buffer from memory.
use Rattle.std.proofs.Common.{◌≡◌, ◌+◌, ◌++◌, arith, rules, length, take, drop, ap, ◌∙◌, refl, append-nil, drop_of_length-le}
use Rattle.no_std_io2_base.{specs.inner.Cursor.{cursor_left}, proofs.CursorLemmas.{left_after, takes_at, told_at}}
use Rattle.no_std_io2_base.proofs.{TakesLemmas.{takes_none}, InMemoryReads.{split_at, exact_part, exact_short}}
use Rattle.no_std_io2_base.proofs.cursor.reading.CursorRead.read_exact.Goals as goal

pub returns-then-left-buf-clause-law : goal.returns-then-left-buf-clause-law
returns-then-left-buf-clause-law g c =
    let here = c.args.self.now in
    exact_short {left = cursor_left g.T.AsSlice.slice} (λ old new call given. given)
    (record { split = refl; takes = takes_none _; told = told_at (g.T.AsSlice.slice here.inner) here.pos })
    (omega (arith, ap length c.left-left.ensures.left)) (search rules) (λ none. omega (arith, none))

pub returns-clause-law : goal.returns-clause-law
returns-clause-law g c =
    let n = c.copy_prefix-n.result in
    let buf = c.copy_prefix-n.new.to in
    let here = c.args.self.now in
    let content = g.T.AsSlice.slice here.inner in
    let left = c.left-left.result.now in
    let front : buf ≡ take n left =
    c.copy_prefix-n.ensures.copied ∙ ap (λ l. take n left ++ l) (drop_of_length-le c.args.buf.now {i = n} (omega arith))
    ∙ append-nil (take n left) in
    let long : n ≡ length buf = omega (arith, c.copy_prefix-n.ensures.count, c.copy_prefix-n.auto.to) in
    let split = split_at n (drop here.pos content) (front ∙ ap (take n) c.left-left.ensures.left) (left_after content here.pos n) in
    exact_part {left = cursor_left g.T.AsSlice.slice} (λ old new call given. given) (record {
      split = split;
      takes = takes_at content here.pos (here.pos + n) buf split (omega (arith, long));
      told = told_at content (here.pos + n);
    })
    (λ none.
    let same : here.pos + n ≡ here.pos = omega (arith, none, c.copy_prefix-n.ensures.count) in ap (λ p. record here { pos = p }) same)

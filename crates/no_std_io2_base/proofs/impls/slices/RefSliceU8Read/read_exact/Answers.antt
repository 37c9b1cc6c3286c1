-- The law, by the lemmas of calls that fill a buffer from memory.
use Rattle.std.proofs.Common.{◌≡◌, [], rules, arith, take, refl, ap, ◌∙◌, append-nil, drop_of_length-le, ◌++◌}
use Rattle.std.proofs.{lemmas.Grind.{common_steps}, lemmas.List.{take_rest, get_or_read}}
use Rattle.no_std_io2_base.proofs.InMemoryReads.{split_at, takes_left, exact_part, exact_short}
use Rattle.no_std_io2_base.proofs.impls.slices.RefSliceU8Read.read_exact.Goals as goal

pub returns-then-all-buf-clause-law : goal.returns-then-all-buf-clause-law
returns-then-all-buf-clause-law c =
    let all = c.args.self.now.now in
    exact_short (λ old new call given. given) (record { split = refl; takes = takes_left all [] all refl; told = refl })
    c.if-all-buf.true (search rules) (λ none. omega (arith, none, c.if-all-buf.true))

pub returns-clause-law : goal.returns-clause-law
returns-clause-law c =
    let all = c.args.self.now.now in
    let n = c.copy_prefix-n.result in
    let buf = c.copy_prefix-n.new.to in
    let front : buf ≡ take n all =
    c.copy_prefix-n.ensures.copied ∙ ap (λ l. take n all ++ l) (drop_of_length-le c.args.buf.now {i = n} (omega arith))
    ∙ append-nil (take n all) in
    let split = split_at n all front (take_rest all n) in
    exact_part (λ old new call given. given) (record { split = split; takes = takes_left all buf _ split; told = refl })
    (λ none. first_of (search (rules, get_or_read), grind (arith, common_steps)))

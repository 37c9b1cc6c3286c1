-- The prover does not split an option into its cases: whether a word was there.
use Rattle.std.proofs.Common.{◌≡◌, ℕ, ◌<◌, true, List, ◌++◌, length, drop, Option, Some, None, sym, ap, ◌∙◌, arith}
use Rattle.std.{proofs.lemmas.{List.{nil_from_length}, Grind.{common_steps}}, specs.{Prelude.{is_some}, Option.{option_to_list}}}
use Rattle.std.specs.Vec.Iter.{into_iter_items, into_iter_len}
use Rattle.cli.proofs.program.named.Goals as goal

-- what is left behind the first word
behind : {X : Type 0} (r : Option X) (old new : List X) (n : ℕ) → length old ≡ n → (0 < n → is_some r ≡ true)
    → old ≡ option_to_list r ++ new → drop 1 old ≡ new
behind (Some x) old new n len more is = ap (drop 1) is
behind None old new n len more is = grind (arith, common_steps, more, nil_from_length)

pub words-init : goal.words-init
words-init c = let program = c.next-program.ensures in
    behind c.next-program.result (into_iter_items c.args.words) (into_iter_items c.next-program.new.self) (into_iter_len c.args.words)
    (sym c.args.words.rest.ok.0) program.variant.1 program.items
    ∙ sym (ap (λ l. l ++ into_iter_items c.next-program.new.self) c.new-names.ensures.items)

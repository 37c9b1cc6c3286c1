-- The prover does not find that a list with no more items has the words that were taken.
use Rattle.no_std_io2.proofs.Words.{◌≡◌, ℕ, zero, suc, ◌<◌, true, false, Bool, List, [], ◌∷◌, ◌++◌, length, Option, Some, None, refl, sym}
use Rattle.no_std_io2.proofs.Words.{ap, ◌∙◌, arith, is_some}
use Rattle.std.specs.{Option.{option_to_list}, Vec.Iter.{into_iter_items, into_iter_len}}
use Rattle.iotower.proofs.two_words.Goals as goal

-- if there is no more word, nothing is left
no_more : (n : ℕ) (b : Bool) → (0 < n → b ≡ true) → b ≡ false → n ≡ 0
no_more zero b more not_some = refl
no_more (suc n) b more not_some = absurd (cc (more (omega arith), not_some))

-- a list of no length is empty
no_items : {X : Type 0} (xs : List X) → length xs ≡ 0 → xs ≡ []
no_items [] is = refl
no_items (x ∷ xs) is = absurd (omega (arith, is))

-- a word that is there
a_word : {X : Type 0} (r : Option X) → is_some r ≡ true → (x : X) × (option_to_list r ≡ x ∷ [])
a_word (Some x) is = (x, refl)
a_word None is = absurd (cc is)

pub returns : goal.returns
returns c =
    let left = c.next-2.new.self in
    let none : into_iter_len left ≡ 0 =
    no_more (into_iter_len left) (is_some c.next-3.result) c.next-3.ensures.variant.1 (sym c.is_some.ensures ∙ c.if-is_some.false) in
    let empty : into_iter_items left ≡ [] = no_items (into_iter_items left) (sym left.rest.ok.0 ∙ none) in
    let program = c.next-program.ensures in
    let first = a_word c.next-program.result (program.variant.1 (omega (arith, program.len, c.in_ok-verb.ensures.len))) in
    let modes : into_iter_items c.next.new.self ≡ c.in_ok-mode.mode ∷ [] =
    c.in_ok-mode.ensures.items ∙ ap (λ l. c.in_ok-mode.mode ∷ l) empty in
    let verbs = c.in_ok-verb.ensures.items ∙ ap (λ l. c.in_ok-verb.verb ∷ l) modes in
    record {
      two = (first.0, program.items ∙ ap (λ l. l ++ into_iter_items c.next-program.new.self) first.1 ∙ ap (λ l. first.0 ∷ l) verbs);
      none = tt;
    }

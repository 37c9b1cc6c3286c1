-- There are no more words than the program's name and the name of a member.
use Rattle.no_std_io2.proofs.Words.{◌≡◌, true, [], ◌∷◌, ◌++◌, Option, Some, None, refl, sym}
use Rattle.no_std_io2.proofs.Words.{ap, ◌∙◌, arith, common_steps, is_some, nil_from_length}
use Rattle.std.specs.{Option.{option_to_list}, Vec.Iter.{into_iter_items, into_iter_len}}
use Rattle.tar_list.proofs.command_of.Goals as goal

-- a word that is there
a_word : {X : Type 0} (r : Option X) → is_some r ≡ true → (x : X) × (option_to_list r ≡ x ∷ [])
a_word (Some x) is = (x, refl)
a_word None is = absurd (cc is)

pub returns-clause-some : goal.returns-clause-some
returns-clause-some c =
    let left = c.next.new.self in
    let none : into_iter_len left ≡ 0 = grind (arith, common_steps, c.next-2.ensures.variant.1, c.is_some.ensures, c.if-is_some.false) in
    let empty : into_iter_items left ≡ [] = nil_from_length (into_iter_items left) (sym left.rest.ok.0 ∙ none) in
    let program = c.next-program.ensures in
    let first = a_word c.next-program.result (program.variant.1 (omega (arith, program.len, c.in-Some.ensures.len))) in
    let names : into_iter_items c.next-program.new.self ≡ c.in-Some.name ∷ [] =
    c.in-Some.ensures.items ∙ ap (λ l. c.in-Some.name ∷ l) empty in
    (first.0, program.items ∙ ap (λ l. l ++ into_iter_items c.next-program.new.self) first.1 ∙ ap (λ l. first.0 ∷ l) names)

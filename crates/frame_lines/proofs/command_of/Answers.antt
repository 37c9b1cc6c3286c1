-- The prover does not split an option into its cases: whether a word was there.
use Rattle.no_std_io2.proofs.Words.{◌≡◌, true, [], ◌∷◌, ◌++◌, Option, Some, None, refl, ap, ◌∙◌, arith, is_some}
use Rattle.std.specs.{Option.{option_to_list}, Vec.Iter.{into_iter_items}}
use Rattle.frame_lines.proofs.command_of.Goals as goal

-- a word that is there
word_there : {X : Type 0} (r : Option X) → is_some r ≡ true → (x : X) × (option_to_list r ≡ x ∷ [])
word_there (Some x) is = (x, refl)
word_there None is = absurd (cc is)

pub returns-in-Some : goal.returns-in-Some
returns-in-Some c =
    let program = c.next-program.ensures in
    let first = word_there c.next-program.result (program.variant.1 (omega (arith, program.len, c.in-Some.ensures.len))) in (
      first.0,
      _,
      program.items ∙ ap (λ l. l ++ into_iter_items c.next-program.new.self) first.1
          ∙ ap (λ l. first.0 ∷ l) c.in-Some.ensures.items,
    )

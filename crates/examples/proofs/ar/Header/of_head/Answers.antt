-- The prover does not find that a test which does not tell two texts apart finds them the same.
use Rattle.no_std_io2.proofs.Words.{◌≡◌, Bool, true, false, refl, sym, ◌∙◌, rules, same_text}
use Rattle.std.proofs.Common.{not}
use Rattle.examples.proofs.ar.Header.of_head.Goals as goal

-- a test that does not tell two texts apart finds them the same
not_other : (b : Bool) → false ≡ not b → true ≡ b
not_other true e = refl
not_other false e = sym e

pub returns-clause-said : goal.returns-clause-said
returns-clause-said c = record {
  name = search rules;
  size = sym c.decimal.ensures ∙ c.in-Some.is;
  end = same_text _ _ (not_other _ c.if-ne.ensures) ∙ c.as_slice.ensures;
}

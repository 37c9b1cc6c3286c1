-- What was printed so far is behind a `∥ ∥₁`, into which the search does not go.
use Rattle.std.proofs.{lemmas.Grind.{common_steps}, Common.{arith, refl}, Math.Logic.{∥∥₁_map}}
use Rattle.no_std_io2_base.proofs.TextLemmas.{prints_next, prints_after}
use Rattle.no_std_io2_base.proofs.traits.text.AdapterWrite.write_str.Goals as goal

pub returns-then-is_ok : goal.returns-then-is_ok
returns-then-is_ok g c = record {
  ok = λ u old text so_far. (
    so_far.0,
    prints_next _ c.is_ok.ensures.value c.if-is_ok.true c.write_all-self.ensures.law c.as_bytes.ensures.value so_far.1,
  );
  piece = grind (arith, common_steps);
  silent = grind (arith, common_steps);
  never_fails = refl;
}

pub returns-else-is_ok : goal.returns-else-is_ok
returns-else-is_ok g c = grind (arith, common_steps, prints_after, common_steps)

pub invariant_of-self : goal.invariant_of-self
invariant_of-self g c = record {
  prints = ∥∥₁_map c.args.self.now.prints (λ p. (
    p.0,
    _,
    (p.2.0, prints_next _ c.is_ok.ensures.value c.if-is_ok.true c.write_all-self.ensures.law c.as_bytes.ensures.value p.2.1),
  ));
}

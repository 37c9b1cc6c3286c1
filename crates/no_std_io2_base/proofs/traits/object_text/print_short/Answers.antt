-- The prover does not find the value of the object after the call, nor the text that the page has (`page_has`). One `write_all` got it.
use Rattle.std.proofs.{Common.{refl, inl, inr, arith, replicate}, lemmas.Grind.{common_steps}}
use Rattle.no_std_io2_base.specs.inner.Text.{HasText}
use Rattle.no_std_io2_base.proofs.TextLemmas.{when_ok, page_none, page_has, page_over, page_text, short_prints}
use Rattle.no_std_io2_base.proofs.traits.object_text.print_short.Goals as goal

pub returns-then-is_err : goal.returns-then-is_err
returns-then-is_err g c =
    let refused = inr (c.other.ensures.kind, c.other.ensures.text) in
    record { prints = inr (refused, refl); calls = (c.args.w.now.1, refl, inr (refused, refl)) }

pub returns-then-page : goal.returns-then-page
returns-then-page g c =
    let written = when_ok c.write.result c.if-is_err.ensures.value c.write.ensures.writes in
    let has = page_has (λ text p. HasText g.row.N p.bytes.now p.len p.is_over text) _ c.write.new.self _ written
    (page_none g.row.N (replicate g.row.N 0)) in
    let refused = inl (c.failed_to_write.ensures, page_over g.row.N _ _ _ c.if-page.true has) in
    record { prints = inr (refused, refl); calls = (c.args.w.now.1, refl, inr (refused, refl)) }

pub returns : goal.returns
returns g c =
    let written = when_ok c.write.result c.if-is_err.ensures.value c.write.ensures.writes in
    let has = page_has (λ text p. HasText g.row.N p.bytes.now p.len p.is_over text) _ c.write.new.self _ written
    (page_none g.row.N (replicate g.row.N 0)) in
    let is = page_text g.row.N _ _ _ c.if-page.false refl has in
    record {
      prints = short_prints g.row.N c.write_all.result (record {
        text = _;
        short = grind (arith, common_steps);
        is = is;
        moves = c.write_all.ensures.moves;
      });
      calls = (c.write_all.new.self, refl, inl (_, grind (arith, common_steps), is, c.write_all.ensures));
    }

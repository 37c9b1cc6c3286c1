-- The last byte decides between the two cases of the step: the search does not choose one.
use Rattle.no_std_io2.proofs.Words.{arith, common_steps, ap, sym, refl, ◌∙◌, inl, [], newline}
use Rattle.std.specs.Io.BufRead.{ends_with_byte}
use Rattle.no_std_io2_base.proofs.{CallsLemmas.{by_are}, PieceLemmas.{ends_with_byte-contains}, LineLemmas.{unended_lacks}}
use Rattle.no_std_io2.proofs.buffered.line_writer.steps.send_line.Goals as goal

pub returns-then-ends_in_newline : goal.returns-then-ends_in_newline
returns-then-ends_in_newline g c = grind (arith, common_steps, newline, by_are, ends_with_byte-contains)

pub returns : goal.returns
returns g c =
    let other = ap (ends_with_byte newline) (sym c.buffer.ensures.value) ∙ sym c.ends_in_newline.ensures ∙ c.if-ends_in_newline.false in
    record { calls = []; made = refl; are = inl (unended_lacks _ c.requires other, refl, refl, refl) }

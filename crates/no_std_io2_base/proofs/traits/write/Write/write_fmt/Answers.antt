-- What was printed is behind a `∥ ∥₁`, and the writer comes back under another name.
use Rattle.std.proofs.Common.{sym, subst}
use Rattle.no_std_io2_base.{specs.inner.Writers.{WriteFmtOf}, proofs.TextLemmas.{name_kept, law_shown}}
use Rattle.no_std_io2_base.proofs.traits.write.Write.write_fmt.Goals as goal

pub returns : goal.returns
returns g c =
    let W = g.Self.Write in
    let printed = c.print_to-inner.ensures.prints in
    let law = law_shown c.print_to-inner.result.formatted (g.bound-3.seen c.answer.result) printed
    (rw c.answer.ensures c.answer_of.ensures.ok) (rw c.answer.ensures c.answer_of.ensures.err) in
    record {
      law = subst (λ w. WriteFmtOf W c.args.self.now (g.D.Display.output c.args.text) (g.bound-3.seen c.answer.result) w)
          (sym (c.self-1.given.1 (sym (name_kept printed)))) law;
    }

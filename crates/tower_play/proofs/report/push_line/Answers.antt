-- The prover does not find the regrouping of four texts.
use Rattle.no_std_io2.proofs.Words.{◌++◌, ap, ◌∙◌, append_assoc}
use Rattle.std.proofs.Common.{codes}
use Rattle.tower_play.proofs.report.push_line.Goals as goal

pub returns : goal.returns
returns g c = record {
  ok = λ shown is.
      let old = c.args.text.now.items in
      let end = codes "\n" in
      let both =
      c.in_ok-push_shown.ensures.ok shown is ∙ ap (λ l. l ++ shown) c.in_ok-push.ensures.ok
      ∙ append_assoc old c.args.name.now shown in
      c.in_ok-push-2.ensures.ok ∙ ap (λ l. l ++ end) both ∙ append_assoc old (c.args.name.now ++ shown) end
      ∙ ap (λ l. old ++ l) (append_assoc c.args.name.now shown end);
}

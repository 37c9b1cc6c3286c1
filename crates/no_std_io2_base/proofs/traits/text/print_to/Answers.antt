-- What was printed is behind a `∥ ∥₁`, into which the search does not go.
use Rattle.std.proofs.Common.{[]}
use Rattle.no_std_io2_base.{specs.inner.{Text.{none_printed}, Writers.{PrintsOf}}, proofs.TextLemmas.{prints_through}}
use Rattle.no_std_io2_base.proofs.traits.text.print_to.Goals as goal

pub invariant_of-adapter : goal.invariant_of-adapter
invariant_of-adapter g c = record { prints = ∣ (c.args.lent.inner.now, [], (c.requires.began, none_printed)) ∣₁ }

pub returns : goal.returns
returns g c =
    let W = g.W.Write in
    record {
      prints = prints_through (λ old text s. g.K.Began.at old s.inner.ghost_name × PrintsOf W old text s.met s.inner.now) _ _
          c.write-formatted.ensures.writes (c.requires.began, none_printed) c.write-formatted.new.self.prints;
    }

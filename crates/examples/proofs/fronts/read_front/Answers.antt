-- The `Take` still holds the same reference, as the calls of a reference keep it, so the reader goes on where the `Take`
-- stopped. The search does not see that.
use Rattle.no_std_io2.proofs.{Words.{◌∙◌, ap, sym}, KnownBytes.{limit_known}, LimitLemmas.{limit_keeps}, Forwards.{calls_keep, keeps_name}}
use Rattle.no_std_io2.specs.inner.Take.{limit_inner}
use Rattle.std.proofs.Common.{MutBor}
use Rattle.examples.proofs.fronts.read_front.Goals as goal

pub returns : goal.returns
returns g c = record {
  back = λ front rest long told.
      let law = c.read_to_end.ensures.law in
      let kept = calls_keep _ (λ t. (limit_inner {T = MutBor g.row.R.Denot} t).ghost_name)
      (limit_keeps _ (λ r. r.ghost_name) keeps_name) law.calls in
      let same = c.r-1.given.1 (sym (kept ∙ ap (λ r. r.ghost_name) c.take-front.ensures.inner)) in
      rw same (limit_known _ c.read_to_end.result front rest law (c.take-front.ensures.limit ∙ long) (rw c.take-front.ensures.inner told));
}

-- At the limit, after an error and after a loan: the search does not find the lemmas that cut what comes at the limit.
use Rattle.std.proofs.{Common.{Err, arith, refl, sym, ap, ◌∙◌}, lemmas.Grind.{common_steps}, lemmas.Result.{err_from_is_err_and}}
use Rattle.no_std_io2_base.specs.{inner.Read.{lent_bytes}, inner.Take.{lent_within}}
use Rattle.no_std_io2_base.proofs.{ReadsLemmas.{begins_nothing}, ReadLoops.{some_bytes}, TakesLemmas.{takes_none}, PieceLoops.{filled_law}}
use Rattle.no_std_io2_base.proofs.LimitLemmas.{limit_takes, filled_inner, filled_took, some_within, cut_zero, none_at_limit, none_lent}
use Rattle.no_std_io2_base.proofs.LimitLemmas.{filled_at_limit, lends_within}
use Rattle.no_std_io2_base.proofs.traits.take.TakeBufRead.fill_buf.Goals as goal

pub returns-then-self-eq0 : goal.returns-then-self-eq0
returns-then-self-eq0 g c = grind (arith, common_steps, none_at_limit, takes_none, filled_at_limit, begins_nothing, cut_zero)

pub returns-in_err-available : goal.returns-in_err-available
returns-in_err-available g c =
    let p = err_from_is_err_and c.from_residual.result c.from_residual.ensures.1 in
    let limit = c.args.self.now.limit in
    let after = c.fill_buf.follows.holds-at-none in
    let call = filled_inner (lent_bytes c.fill_buf.result) (some_bytes _ c.if-self-eq0.false) refl refl
    (ap lent_bytes (p.1 ∙ ap Err p.2) ∙ sym (ap (λ r. lent_within limit (lent_bytes r)) c.in_err-available.was))
    (filled_law refl c.fill_buf.ensures.law after) in (
      (
        refl,
        λ _. tt,
        record {
          lends = rw (p.1) (none_lent limit (rw c.in_err-available.was at after.lends));
          takes = limit_takes _ (filled_took _ call);
          unchanged = λ some. ap (λ x. record c.args.self.now { inner = x }) (after.unchanged (some_within limit _ some));
          end = rw (p.1) (λ none. absurd (let no : ⊥ = cc in no));
          call = call;
        },
      ),
      record {
        law = rw (p.1) (record {
          held = λ some. absurd (c.in_err-available.ensures.law.held (some_within limit _ some));
          front = tt;
          end = tt;
        });
        at_limit = λ low. absurd (c.if-self-eq0.false low);
        after_borrow = tt;
      },
    )

pub returns : goal.returns
returns g c = grind (arith, common_steps, some_bytes, filled_law, lends_within)

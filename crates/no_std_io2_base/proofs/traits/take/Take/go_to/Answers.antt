-- A step of the loop, and its exits: the search does not follow the position through the conversion to an `i64`.
use Rattle.std.proofs.{Common.{◌≢◌, Ok, Err, arith, sym, ◌∙◌}, lemmas.Int.{to_z-of_z}, lemmas.Result.{err_from_is_err_and}}
use Rattle.std.specs.Int.{w64}
use Rattle.no_std_io2_base.specs.inner.Take.{limit_position, arrived, and_step, and_fault}
use Rattle.no_std_io2_base.proofs.traits.take.Take.go_to.Goals as goal

pub steps-preserved : goal.steps-preserved
steps-preserved g c =
    let elsewhere : limit_position c.steps.self ≢ c.args.at = λ is. c.steps-test.true (c.position.ensures.is ∙ is) in
    let one = c.step_towards-offset in
    let same = to_z-of_z w64 one.result.0 one.ensures.fits in
    let step = rw (c.position-in-steps.ensures.is, ← same) at one.ensures.step in (
      λ reply new rest. c.steps.invariant.0 reply new (and_step elsewhere step c.in_ok-step.ensures rest),
      omega (arith, c.steps.invariant.1, c.in_ok-step.ensures.len),
    )

pub returns-in_err-step : goal.returns-in_err-step
returns-in_err-step g c =
    let p = err_from_is_err_and c.from_residual.result c.from_residual.ensures.1 in
    let elsewhere : limit_position c.steps.self ≢ c.args.at = λ is. c.steps-test.true (c.position.ensures.is ∙ is) in
    let one = c.step_towards-offset in
    let same = to_z-of_z w64 one.result.0 one.ensures.fits in
    let step = rw (c.position-in-steps.ensures.is, ← same) at one.ensures.step in
    rw (p.1, p.2) (c.steps.invariant.0 (Err _) _ (and_fault elsewhere step c.in_err-step.ensures))

pub returns : goal.returns
returns g c = c.steps.invariant.0 (Ok c.args.at) c.steps.self (arrived (sym c.position.ensures.is ∙ c.steps-test.false))

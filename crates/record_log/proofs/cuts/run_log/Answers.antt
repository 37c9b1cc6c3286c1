-- The prover does not find what no call keeps, that one more call keeps the records, nor what these say of the content.
use Rattle.no_std_io2.proofs.Words.{[], arith, length-take, take, get_or, sym, ap₂, subst, ◌∙◌, common_steps}
use Rattle.std.proofs.lemmas.List.{take_more_set, take_more, take_all}
use Rattle.record_log.specs.{Cuts.{outcome, Survives}, Log.{log_inner}, declared.cuts.Step.TheVariants.{Append}}
use Rattle.record_log.proofs.CutLemmas.{Keeps, keeps_none, keeps_more, keeps_survives, outcome-more}
use Rattle.record_log.proofs.cuts.run_log.Goals as goal

pub steps-init : goal.steps-init
steps-init g c = record {
  one_each = omega arith;
  keeps = λ content place before tail puts at. keeps_none content place c.args.log.now at;
}

pub steps-preserved : goal.steps-preserved
steps-preserved g c =
    let i = c.steps.i in
    let steps = c.args.steps.now in
    let done = c.steps.done in
    let none = Append (record { ref_ptr = (0, 0); now = [] }) in
    let long = c.steps.invariant.one_each in record {
      one_each = grind (arith, common_steps);
      keeps = λ content place before tail puts at.
          let so_far = outcome ([], []) (take i steps) (take i done) in
          let more =
          ap₂ (λ s t. outcome ([], []) s t) (take_more steps i none c.steps-test.true)
          (take_more_set done i c.make_step.result (omega (arith, long, c.steps-test.true)))
          ∙ outcome-more ([], []) (take i steps) (take i done) (get_or steps i none) c.make_step.result
          (omega (arith, long, length-take i steps, length-take i done)) in
          subst (λ k. Keeps content place before tail k c.make_step.new.log) (sym more)
          (keeps_more content place g.W.Write puts so_far (get_or steps i none) c.make_step.result c.steps.log c.make_step.new.log
          (c.steps.invariant.keeps content place before tail puts at) c.make_step.ensures);
    }

pub returns : goal.returns
returns g c = record {
  survives = λ content place before tail puts at.
      let i = c.steps.i in
      let steps = c.args.steps.now in
      let done = c.steps.done in
      let all = c.steps-test.false in
      let both = ap₂ (λ s t. outcome ([], []) s t) (take_all i steps all)
      (take_all i done (omega (arith, c.steps.invariant.one_each, all))) in
      subst (λ k. Survives before tail k (content (log_inner c.steps.log))) both
      (keeps_survives content place _ _ (c.steps.invariant.keeps content place before tail puts at));
}

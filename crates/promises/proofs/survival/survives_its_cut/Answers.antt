-- The prover does not find that the device puts its bytes at its place, nor that nothing is behind its end.
use Rattle.no_std_io2.{proofs.{Words.{[], sym, subst}, CallsLemmas.{law_may}}, specs.Cursor.{cursor_position}}
use Rattle.std.specs.Vec.{vec_capacity}
use Rattle.record_log.{specs.Cuts.{HasConfirmed, outcome}, proofs.{CutLemmas.{survives_at_end}, DeviceLemmas.{vector_puts}}}
use Rattle.promises.{specs.Survival.{content_behind_acts, place_behind_acts}, proofs.FaultyPuts.{faulty_puts}}
use Rattle.promises.proofs.survival.survives_its_cut.Goals as goal

pub returns : goal.returns
returns g c = λ before at.
    let made = c.run_log.ensures.survives content_behind_acts place_behind_acts before []
    (λ old new call law. faulty_puts _ (λ v. v.inner.items) cursor_position
    (λ a b one did. vector_puts (λ v. v.items) vec_capacity a b one (law_may _ a b one did)) old new call
    (law_may _ old new call law)) at in
    subst (λ f. HasConfirmed before (outcome ([], []) c.args.steps.now c.run_log.new.done) (content_behind_acts f))
    (sym c.cut.ensures) (survives_at_end before _ _ made)

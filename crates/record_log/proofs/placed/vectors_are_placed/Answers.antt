-- The prover does not find what a call of such a cursor puts (`vector_puts`).
use Rattle.std.specs.Vec.{vec_capacity}
use Rattle.no_std_io2.proofs.CallsLemmas.{law_may}
use Rattle.record_log.proofs.DeviceLemmas.{vector_puts, vector_near}
use Rattle.record_log.proofs.placed.vectors_are_placed.Goals as goal

pub returns : goal.returns
returns g c = record {
  owned = λ old new call law. vector_puts (λ v. v.items) vec_capacity old new call (law_may _ old new call law);
  lent = λ old new call law. vector_puts (λ v. v.now.items) (λ v. vec_capacity v.now) old new call (law_may _ old new call law);
  owned_near = λ old new x e law. vector_near (λ v. v.items) vec_capacity old new x e law.0;
  lent_near = λ old new x e law. vector_near (λ v. v.now.items) (λ v. vec_capacity v.now) old new x e law.0;
}

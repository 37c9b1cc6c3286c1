-- The prover does not find what a call of such a cursor puts (`slice_puts`).
use Rattle.std.specs.Box.{boxed_slice_items}
use Rattle.no_std_io2.proofs.CallsLemmas.{law_may}
use Rattle.record_log.proofs.DeviceLemmas.{slice_puts, slice_near}
use Rattle.record_log.proofs.placed.slices_are_placed.Goals as goal

pub returns : goal.returns
returns g c = record {
  slice = λ old new call law. slice_puts (λ s. s.now) old new call (law_may _ old new call law);
  array = λ old new call law. slice_puts (λ s. s) old new call (law_may _ old new call law);
  boxed = λ old new call law. slice_puts boxed_slice_items old new call (law_may _ old new call law);
  slice_near = λ old new x e law. slice_near (λ s. s.now) old new x e law.0;
  array_near = λ old new x e law. slice_near (λ s. s) old new x e law.0;
  boxed_near = λ old new x e law. slice_near boxed_slice_items old new x e law.0;
}

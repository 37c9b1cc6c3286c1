-- The prover does not join the two facts of such a cursor.
use Rattle.std.specs.Vec.{vec_capacity}
use Rattle.no_std_io2.proofs.CallsLemmas.{law_may}
use Rattle.record_log.proofs.DeviceLemmas.{vector_puts, vector_near}
use Rattle.record_log.proofs.placed.lines_are_placed.Goals as goal

pub returns : goal.returns
returns g c = c.line_buffers_are_placed.ensures _ _
    (λ old new call law. vector_puts (λ v. v.items) vec_capacity old new call (law_may _ old new call law))
    (λ old new x e law. vector_near (λ v. v.items) vec_capacity old new x e law.0)

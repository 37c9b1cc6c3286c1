-- The prover does not find what a call through such a buffer puts (`line_puts`).
use Rattle.no_std_io2.proofs.CallsLemmas.{law_may}
use Rattle.record_log.proofs.BufferLemmas.{line_puts}
use Rattle.record_log.proofs.placed.line_buffers_are_placed.Goals as goal

pub returns : goal.returns
returns g c = λ content place puts near old new call law.
    let did = law_may _ old new call law in line_puts g.W.Write content place puts near g.row.S call _ _ _ _ _ did.are did.made

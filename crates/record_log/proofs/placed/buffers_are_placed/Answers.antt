-- The prover does not find what a call through a buffer puts (`buffer_puts`), nor how far it goes (`all_near`).
use Rattle.no_std_io2.proofs.{CallsLemmas.{law_may}, Words.{Err}}
use Rattle.record_log.proofs.BufferLemmas.{buffer_puts, all_near}
use Rattle.record_log.proofs.placed.buffers_are_placed.Goals as goal

pub returns : goal.returns
returns g c = record {
  puts = λ content place puts old new call law.
      let did = law_may _ old new call law in buffer_puts g.W.Write content place puts g.row.S call _ _ _ _ _ did.are did.made;
  near = λ content place puts near old new x e law.
      all_near g.W.Write content place puts near g.row.S x _ _ _ (Err e) _ _ law.0.are law.0.made;
}

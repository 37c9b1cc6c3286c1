-- The prover does not find that the law of a call says so, nor that it does not go past the bytes that it accepted.
use Rattle.no_std_io2.proofs.{CallsLemmas.{law_may}, Words.{arith, ap, length, length-append, length-take}}
use Rattle.record_log.specs.Disk.{disk_content, disk_place}
use Rattle.record_log.proofs.placed.disk_is_placed.Goals as goal

pub returns : goal.returns
returns c = record {
  puts = λ old new call law. law_may _ old new call law;
  near = λ old new x e law.
      omega (
        arith,
        simp length-append at (ap length law.2.moves.bytes),
        simp length-append at (ap length law.2.front.1),
        length-take (disk_place old) (disk_content old),
        length-take (disk_place new) (disk_content new),
      );
}

-- The prover does not join the two runs.
use Rattle.record_log.specs.Disk.{disk_content, disk_place}
use Rattle.no_std_io2.proofs.CallsLemmas.{law_may}
use Rattle.record_log.proofs.twice.run_twice.Goals as goal

pub returns : goal.returns
returns g c = record {
  survives = λ before tail at. λ none.
      let first =
      c.run_log.ensures.survives disk_content disk_place before tail (λ old new call law. law_may _ old new call law) at none in (
        first.0,
        first.1,
        first.2,
        first.3,
        c.run_log-2.ensures.survives disk_content disk_place _ first.2 (λ old new call law. law_may _ old new call law)
            (c.in_ok-log.ensures.stands _ first.2 first.4),
      );
}

-- The prover does not join what the calls put.
use Rattle.no_std_io2.proofs.Words.{refl}
use Rattle.record_log.proofs.PlaceLemmas.{all_puts, patches, sought, stood}
use Rattle.record_log.proofs.places.patch_length.Goals as goal

pub returns : goal.returns
returns g c = λ content place puts tells room.
    patches _ _ _ _ _ _ _ _ _ _ _ _ _ _ _ _ _ _ _ _ _ _ refl refl c.to_le_bytes.ensures room
    (stood _ content place tells c.in_ok-start.ensures.law) (all_puts g.W.Write content place puts c.in_ok-write_all.ensures.law)
    (all_puts g.W.Write content place puts c.in_ok-write_all-2.ensures.law) (stood _ content place tells c.in_ok-end.ensures.law)
    (sought _ content place tells c.in_ok-seek.ensures.law) (all_puts g.W.Write content place puts c.in_ok-write_all-3.ensures.law)
    (sought _ content place tells c.in_ok-seek-2.ensures.law)

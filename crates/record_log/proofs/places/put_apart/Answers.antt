-- The prover does not join what the calls put.
use Rattle.record_log.proofs.PlaceLemmas.{all_puts, apart_stands, ok_then, sought}
use Rattle.record_log.proofs.places.put_apart.Goals as goal

pub returns : goal.returns
returns g c = λ content place puts tells room behind.
    ok_then _ (apart_stands _ _ _ _ _ _ _ _ _ _ _ room behind (all_puts g.W.Write content place puts c.in_ok-write_all.ensures.law)
    (sought _ content place tells c.in_ok-seek.ensures.law)) (all_puts g.W.Write content place puts c.write_all-2.ensures.law)

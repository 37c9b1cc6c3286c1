-- The prover does not join the write and the read.
use Rattle.no_std_io2.proofs.Words.{arith}
use Rattle.record_log.proofs.PlaceLemmas.{all_puts, comes_back, ok_then, read_told, stood}
use Rattle.record_log.proofs.places.read_back.Goals as goal

pub returns : goal.returns
returns g c = λ content place puts tells room.
    ok_then _ (comes_back _ _ _ _ _ _ _ _ _ _ _ room (omega (arith, c.read_exact_at.auto.buf, c.requires.as_many))
    (stood _ content place tells c.in_ok-start.ensures.law) (all_puts g.F.Write content place puts c.in_ok-write_all.ensures.law))
    (read_told _ content place tells c.read_exact_at.ensures)

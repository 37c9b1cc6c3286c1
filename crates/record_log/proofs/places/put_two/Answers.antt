-- The prover does not join what the two calls put.
use Rattle.no_std_io2.proofs.MovesLemmas.{MovesFront-join}
use Rattle.record_log.proofs.PlaceLemmas.{all_puts, then_puts, end_puts, ok_then}
use Rattle.record_log.proofs.places.put_two.Goals as goal

pub returns : goal.returns
returns g c = record {
  moves = MovesFront-join _ _ _ c.in_ok-write_all.ensures.law.moves c.write_all-2.ensures.law.moves;
  puts = λ content place puts.
      ok_then _ (then_puts _ _ _ _ _ _ _ _ (all_puts g.W.Write content place puts c.in_ok-write_all.ensures.law))
      (all_puts g.W.Write content place puts c.write_all-2.ensures.law);
  appends = λ content place puts end.
      ok_then _ (end_puts _ _ _ _ _ _ _ _ end (all_puts g.W.Write content place puts c.in_ok-write_all.ensures.law))
      (all_puts g.W.Write content place puts c.write_all-2.ensures.law);
}

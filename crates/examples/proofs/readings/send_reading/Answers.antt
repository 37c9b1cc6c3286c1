-- `line` joins two calls by a lemma that the search does not try.
use Rattle.no_std_io2.proofs.{Words.{inl}, TextLemmas.{MovesFront-text_flush}}
use Rattle.examples.proofs.readings.send_reading.Goals as goal

pub returns : goal.returns
returns g c = record {
  line = inl (MovesFront-text_flush c.flush.result c.in_ok-write.ensures.law.moves c.flush.ensures.law.moves);
  flushed = c.flush.ensures.law.empty;
}

-- The result is the negation of the test `is_empty`; the search does not turn it round.
use Rattle.no_std_io2.proofs.{Words.{ap, length}, TextLemmas.{is_empty}}
use Rattle.std.proofs.lemmas.Bool.{not-false}
use Rattle.base64_stream.proofs.encoder.EncoderWriter.refuses.Goals as goal

pub returns-then-self-clause-no : goal.returns-then-self-clause-no
returns-then-self-clause-no g c allowed closed = ap length (is_empty _ _ c.is_empty.ensures (not-false _ allowed))

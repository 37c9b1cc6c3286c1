-- The characters that were read so far are there. Each read spends a turn of the reader below.
use Rattle.no_std_io2.proofs.TakesLemmas.{reader}
use Rattle.base64_stream.{specs.Held.{text_items}, proofs.GatherLemmas.{GatheredSoFar}}
use Rattle.base64_stream.proofs.text.Text.gather.Given as goal

abbrev pub invariant-reads : goal.invariant-reads
invariant-reads g l =
    GatheredSoFar (reader g.R.Stored g.R.Read) l.initial.from (text_items l.initial.self) l.from (text_items l.self)

abbrev pub decreases-reads : goal.decreases-reads
decreases-reads g l = g.R.Read.turns l.from

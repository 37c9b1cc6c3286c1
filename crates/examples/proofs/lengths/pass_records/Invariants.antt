-- Whole records are gone, with no fault.
use Rattle.no_std_io2.proofs.TakesLemmas.{reader}
use Rattle.examples.proofs.RecordLemmas.{RecordsTaken}
use Rattle.examples.proofs.lengths.pass_records.Given as goal

abbrev pub invariant-records : goal.invariant-records
invariant-records g l = RecordsTaken (reader g.B.Stored g.B.Read) l.initial.r l.r

abbrev pub decreases-records : goal.decreases-records
decreases-records g l = g.B.Read.turns l.r

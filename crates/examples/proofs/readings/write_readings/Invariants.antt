-- The lines so far were accepted.
use Rattle.no_std_io2.proofs.Words.{Ok, take, MovesFront}
use Rattle.std.proofs.Common.{flat_map}
use Rattle.examples.specs.Readings.{reading}
use Rattle.examples.proofs.readings.write_readings.Given as goal

abbrev pub invariant-values : goal.invariant-values
invariant-values g l =
    MovesFront (g.W.Write.told l.initial.w) (flat_map (reading l.name) (take l.value-index l.values)) (Ok tt) (g.W.Write.told l.w)

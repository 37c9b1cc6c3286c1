-- The lines so far were passed on; each lowers those that are wanted still.
use Rattle.no_std_io2.proofs.{Words.{◌-◌, tells}, TakesLemmas.{reader}}
use Rattle.examples.specs.Lines.{LinesPassed}
use Rattle.examples.proofs.heads.head.Given as goal

abbrev pub invariant-lines : goal.invariant-lines
invariant-lines g l =
    let B = reader g.B.Stored g.B.Read in
    LinesPassed l.wanted l.count (tells B l.initial.r) (tells B l.r) (g.W.Write.told l.initial.w) (g.W.Write.told l.w)

abbrev pub decreases-lines : goal.decreases-lines
decreases-lines g l = l.wanted - l.count

-- What is left to go from here is left to go from the start. Each step brings the position nearer.
use Rattle.std.proofs.Common.{◌≤◌, ◌+◌, ◌-◌}
use Rattle.no_std_io2_base.{specs.inner.Take.{limit_set, limit_position}, proofs.{LimitLemmas.{LimitGoesOn}, TakesLemmas.{seeker}}}
use Rattle.no_std_io2_base.proofs.traits.take.Take.go_to.Given as goal

abbrev pub invariant-steps : goal.invariant-steps
invariant-steps g l = LimitGoesOn (seeker g.T.Stored g.T.Seek) l.at l.initial.self l.self × (l.at ≤ limit_set l.self)

abbrev pub decreases-steps : goal.decreases-steps
decreases-steps g l = (limit_position l.self - l.at) + (l.at - limit_position l.self)

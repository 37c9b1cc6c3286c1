use Rattle.no_std_io2.proofs.Words.{◌≡◌, ◌≤◌, ◌++◌, take, drop}
use Rattle.tower_play.specs.Script.{escaped}
use Rattle.tower_play.proofs.report.push_escaped.Given as goal

abbrev pub invariant-bytes : goal.invariant-bytes
invariant-bytes g l =
    (l.start ≤ l.i)
    × (l.text.items ++ drop l.start (take l.i l.bytes) ≡ l.initial.text.items ++ escaped (take l.i l.bytes))

-- The prover does not find the printed text of the value, which `push_line` takes as an argument.
use Rattle.no_std_io2.proofs.Words.{refl}
use Rattle.tower_play.proofs.report.push_reply.Goals as goal

pub returns-in-Took : goal.returns-in-Took
returns-in-Took g c = record { ok = rw c.in-Took.is (c.push_line.ensures.ok _ refl) }

pub returns-in-Failed : goal.returns-in-Failed
returns-in-Failed g c = record { ok = rw c.in-Failed.is (c.push_line-in-Failed.ensures.ok _ refl) }

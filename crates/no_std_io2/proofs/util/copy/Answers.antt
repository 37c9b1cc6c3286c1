-- Which result of `copy_with` it was, which the search does not guess.
use Rattle.no_std_io2.proofs.Words.{Ok, refl, ℕ}
use Rattle.std.proofs.lemmas.List.{length-replicate}
use Rattle.no_std_io2.proofs.util.copy.Goals as goal

pub returns : goal.returns
returns g c = (Ok c.in_ok-copied.copied, refl, rw (length-replicate {A = ℕ} g.row.S 0) at c.in_ok-copied.ensures)

-- `run_items` ends with what its iterator has left, and the items so far were yielded by it.
use Rattle.no_std_io2.proofs.Words.{◌≡◌, ◌++◌, Ok, Some, Made}
use Rattle.std.specs.Iterator.{IsFinite, size}
use Rattle.io_bench.specs.Appended.{appended}
use Rattle.io_bench.proofs.pieces.run_items.Given as goal

abbrev pub invariant-items : goal.invariant-items
invariant-items g l =
    let got = appended l.fn.items.items l.items.items in
    record {
      can : g.I.Iterator.can_next l.iter;
      finite : IsFinite (g.I.Iterator.remaining l.iter);
      appends : l.items.items ≡ l.fn.items.items ++ got;
      calls : Made (λ s x t. g.I.Iterator.next_gives s (Some (Ok x)) t) l.fn.iter got l.iter;
    }

abbrev pub decreases-items : goal.decreases-items
decreases-items g l = size (g.I.Iterator.remaining l.iter)

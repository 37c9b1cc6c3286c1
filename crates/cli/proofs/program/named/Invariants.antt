-- The words that are left follow the names.
use Rattle.std.{proofs.Common.{◌≡◌, ◌++◌, drop}, specs.Vec.Iter.{into_iter_items, into_iter_len}}
use Rattle.cli.proofs.program.named.Given as goal

abbrev pub invariant-words : goal.invariant-words
invariant-words l = drop 1 (into_iter_items l.fn.words) ≡ l.names.items ++ into_iter_items l.words

abbrev pub decreases-words : goal.decreases-words
decreases-words l = into_iter_len l.words

-- As the trait's: it ends with its reader's turns.
use Rattle.no_std_io2_base.proofs.{TakesLemmas.{reader}, Forwards.{box_reader}, PieceLoops.{UntilSoFar}}
use Rattle.no_std_io2_base.proofs.impls.dyn_buf_read_boxes.BoxDynBufReadDropBufRead.read_until.Given as goal

abbrev pub invariant-pieces : goal.invariant-pieces
invariant-pieces g l =
    let o = goal.BufRead-dyn g in
    UntilSoFar (box_reader (λ p. reader (o p).Stored (o p).Read)) l.delim l.fn.self l.fn.buf l.buf l.self

abbrev pub decreases-pieces : goal.decreases-pieces
decreases-pieces g l = (goal.BufRead-dyn g (l.self.vtable, l.self.value)).Read.turns l.self.value

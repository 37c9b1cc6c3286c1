-- The search does not join what the copy took of the slice with what the buffer and the queue accepted.
use Rattle.no_std_io2.proofs.Words.{err_from_is_err_and}
use Rattle.bare.proofs.QueueLemmas.{flush_done, flush_full, copied, copy_full}
use Rattle.bare.proofs.copying.copy_whole.Goals as goal

pub returns-in_err-copy-clause-full : goal.returns-in_err-copy-clause-full
returns-in_err-copy-clause-full c =
    let p = err_from_is_err_and c.from_residual.result c.from_residual.ensures.1 in
    rw p.1 (copy_full c.args.from.now c.new-r.ensures.events c.in_err-copy.was c.copy.ensures)

pub returns-clause-ok : goal.returns-clause-ok
returns-clause-ok c =
    flush_done c.flush.result (copied c.args.from.now c.new-r.ensures.events c.in_ok-copy.was c.copy.ensures) c.flush.ensures.law

pub returns-clause-full : goal.returns-clause-full
returns-clause-full c =
    flush_full c.flush.result (copied c.args.from.now c.new-r.ensures.events c.in_ok-copy.was c.copy.ensures) c.flush.ensures.law

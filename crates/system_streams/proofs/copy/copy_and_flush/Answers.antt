-- The prover does not find what the copy and the flush do together (`copies_all`, `flushed_behind`).
use Rattle.no_std_io2.proofs.{Words.{err_from_is_err_and}, CopyLoop.{copied_ok}}
use Rattle.system_streams.proofs.CopyLemmas.{copies_all, copies_err, flush_err, flushed_behind}
use Rattle.system_streams.proofs.copy.copy_and_flush.Goals as goal

pub returns-in_err-count-clause-err : goal.returns-in_err-count-clause-err
returns-in_err-count-clause-err g c =
    let p = err_from_is_err_and c.from_residual.result c.from_residual.ensures.1 in
    rw (p.1, p.2) (copies_err c.in_err-count.ensures)

pub returns-in_err-flush-clause-err : goal.returns-in_err-flush-clause-err
returns-in_err-flush-clause-err g c =
    let p = err_from_is_err_and c.from_residual-in_err-flush.result c.from_residual-in_err-flush.ensures.1 in
    rw (p.1, p.2) (flush_err c.in_ok-count.ensures c.in_err-flush.ensures.law.moves)

pub returns-clause-all : goal.returns-clause-all
returns-clause-all g c = copies_all c.in_ok-count.ensures c.in_ok-flush.ensures.law.moves

pub returns-clause-calls : goal.returns-clause-calls
returns-clause-calls g c = flushed_behind (copied_ok c.in_ok-count.ensures).calls c.in_ok-flush.ensures.law

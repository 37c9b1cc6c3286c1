-- Why a frame does not fit: the search does not take apart the law of the `send` or of the `flush` that failed.
use Rattle.no_std_io2.proofs.Words.{arith, err_from_is_err_and}
use Rattle.bare.proofs.QueueLemmas.{flush_full, frame_moved, frame_full}
use Rattle.bare.proofs.frames.send_whole.Goals as goal

pub returns-in_err-send-clause-full : goal.returns-in_err-send-clause-full
returns-in_err-send-clause-full c =
    let p = err_from_is_err_and c.from_residual.result c.from_residual.ensures.1 in
    rw p.1 (frame_full c.args.payload.now (omega arith) c.in_err-send.was c.send.ensures.sends)

pub returns-clause-full : goal.returns-clause-full
returns-clause-full c =
    flush_full c.flush.result (frame_moved c.args.payload.now c.in_ok-send.was c.send.ensures.sends) c.flush.ensures.law

-- The prover does not find which frames were taken before the last `next`.
use Rattle.no_std_io2.proofs.Words.{[], ◌∷◌, ◌++◌, List, ℕ, take, None, Result, Ok, Err, OnOk, inl, inr, err_from_is_err_and, Reader}
use Rattle.no_std_io2.{proofs.Words.{Writer}, specs.{declared.io.Error.{Error}, Writers.{FlushOf}}}
use Rattle.framing.specs.{declared.reader.FrameReader.{FrameReader}, Taking.{TakesFrame}}
use Rattle.line_log.specs.{declared.LineLog.{LineLog}, Log.{log_writer}}
use Rattle.frame_lines.specs.Printing.{no_frame, and_frame, PrintEnds, PrintsEach, PrintsFrames, log_buffer}
use Rattle.frame_lines.proofs.print_frames.Goals as goal

pub frames-init : goal.frames-init
frames-init g c = record { payloads = []; prints = no_frame }

pub frames-preserved : goal.frames-preserved
frames-preserved g c = record {
  payloads = c.frames.invariant.payloads ++ take c.in-Some.len c.next.new.room ∷ [];
  prints = and_frame c.in-Some.len c.frames.invariant.prints (rw c.in-Some.is at c.in_ok-len.ensures.takes) c.in_ok-print_line.ensures;
}

-- frames were printed, and then it ended so
printed : {R W : Type 0} {K : Reader R} {I : Writer W} {from mid new : FrameReader R 512} {room held : List ℕ}
    {to log to' : LineLog W 16386} {payloads : List (List ℕ)} {reply : Result (Unit {0}) Error}
    → PrintsEach K I from room to payloads mid held log → PrintEnds K mid held reply new
    → OnOk reply (FlushOf (log_buffer I) (log_writer log) (Ok tt) (log_writer to')) → PrintsFrames K I from room to reply new to'
printed prints ends flushes = record {
  payloads = _;
  mid = _;
  held = _;
  log = _;
  prints = prints;
  ends = ends;
  flushes = flushes;
}

pub returns-in_err-len-clause-prints : goal.returns-in_err-len-clause-prints
returns-in_err-len-clause-prints g c =
    let p = err_from_is_err_and c.from_residual.result c.from_residual.ensures.1 in
    rw (p.1, p.2) (printed c.frames.invariant.prints (_, inl c.in_err-len.ensures.takes) tt)

pub returns-in_err-print_line-clause-prints : goal.returns-in_err-print_line-clause-prints
returns-in_err-print_line-clause-prints g c =
    let p = err_from_is_err_and c.from_residual-in_err-print_line.result c.from_residual-in_err-print_line.ensures.1 in
    rw p.1 (printed c.frames.invariant.prints (_, inr (_, c.in_ok-len.ensures.takes)) tt)

-- how it ended, whatever the flush returned
ends : {R : Type 0} {I : Reader R} {mid new : FrameReader R 512} {held room : List ℕ} (r : Result (Unit {0}) Error)
    → TakesFrame I mid held (Ok None) new room → PrintEnds I mid held r new
ends (Ok u) taken = (_, taken)
ends (Err e) taken = (_, inr (None, taken))

-- the flush, if it succeeded
flushed : {W : Type 0} {I : Writer W} {log to' : LineLog W 16386} (r : Result (Unit {0}) Error)
    → FlushOf (log_buffer I) (log_writer log) r (log_writer to') → OnOk r (FlushOf (log_buffer I) (log_writer log) (Ok tt) (log_writer to'))
flushed (Ok u) law = law
flushed (Err e) law = tt

pub returns-clause-prints : goal.returns-clause-prints
returns-clause-prints g c =
    printed c.frames.invariant.prints (ends c.flush.result (rw c.in_default.is at c.in_ok-len.ensures.takes))
    (flushed c.flush.result c.flush.ensures.law)

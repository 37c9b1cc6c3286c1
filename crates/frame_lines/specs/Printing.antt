-- What the program does with frames: it takes one after another, and logs one line for each.
use Rattle.std.specs.Prelude.{◌≡◌, ◌<◌, ◌⊎◌, ℕ, List, [], ◌∷◌, ◌++◌, length, take, replicate, Option, Some, None, Result, Ok, Err, OnOk}
use Rattle.no_std_io2.specs.{declared.io.{Error.{Error}, BufWriter.{BufWriter}}, Takes.{Reader}, Moves.{WriterState, Moves}}
use Rattle.no_std_io2.specs.{Writers.{Writer, FlushOf}, BufWriter.{writer_told, writer_inner, writer_buffer}}
use Rattle.no_std_io2.specs.inner.BufWriter.{BufferMay, InnerCalls}
use Rattle.framing.specs.{declared.reader.FrameReader.{FrameReader}, Taking.{TakesFrame, reads_from}}
use Rattle.line_log.specs.{declared.LineLog.{LineLog}, Log.{line_of, log_held, log_inner, log_tells, log_writer, LogsText}}
use Rattle.system_streams.specs.{declared.patient.Patient.{Patient}, Patient.{patient_error}}
use Rattle.cli.specs.{declared.reason.Reason.{Reason}, Reasons.{IsReasonOfEither}}

-- the buffer of the log, in front of a writer with these ghost members
abbrev pub log_buffer : {W : Type 0} → Writer W → Writer (BufWriter W 16386)
log_buffer I = record {
  told = writer_told I.told;
  takes_all = λ w. I.takes_all (writer_inner w);
  may = BufferMay I (InnerCalls 16386) writer_inner writer_buffer;
}

-- One line was accepted, and the writer below the log has all of it. Its text is the one that the standard library
-- prints for the payload, of which no contract says more
pub record PrintsPayload {W : Type 0} (I : Writer W) (old new : LineLog W 16386) : Type 0 where
  pub text : List ℕ
  pub moves : Moves (log_tells I.told old) (line_of text) [] (log_tells I.told new)
  pub sent : log_held new ≡ []
  -- the line was logged, and no call followed, except for one flush if some of the line was still held
  pub output : Option (List ℕ)
  pub mid : LineLog W 16386
  pub logs : LogsText I output old (Ok tt) mid
  pub rest : ((log_held mid ≡ []) × (new ≡ mid))
      ⊎ ((0 < length (log_held mid)) × FlushOf (log_buffer I) (log_writer mid) (Ok tt) (log_writer new))

-- From `from` frames with these payloads were taken, one after another, into a room, and for each one line was printed to `to`.
pub data PrintsEach {R W : Type 0} (K : Reader R) (I : Writer W) (from : FrameReader R 512) (room : List ℕ)
    (to : LineLog W 16386) : List (List ℕ) → FrameReader R 512 → List ℕ → LineLog W 16386 → Type 0 where
  no_frame : PrintsEach K I from room to [] from room to
  and_frame : {payloads : List (List ℕ)} {mid new : FrameReader R 512} {held room' : List ℕ} {log log' : LineLog W 16386} (n : ℕ)
      → PrintsEach K I from room to payloads mid held log → TakesFrame K mid held (Ok (Some n)) new room' → PrintsPayload I log log'
      → PrintsEach K I from room to (payloads ++ take n room' ∷ []) new room' log'

-- How that ended. After `Ok` the frames ended. Else the next frame was not taken, for this error; or it, or the end,
-- was, and then a line, or the flush, failed.
abbrev pub PrintEnds : {R : Type 0} → Reader R → FrameReader R 512 → List ℕ → Result (Unit {0}) Error → FrameReader R 512 → Type 0
PrintEnds K mid held (Ok u) new = (room : List ℕ) × TakesFrame K mid held (Ok None) new room
PrintEnds K mid held (Err e) new = (room : List ℕ) × (TakesFrame K mid held (Err e) new room
    ⊎ ((next : Option ℕ) × TakesFrame K mid held (Ok next) new room))

-- Frames were printed, from a room of zeros. After the last line the log was `log`, and after `Ok` it was flushed once.
pub record PrintsFrames {R W : Type 0} (K : Reader R) (I : Writer W) (from : FrameReader R 512)
    (room : List ℕ) (to : LineLog W 16386) (reply : Result (Unit {0}) Error) (new : FrameReader R 512) (to' : LineLog W 16386)
    : Type 0 where
  pub payloads : List (List ℕ)
  pub mid : FrameReader R 512
  pub held : List ℕ
  pub log : LineLog W 16386
  pub prints : PrintsEach K I from room to payloads mid held log
  pub ends : PrintEnds K mid held reply new
  pub flushes : OnOk reply (FlushOf (log_buffer I) (log_writer log) (Ok tt) (log_writer to'))

-- what the program returns for that: after `Ok` the log holds nothing, and after an error the reason of the stream that failed
abbrev pub PrintAnswer : {D E : Type 0} → (Patient E → WriterState) → Result (Unit {0}) Error → Result (Unit {0}) Reason
    → FrameReader (Patient D) 512 → LineLog (Patient E) 16386 → Type 0
PrintAnswer told (Ok u) reply frames log = (reply ≡ Ok tt) × ((log_tells told log).held ≡ [])
PrintAnswer told (Err e) reply frames log =
    (why : Reason) × (reply ≡ Err why) × IsReasonOfEither (patient_error (reads_from frames)) (patient_error (log_inner log)) e why

-- Frames of one stream were printed to another.
pub record PrintsAll {D E : Type 0} (K : Reader (Patient D)) (I : Writer (Patient E)) (from : FrameReader (Patient D) 512)
    (to : LineLog (Patient E) 16386) (reply : Result (Unit {0}) Reason) (new : FrameReader (Patient D) 512)
    (log : LineLog (Patient E) 16386) : Type 0 where
  pub printed : Result (Unit {0}) Error
  pub prints : PrintsFrames K I from (replicate 4096 0) to printed new log
  pub answer : PrintAnswer I.told printed reply new log

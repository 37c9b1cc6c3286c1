-- What a seek does to a buffer, and which inner seeks it makes. K are the ghost members of the inner seeker.
use Rattle.std.specs.Prelude.{◌≡◌, ℕ, ℤ, ◌^◌, ◌<◌, negsuc, pos, ◌+◌, ◌-◌, ◌-ℤ◌, List, length, take, drop, ◌⊎◌, Ok, Err, Result, IsErr, OnOk}
use Rattle.std.specs.Prelude.{OnErr, [], ◌∷◌}
use Rattle.no_std_io2_base.specs.{declared.error.Error.{Error}, declared.traits.seek.SeekFrom.{SeekFrom}}
use Rattle.no_std_io2_base.specs.{declared.traits.seek.SeekFrom.TheVariants.{Current}, Events.{events_of}, Takes.{ReaderState, Takes}}
use Rattle.no_std_io2_base.specs.{Seek.{Seeker, SeekLaw, StreamLenLaw, StreamPositionLaw}, Calls.{SeekCall, Sought, Measured, Moved}}
use Rattle.no_std_io2_base.specs.{inner.Errors.{IsInvalidSeek}, inner.Seek.{WithoutPosition}, Moves.{Moves}, Writers.{Writer}}
use Rattle.no_std_io2_base.specs.Errors.{error_kind}
use Rattle.no_std_io2.specs.{declared.buffered.buf_reader.BufReader.{BufReader}, inner.Buffer.{IsInBuffer, IsCutOn}}
use Rattle.no_std_io2.specs.{BufReader.{reader_held, reader_behind, reader_inner, KeepsBuffer}, inner.BufReader.{HasNoBuffer}}
use Rattle.no_std_io2.specs.{declared.buffered.buf_writer.BufWriter.{BufWriter}, BufWriter.{writer_inner, writer_buffer}}
use Rattle.no_std_io2.specs.inner.BufWriter.{with_buffer, SendCalls, Stepped, TakesStep}

-- A seek of a writer B with a buffer sent the held bytes: all of them, and then one inner seek was made; or as many as went out before a
-- fault, which is then the result.
pub data SeeksSent {W B : Type 0} (I : Writer W) (K : Seeker W) (inner : B → W) (buffer : B → List ℕ) (old : B) (to : SeekFrom)
    : Result ℕ Error → B → Type 0
  where
    -- nothing is held, no byte is lost, and the result is that of the inner seek. `sent` is the inner writer after the sending
    went : {reply : Result ℕ Error} {new : B} (sent : W) → Stepped I SendCalls (inner old) (buffer old) (Ok tt) [] sent
        → Moves (with_buffer (I.told (inner old)) (buffer old)) [] [] (I.told sent) → SeekLaw K sent to reply (inner new)
        → buffer new ≡ [] → SeeksSent I K inner buffer old to reply new
    -- some bytes are still held, no byte is lost, and no seek was made
    sending_failed : {e : Error} {new : B} → TakesStep I inner buffer SendCalls old (Err e) new
        → Moves (with_buffer (I.told (inner old)) (buffer old)) [] (error_kind e ∷ []) (with_buffer (I.told (inner new)) (buffer new))
        → 0 < length (buffer new) → SeeksSent I K inner buffer old to (Err e) new

-- What a call of `Seek` may do to a buffered writer: a seek. It has no other body of its own.
abbrev pub WriterMaySeek : {W : Type 0} {S : ℕ} → Writer W → Seeker W → BufWriter W S → SeekCall → BufWriter W S → Type 0
WriterMaySeek I K old (Sought to reply) new = SeeksSent I K writer_inner writer_buffer old to reply new
WriterMaySeek I K old _ new = ⊥

-- a step over bytes of the buffer: forward, the first held bytes are taken; backward, the last bytes behind come again
abbrev pub TakesOver : ℤ → List ℕ → List ℕ → ReaderState → ReaderState → Type 0
TakesOver (pos k) behind held old new = Takes old (events_of (take k held)) new
TakesOver (negsuc k) behind held old new = Takes new (events_of (drop (length behind - (k + 1)) behind)) old

-- the offset is so far back that the offset of one inner seek, which starts `held` bytes further on, would not fit an `i64`
abbrev pub IsTooFarBack : ℤ → ℕ → Type 0
IsTooFarBack (negsuc k) held = 2 ^ 63 < held + (k + 1)
IsTooFarBack (pos k) held = ⊥

-- the target that many bytes back
abbrev pub back_by : ℕ → SeekFrom
back_by held = Current (pos 0 -ℤ pos held)

-- One inner seek. If it succeeds, the buffer is dropped, and else it is kept.
pub record SeeksOnce {R : Type 0} {S : ℕ} (inner : Seeker R) (old : BufReader R S) (target : SeekFrom) (reply : Result ℕ Error)
    (new : BufReader R S) : Type 0 where
  pub sought : SeekLaw inner (reader_inner old) target reply (reader_inner new)
  pub dropped : OnOk reply (HasNoBuffer new)
  pub kept : OnErr reply (KeepsBuffer old new)

-- Two inner seeks: back by the number of held bytes, which succeeded, and then by the offset. The buffer is dropped.
pub record SeeksTwice {R : Type 0} {S : ℕ} (inner : Seeker R) (old : BufReader R S) (offset : ℤ) (reply : Result ℕ Error)
    (new : BufReader R S) : Type 0 where
  pub between : R
  pub at : ℕ
  pub back : SeekLaw inner (reader_inner old) (back_by (length (reader_held old))) (Ok at) between
  pub on : SeekLaw inner between (Current offset) reply (reader_inner new)
  pub dropped : HasNoBuffer new

-- A position less the held bytes, by the result of the inner `stream_position`. If more are held, there is no such place.
abbrev LessHeld : ℕ → Result ℕ Error → Result ℕ Error → Type 0
LessHeld held (Ok at) (Ok n) = n + held ≡ at
LessHeld held (Ok at) (Err e) = (at < held) × IsInvalidSeek e
LessHeld held (Err e) reply = reply ≡ Err e

-- `position()`: one inner `stream_position`, with its result less the held bytes. The buffer stays.
pub record PositionLaw {R : Type 0} {S : ℕ} (inner : Seeker R) (old : BufReader R S) (reply : Result ℕ Error) (new : BufReader R S)
    : Type 0 where
  pub answer : Result ℕ Error
  pub asked : StreamPositionLaw inner (reader_inner old) answer (reader_inner new)
  pub place : LessHeld (length (reader_held old)) answer reply
  pub kept : KeepsBuffer old new

-- A seek of a `BufReader` is one inner seek. If it counts from the current position, the inner seek is by `held` less. If that is too far
-- back for one seek, there are two; if the first fails, only that.
abbrev pub ReaderSeeks : {R : Type 0} {S : ℕ} → Seeker R → BufReader R S → SeekFrom → Result ℕ Error → BufReader R S → Type 0
ReaderSeeks inner old (Current offset) reply new = let held = length (reader_held old) in
    ((IsTooFarBack offset held → ⊥) × SeeksOnce inner old (Current (offset -ℤ pos held)) reply new)
    ⊎ (IsTooFarBack offset held × (SeeksTwice inner old offset reply new ⊎ (IsErr reply × SeeksOnce inner old (back_by held) reply new)))
ReaderSeeks inner old target reply new = SeeksOnce inner old target reply new

-- A `seek_relative` within the buffer succeeds, moves the border between the bytes behind and the held bytes, and makes no inner call. Any
-- other is a seek.
pub data MovesBelow {R : Type 0} {S : ℕ} (inner : Seeker R) (old : BufReader R S) (offset : ℤ) (reply : Result (Unit {0}) Error)
    (new : BufReader R S) : Type 0 where
  moved_within : IsInBuffer offset (length (reader_behind old)) (length (reader_held old)) → reply ≡ Ok tt
      → reader_inner new ≡ reader_inner old → IsCutOn offset (reader_behind old) (reader_held old) (reader_behind new) (reader_held new)
      → MovesBelow inner old offset reply new
  moved_far : (IsInBuffer offset (length (reader_behind old)) (length (reader_held old)) → ⊥)
      → WithoutPosition (λ answer. ReaderSeeks inner old (Current offset) answer new) reply → MovesBelow inner old offset reply new

-- what a call of `Seek` may do to a `BufReader`; its `stream_len` is the inner one, and keeps the buffer
abbrev pub ReaderMaySeek : {R : Type 0} {S : ℕ} → Seeker R → BufReader R S → SeekCall → BufReader R S → Type 0
ReaderMaySeek inner old (Sought target reply) new = ReaderSeeks inner old target reply new
ReaderMaySeek inner old (Measured reply) new = StreamLenLaw inner (reader_inner old) reply (reader_inner new) × KeepsBuffer old new
ReaderMaySeek inner old (Moved offset reply) new = MovesBelow inner old offset reply new

-- What a writer of frames holds and tells, and what its calls do. I are the ghost members of the writer below.
use Rattle.std.specs.Prelude.{◌≡◌, ◌⊎◌, ℕ, ◌+◌, ◌<◌, ◌≤◌, ◌^◌, List, ◌++◌, length, codes, [], ◌∷◌, Result, Ok, Err, IsErrAnd}
use Rattle.no_std_io2.specs.{Errors.{SaysError}, Moves.{WriterState, Moves}, BufWriter.{writer_inner, writer_buffer, writer_told, Puts}}
use Rattle.no_std_io2.specs.{Writers.{Writer}, declared.io.{BufWriter.{BufWriter}, Error.{Error}, ErrorKind.TheVariants.{InvalidInput}}}
use Rattle.framing.specs.{Frames.{frame, frames}, declared.writer.FrameWriter.{FrameWriter}}

-- the buffered writer, which has the writer below in it
abbrev pub frame_writer : {W : Type 0} {S : ℕ} → FrameWriter W S → BufWriter W S
frame_writer w = w.inner

-- the writer below
abbrev pub writes_to : {W : Type 0} {S : ℕ} → FrameWriter W S → W
writes_to w = writer_inner w.inner

-- the bytes in the buffer
abbrev pub frames_held : {W : Type 0} {S : ℕ} → FrameWriter W S → List ℕ
frames_held w = writer_buffer w.inner

-- what it tells if the writer below tells `told`
abbrev pub writer_tells : {W : Type 0} {S : ℕ} → (W → WriterState) → FrameWriter W S → WriterState
writer_tells told w = writer_told told w.inner

-- the frame of this payload is shorter than a buffer of S bytes
abbrev IsShort : ℕ → List ℕ → Type 0
IsShort S payload = (length payload + 4 < S) × (length payload < 2 ^ 32)

-- it is not, or there is no such frame
abbrev IsLong : ℕ → List ℕ → Type 0
IsLong S payload = (S ≤ length payload + 4) ⊎ (2 ^ 32 ≤ length payload)

-- e is the error of a frame that is not shorter than the buffer
abbrev pub SaysTooLong : Error → Type 0
SaysTooLong e = SaysError InvalidInput (codes "a frame is longer than the buffer") e

-- a frame was put into the buffer, whole or not at all
abbrev PutsFrame : {W : Type 0} {S : ℕ} → Writer W → List ℕ → FrameWriter W S → Result (Unit {0}) Error → FrameWriter W S → Type 0
PutsFrame {S = S} I payload old reply new = Puts I writer_inner writer_buffer S (frame payload) (frame_writer old) reply (frame_writer new)

-- `send(payload)`: its frame was put; or it is too long, and the writer is unchanged
abbrev pub SendsFrame : {W : Type 0} {S : ℕ} → Writer W → List ℕ → FrameWriter W S → Result (Unit {0}) Error → FrameWriter W S → Type 0
SendsFrame {S = S} I payload old reply new =
    (IsShort S payload × PutsFrame I payload old reply new) ⊎ (IsLong S payload × IsErrAnd reply SaysTooLong × (new ≡ old))

-- the frames of these payloads were put, one after another
abbrev pub PutsEach : {W : Type 0} {S : ℕ} → Writer W → FrameWriter W S → List (List ℕ) → FrameWriter W S → Type 0
PutsEach I old [] new = new ≡ old
PutsEach {W} {S} I old (p ∷ ps) new = (mid : FrameWriter W S) × SendsFrame I p old (Ok tt) mid × PutsEach I mid ps new

-- how `send_all` ended: no payload is left; or the first that is left met this error
abbrev pub Ends : {W : Type 0} {S : ℕ} → Writer W → FrameWriter W S → List (List ℕ) → Result (Unit {0}) Error → FrameWriter W S → Type 0
Ends I mid left (Ok u) new = (left ≡ []) × (new ≡ mid)
Ends I mid [] (Err e) new = ⊥
Ends I mid (p ∷ ps) (Err e) new = SendsFrame I p mid (Err e) new

-- The payloads that are gone from the front were sent.
pub record SentSoFar {W : Type 0} {S : ℕ} (I : Writer W) (old : FrameWriter W S) (payloads : List (List ℕ)) (now : FrameWriter W S)
    (left : List (List ℕ)) : Type 0 where
  pub sent : List (List ℕ)
  pub split : payloads ≡ sent ++ left
  pub each : PutsEach I old sent now
  pub moves : Moves (writer_tells I.told old) (frames sent) [] (writer_tells I.told now)

-- they were, and the last call ended like this
abbrev pub SendsFrames : {W : Type 0} {S : ℕ} → Writer W → FrameWriter W S → List (List ℕ) → Result (Unit {0}) Error → FrameWriter W S
    → List (List ℕ) → Type 0
SendsFrames {W} {S} I old payloads reply new left =
    (mid : FrameWriter W S) × SentSoFar I old payloads mid left × Ends I mid left reply new

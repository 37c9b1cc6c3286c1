-- What an encoder holds, tells and passes on. I are the ghost members of the writer below.
use Rattle.std.specs.Prelude.{◌≡◌, ℕ, Bool, List, [], ◌++◌, Result}
use Rattle.base64.specs.{declared.engine.general_purpose.GeneralPurpose.{GeneralPurpose}, GeneralPurpose.{encode_of}}
use Rattle.no_std_io2.specs.{declared.io.{Error.{Error}, BufWriter.{BufWriter}}, Moves.{WriterState, told_out}, inner.Write.{told_over}}
use Rattle.no_std_io2.specs.{Writers.{Writer}, BufWriter.{writer_inner, writer_buffer, writer_told, Puts}}
use Rattle.base64_stream.specs.{declared.encoder.EncoderWriter.{EncoderWriter}, Held.{group_items}}

module _ {W : Type 0} {S : ℕ} where
  -- the buffer with the text that waits, in front of the writer below
  abbrev pub encoder_writer : EncoderWriter W S → BufWriter W S
  encoder_writer w = w.inner

  -- the writer below
  abbrev pub encoder_inner : EncoderWriter W S → W
  encoder_inner w = writer_inner w.inner

  -- the text that waits
  abbrev pub encoder_held : EncoderWriter W S → List ℕ
  encoder_held w = writer_buffer w.inner

  -- the bytes of the group that is not whole yet
  abbrev pub unfinished : EncoderWriter W S → List ℕ
  unfinished w = group_items w.group

  -- the last group was put into the buffer, and no more bytes are accepted
  abbrev pub is_closed : EncoderWriter W S → Bool
  is_closed w = w.closed

  -- the engine
  abbrev pub encoder_engine : EncoderWriter W S → GeneralPurpose
  encoder_engine w = w.engine

  -- all bytes that were accepted
  abbrev pub encoder_accepted : EncoderWriter W S → List ℕ
  encoder_accepted w = w.accepted.bytes

  -- the turns of the writer below, which does not tell its mishaps
  abbrev pub told_below : (W → WriterState) → EncoderWriter W S → WriterState
  told_below told w = record (told_out []) { turns = (told (encoder_inner w)).turns }

  -- what it tells: every accepted byte is out, also one that waits, since a `flush` cannot send a group that is not whole
  abbrev pub encoder_told : (W → WriterState) → EncoderWriter W S → WriterState
  encoder_told told w = told_over (encoder_accepted w) [] (told_below told w)

  -- all text that the writer below has accepted, and the text that waits
  abbrev pub passed_on : (W → WriterState) → EncoderWriter W S → List ℕ
  passed_on told w = (writer_told told w.inner).out ++ (writer_told told w.inner).held

  -- what the device will have if `rest` is written too and the encoder is finished
  abbrev pub will_have : (W → WriterState) → EncoderWriter W S → List ℕ → List ℕ
  will_have told w rest = passed_on told w ++ encode_of w.engine (unfinished w ++ rest)

  -- these bytes were accepted: the device will have them encoded, and nothing else has changed of what it will have
  abbrev pub Encodes64 : (W → WriterState) → EncoderWriter W S → List ℕ → EncoderWriter W S → Type 0
  Encodes64 told old x new = (rest : List ℕ) → will_have told new rest ≡ will_have told old (x ++ rest)

  -- this text was put into the buffer, whole or not at all
  abbrev pub PutsText : Writer W → List ℕ → EncoderWriter W S → Result (Unit {0}) Error → EncoderWriter W S → Type 0
  PutsText I text old reply new = Puts I writer_inner writer_buffer S text (encoder_writer old) reply (encoder_writer new)

  -- the group and the state are as they were
  abbrev pub KeepsGroup : EncoderWriter W S → EncoderWriter W S → Type 0
  KeepsGroup old new = (unfinished new ≡ unfinished old) × (is_closed new ≡ is_closed old) × (encoder_accepted new ≡ encoder_accepted old)
      × (encoder_engine new ≡ encoder_engine old)

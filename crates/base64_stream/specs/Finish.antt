-- What a `write` and a `finish` of an encoder put into its buffer, and what the device has in the end.
use Rattle.std.specs.Prelude.{◌≡◌, ◌≢◌, ◌⊎◌, ℕ, ◌%◌, ◌<◌, ◌≤◌, true, List, [], ◌++◌, length, take, codes, Result, Ok, Err, IsErrAnd}
use Rattle.base64.specs.GeneralPurpose.{encode_of}
use Rattle.no_std_io2.specs.{declared.io.{Error.{Error}, BufWriter.{BufWriter}, ErrorKind.TheVariants.{InvalidInput}}, Errors.{SaysError}}
use Rattle.no_std_io2.specs.{inner.Read.{without_number}, Moves.{WriterState}, Writers.{Writer, FlushOf}}
use Rattle.base64_stream.specs.{declared.encoder.EncoderWriter.{EncoderWriter}, Encoder.{encoder_writer, encoder_inner, encoder_held}}
use Rattle.base64_stream.specs.Encoder.{unfinished, is_closed, encoder_engine, KeepsGroup, PutsText, will_have}

-- e is the error of a write behind the end of the text
abbrev pub SaysClosed : Error → Type 0
SaysClosed e = SaysError InvalidInput (codes "the text is finished") e

-- What `write(x)` of an encoder does.
pub data PutsGroups {W : Type 0} {S : ℕ} (I : Writer W) (old : EncoderWriter W S) (x : List ℕ)
    : Result ℕ Error → EncoderWriter W S → Type 0 where
  -- the text is finished: it is refused, and nothing has changed
  closed_refused : {e : Error} → is_closed old ≡ true → 0 < length x → SaysClosed e → PutsGroups I old x (Err e) old
  -- no group is whole yet: all of x is kept, and no call is made
  all_kept : {n : ℕ} {new : EncoderWriter W S} → length (unfinished old ++ x) < 3 → n ≡ length x → unfinished new ≡ unfinished old ++ x
      → encoder_writer new ≡ encoder_writer old → PutsGroups I old x (Ok n) new
  -- the encoding of whole groups is put into the buffer, whole or not at all: of the unfinished one and some first bytes of x
  groups_put : {reply : Result ℕ Error} {new : EncoderWriter W S} (n : ℕ) → 0 < n → n ≤ length x
      → length (unfinished old ++ take n x) % 3 ≡ 0
      → PutsText I (encode_of (encoder_engine old) (unfinished old ++ take n x)) old (without_number reply) new
      → (reply ≡ Ok n) ⊎ IsErrAnd reply (λ _. KeepsGroup old new) → PutsGroups I old x reply new

-- the device has what it was to have, nothing waits, and the text is closed
abbrev pub HasFinished : {W : Type 0} {S : ℕ} → (W → WriterState) → EncoderWriter W S → EncoderWriter W S → Type 0
HasFinished told old new = ((told (encoder_inner new)).out ≡ will_have told old []) × ((told (encoder_inner new)).held ≡ [])
    × (encoder_held new ≡ []) × (unfinished new ≡ []) × (is_closed new ≡ true)

-- the last group is in the buffer, if there was one
abbrev pub LastPut : {W : Type 0} {S : ℕ} → Writer W → EncoderWriter W S → EncoderWriter W S → Type 0
LastPut I old new = ((unfinished old ≡ []) × (encoder_writer new ≡ encoder_writer old))
    ⊎ ((unfinished old ≢ []) × PutsText I (encode_of (encoder_engine old) (unfinished old)) old (Ok tt) new)

-- How a `finish` ended. B are the ghost members of the buffer.
pub data FinishesText {W : Type 0} {S : ℕ} (I : Writer W) (B : Writer (BufWriter W S)) (old : EncoderWriter W S)
    : Result (Unit {0}) Error → EncoderWriter W S → Type 0 where
  -- the last group could not be put into the buffer, and is kept
  group_stopped : {e : Error} {new : EncoderWriter W S} → unfinished old ≢ []
      → PutsText I (encode_of (encoder_engine old) (unfinished old)) old (Err e) new → KeepsGroup old new → FinishesText I B old (Err e) new
  -- it is in there, the text is closed, and this is the result of one flush of the buffer
  text_flushed : {reply : Result (Unit {0}) Error} {new : EncoderWriter W S} (mid : EncoderWriter W S) → LastPut I old mid
      → FlushOf B (encoder_writer mid) reply (encoder_writer new) → is_closed new ≡ true → unfinished new ≡ []
      → FinishesText I B old reply new

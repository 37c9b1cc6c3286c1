-- What a decoder holds, tells and gives. I are the ghost members of the reader below.
use Rattle.std.specs.Prelude.{◌≡◌, ℕ, ◌+◌, ◌*◌, ◌/◌, ◌<◌, ◌≤◌, nat_lt, Bool, true, false, List, [], ◌∷◌, ◌++◌, length, take, drop, Option}
use Rattle.std.specs.{Prelude.{Result, Ok, Err}, Option.{option_map}}
use Rattle.base64.specs.{declared.engine.general_purpose.GeneralPurpose.{GeneralPurpose}, GeneralPurpose.{decode_of}}
use Rattle.no_std_io2.specs.{declared.io.Error.{Error}, Events.{Event, fails, events_of, event_bytes}, Calls.{ReadCall, Gave}}
use Rattle.no_std_io2.specs.{Takes.{ReaderState, Takes, to_come, IsAtEnd, Reader, tells, answered}, inner.Buffer.{AsksOn}}
use Rattle.no_std_io2.specs.inner.Reads.{GathersTo, Reads}
use Rattle.base64_stream.specs.{declared.decoder.DecoderReader.{DecoderReader}, Held.{text_items, waiting_items}}
use Rattle.base64_stream.specs.Decoding.{decoded_events, decoded_group}

module _ {R : Type 0} where
  -- the reader below
  abbrev pub decoder_inner : DecoderReader R → R
  decoder_inner r = r.inner

  -- the engine
  abbrev pub decoder_engine : DecoderReader R → GeneralPurpose
  decoder_engine r = r.engine

  -- the characters that were read and not decoded yet
  abbrev pub decoder_text : DecoderReader R → List ℕ
  decoder_text r = text_items r.text

  -- the decoded bytes that wait
  abbrev pub decoder_waiting : DecoderReader R → List ℕ
  decoder_waiting r = waiting_items r.waiting

  -- a group with padding has come
  abbrev pub decoder_closed : DecoderReader R → Bool
  decoder_closed r = r.closed

  -- what it gives if the reader below gives these events, and no more
  abbrev pub decoder_gives : DecoderReader R → List Event → List Event
  decoder_gives r E = events_of (decoder_waiting r) ++ decoded_events r.engine r.closed [] (events_of (decoder_text r) ++ E)

  -- what it tells: the decoding of what the reader below tells
  abbrev pub decoder_events : (R → ReaderState) → DecoderReader R → Option (List Event)
  decoder_events tells r = option_map (decoder_gives r) (to_come (tells (decoder_inner r)))

  -- its turns: at most 192 bytes wait, and each decoding takes some characters
  abbrev pub decoder_turns : (R → ℕ) → DecoderReader R → ℕ
  decoder_turns turns r = 193 * (257 * turns r.inner + length (decoder_text r)) + length (decoder_waiting r)

  -- the reader below gave these events, and is now this
  pub record TakesText (I : Reader R) (old : DecoderReader R) (taken : List Event) (below : R) : Type 0 where
    pub takes : Takes (tells I (decoder_inner old)) taken (tells I below)
    pub how : Result Bool Error
    pub ends : GathersTo taken how (tells I below)
    -- by reads into all the room behind the text, of 256 characters, while it had fewer than four
    pub reads : Reads I (AsksOn 256 4 (decoder_text old)) (decoder_inner old) (event_bytes taken) how below

  -- From old to new it gave these events. The reader below gave `taken`, of which they are the decoding.
  pub data Decodes (I : Reader R) (old : DecoderReader R) (given : List Event) (new : DecoderReader R) : Type 0 where
    -- whatever comes next
    goes_on : (taken : List Event) → TakesText I old taken (decoder_inner new)
        → ((E : List Event) → decoder_gives old (taken ++ E) ≡ given ++ decoder_gives new E) → Decodes I old given new
    -- the end came in the middle of a group
    cut_off : (taken : List Event) → TakesText I old taken (decoder_inner new)
        → IsAtEnd (tells I (decoder_inner new)) → decoder_gives old taken ≡ given ++ decoder_gives new [] → Decodes I old given new

  -- a read gives the decoding of what it took
  abbrev pub DecoderMay : Reader R → DecoderReader R → ReadCall → DecoderReader R → Type 0
  DecoderMay I old (Gave room answer) new = Decodes I old (answered answer) new
  DecoderMay I old _ new = ⊥

  -- the first n characters of the text are a group that is refused, and nothing has changed; or all of them were decoded at once, and their
  -- bytes wait
  abbrev pub DecodesFront : ℕ → DecoderReader R → Bool → DecoderReader R → Type 0
  DecodesFront n old false new = (decoded_group old.engine old.closed (take n (decoder_text old)) ≡ [])
      × (decoder_waiting new ≡ []) × (new.engine ≡ old.engine) × (new.closed ≡ old.closed) × (new.inner ≡ old.inner)
      × (new.text ≡ old.text)
  DecodesFront n old true new = (old.closed ≡ false)
      × (decode_of old.engine (take n (decoder_text old)) ≡ Ok (decoder_waiting new)) × (new.engine ≡ old.engine)
      × (new.closed ≡ nat_lt (length (decoder_waiting new)) ((n + 3) / 4 * 3)) × (new.inner ≡ old.inner)
      × (decoder_text new ≡ drop n (decoder_text old))

  -- some bytes wait, or the end has come; or an error was given
  abbrev pub FillsWaiting : Reader R → DecoderReader R → Result (Unit {0}) Error → DecoderReader R → Type 0
  FillsWaiting I old (Ok u) new = Decodes I old [] new × (decoder_turns I.turns new ≤ decoder_turns I.turns old)
      × (decoder_waiting new ≡ [] → IsAtEnd (tells I (decoder_inner new)) × (decoder_text new ≡ []))
  FillsWaiting I old (Err e) new = Decodes I old (fails e ∷ []) new × (decoder_turns I.turns new < decoder_turns I.turns old)

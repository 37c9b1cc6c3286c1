-- What an encoder will have passed on, one call after another.
use Rattle.no_std_io2.proofs.Words.{common_steps, ◌≡◌, ℕ, ◌+◌, ◌%◌, ◌≤◌, List, [], ◌∷◌, ◌++◌, length, take, true, ◌≢◌, Result, Ok, Err}
use Rattle.no_std_io2.proofs.Words.{IfOk, OnOk, refl, sym, ap, ◌∙◌, arith, inl, inr, append_assoc, append-nil, length-append}
use Rattle.no_std_io2.proofs.Words.{length-take-le, Writer, Moves, writer_told, error_kind, Vec, WriterState, told_out}
use Rattle.no_std_io2.{proofs.CallsAdd.{write_law, flush_law, err_turns, zero_none, Joins}, specs.declared.io.Error.{Error}}
use Rattle.no_std_io2.specs.{declared.io.{ErrorKind.{ErrorKind}, BufWriter.{BufWriter}}, inner.Kinds.{is_interruption}}
use Rattle.no_std_io2.specs.{Write.{CallAdds, WriteLaw, FlushLaw, accepted_of, write_mishap}, Moves.{call_mishap}}
use Rattle.std.{proofs.Common.{count_by, take_all, Global}, specs.Prelude.{OnErr}}
use Rattle.base64.{specs.GeneralPurpose.{encode_of}, proofs.EngineFacts.{encode_of-append, encode_of-nil}}
use Rattle.base64_stream.specs.{declared.encoder.EncoderWriter.{EncoderWriter}, Finish.{HasFinished, LastPut, SaysClosed}}
use Rattle.base64_stream.specs.Encoder.{Encodes64, KeepsGroup, PutsText, encoder_accepted, encoder_engine, encoder_held, encoder_inner}
use Rattle.base64_stream.specs.Encoder.{encoder_told, encoder_writer, is_closed, passed_on, told_below, unfinished, will_have}

module _ {W : Type 0} {S : ℕ} (I : Writer W) where
  -- nothing of the state has changed
  pub adds_nothing : (w : EncoderWriter W S) → Encodes64 I.told w [] w
  adds_nothing w = λ rest. refl

  -- bytes that do not make the group whole are kept
  pub adds_kept : (old new : EncoderWriter W S) (x : List ℕ) → unfinished new ≡ unfinished old ++ x
      → encoder_writer new ≡ encoder_writer old → encoder_engine new ≡ encoder_engine old → Encodes64 I.told old x new
  adds_kept old new x group same engine = grind (arith, common_steps, append_assoc)

  -- whole groups were put into the buffer
  pub adds_put : (old new : EncoderWriter W S) (x : List ℕ) → length (unfinished old ++ x) % 3 ≡ 0
      → PutsText I (encode_of (encoder_engine old) (unfinished old ++ x)) old (Ok tt) new → unfinished new ≡ []
      → encoder_engine new ≡ encoder_engine old → Encodes64 I.told old x new
  adds_put old new x whole puts none engine = λ rest.
      let text = encode_of (encoder_engine old) (unfinished old ++ x) in
      let split = encode_of-append (encoder_engine old) (unfinished old ++ x) rest whole in
      let order = ap (λ l. encode_of (encoder_engine old) l) (append_assoc (unfinished old) x rest) in
      rw (none, engine) (
      ap (λ l. l ++ encode_of (encoder_engine old) rest) puts.moves.bytes
      ∙ append_assoc (passed_on I.told old) text (encode_of (encoder_engine old) rest)
      ∙ ap (λ l. passed_on I.told old ++ l) (sym split ∙ order)
      )

  -- the buffer sent some of its text, and nothing else has changed
  pub adds_sent : (old new : EncoderWriter W S) (happened : List ErrorKind)
      → Moves (writer_told I.told (encoder_writer old)) [] happened (writer_told I.told (encoder_writer new))
      → KeepsGroup old new → Encodes64 I.told old [] new
  adds_sent old new happened moves keeps = λ rest.
      rw (keeps.0, keeps.3) (ap (λ l. l ++ encode_of (encoder_engine old) (unfinished old ++ rest))
      (moves.bytes ∙ append-nil (passed_on I.told old)))

  -- the law of `write` of an encoder
  pub write_of : {old new : EncoderWriter W S} {x : List ℕ} {reply : Result ℕ Error} → IfOk reply (λ n. n ≤ length x)
      → encoder_accepted new ≡ encoder_accepted old ++ accepted_of reply x
      → (I.told (encoder_inner new)).turns + count_by is_interruption (write_mishap reply x) ≤ (I.told (encoder_inner old)).turns
      → Encodes64 I.told old (accepted_of reply x) new
      → WriteLaw (encoder_told I.told) (λ _. ⊥) (CallAdds (Encodes64 I.told)) old x reply new
  write_of bound more turns adds = write_law {Adds = Encodes64 I.told} encoder_accepted (told_below I.told) bound more (tt, turns) adds

-- two lists are empty if they are joined to nothing
both_nil : (xs ys : List ℕ) → xs ++ ys ≡ [] → (xs ≡ []) × (ys ≡ [])
both_nil [] ys is = (refl, is)
both_nil (x ∷ xs) ys is = cc is

module _ {W : Type 0} {S : ℕ} (I : Writer W) where
  -- with no unfinished group the device will have what was passed on
  no_rest : (w : EncoderWriter W S) → unfinished w ≡ [] → will_have I.told w [] ≡ passed_on I.told w
  no_rest w none = grind (arith, common_steps, encode_of-nil, append-nil)

  -- the last group is in the buffer: the device will have the same
  pub last_keeps : (old mid : EncoderWriter W S) → LastPut I old mid → unfinished mid ≡ []
      → will_have I.told mid [] ≡ will_have I.told old []
  last_keeps old mid (inl (none, same)) empty =
      let passed = ap (λ (b : BufWriter W S). (writer_told I.told b).out ++ (writer_told I.told b).held) same in
      no_rest mid empty ∙ passed ∙ sym (no_rest old none)
  last_keeps old mid (inr (some, puts)) empty =
      no_rest mid empty ∙ puts.moves.bytes
      ∙ ap (λ l. passed_on I.told old ++ encode_of (encoder_engine old) l) (sym (append-nil (unfinished old)))

  -- all was sent: the device has it
  pub has_finished : (old mid new : EncoderWriter W S) → LastPut I old mid → unfinished mid ≡ [] → KeepsGroup mid new
      → {happened : List ErrorKind} → Moves (writer_told I.told (encoder_writer mid)) [] happened (writer_told I.told (encoder_writer new))
      → (writer_told I.told (encoder_writer new)).held ≡ [] → is_closed mid ≡ true → HasFinished I.told old new
  has_finished old mid new last empty keeps {happened} moves all closed =
      let none : unfinished new ≡ [] = keeps.0 ∙ empty in
      let same = adds_sent I mid new happened moves keeps [] ∙ last_keeps old mid last empty in
      let out : passed_on I.told new ≡ (I.told (encoder_inner new)).out =
      ap (λ l. (I.told (encoder_inner new)).out ++ l) all ∙ append-nil _ in
      let parts = both_nil (I.told (encoder_inner new)).held (encoder_held new) all in
      (sym out ∙ sym (no_rest new none) ∙ same, parts.0, parts.1, none, keeps.1 ∙ closed)

  -- the law of a `write` that was refused,
  pub law_refused : (w : EncoderWriter W S) (x : List ℕ) {e : Error} → SaysClosed e
      → WriteLaw (encoder_told I.told) (λ _. ⊥) (CallAdds (Encodes64 I.told)) w x (Err e) w
  law_refused w x {e} says = write_of I {reply = Err e} tt (sym (append-nil (encoder_accepted w)))
      (err_turns _ (error_kind e) (ap is_interruption says.0)) (adds_nothing I w)

  -- of one whose bytes were kept,
  pub law_kept : (old new : EncoderWriter W S) (x : List ℕ) → unfinished new ≡ unfinished old ++ x → encoder_writer new ≡ encoder_writer old
      → encoder_engine new ≡ encoder_engine old → encoder_accepted new ≡ encoder_accepted old ++ x
      → WriteLaw (encoder_told I.told) (λ _. ⊥) (CallAdds (Encodes64 I.told)) old x (Ok (length x)) new
  law_kept old new x group same engine accepted = grind (arith, common_steps, take_all, write_of, zero_none, adds_kept)

  -- of one that put whole groups into the buffer,
  pub law_put : (old new : EncoderWriter W S) (x : List ℕ) (n : ℕ) → n ≤ length x → length (unfinished old ++ take n x) % 3 ≡ 0
      → PutsText I (encode_of (encoder_engine old) (unfinished old ++ take n x)) old (Ok tt) new → unfinished new ≡ []
      → encoder_engine new ≡ encoder_engine old → encoder_accepted new ≡ encoder_accepted old ++ take n x
      → WriteLaw (encoder_told I.told) (λ _. ⊥) (CallAdds (Encodes64 I.told)) old x (Ok n) new
  law_put old new x n within whole puts none engine accepted =
      write_of I {reply = Ok n} within accepted (omega (arith, puts.moves.turns, zero_none n x))
      (adds_put I old new (take n x) whole puts none engine)

  -- and of one that failed
  pub law_failed : (old new : EncoderWriter W S) (x : List ℕ) {e : Error} {text : List ℕ} → PutsText I text old (Err e) new
      → KeepsGroup old new → WriteLaw (encoder_told I.told) (λ _. ⊥) (CallAdds (Encodes64 I.told)) old x (Err e) new
  law_failed old new x {e} puts keeps =
      write_of I {reply = Err e} tt (keeps.2 ∙ sym (append-nil (encoder_accepted old))) puts.moves.turns
      (adds_sent I old new (error_kind e ∷ []) puts.moves keeps)

  -- the law of a `flush`
  pub law_flush : (old new : EncoderWriter W S) {reply : Result (Unit {0}) Error}
      → Moves (writer_told I.told (encoder_writer old)) [] (call_mishap reply) (writer_told I.told (encoder_writer new))
      → KeepsGroup old new → FlushLaw (encoder_told I.told) (λ _. ⊥) (CallAdds (Encodes64 I.told)) old reply new
  law_flush old new moves keeps =
      flush_law {Adds = Encodes64 I.told} encoder_accepted (told_below I.told) keeps.2 (tt, moves.turns) (adds_sent I old new _ moves keeps)

  -- how `close` ended, if there was a last group
  pub last_put : (old new : EncoderWriter W S) (reply : Result (Unit {0}) Error) → unfinished old ≢ []
      → PutsText I (encode_of (encoder_engine old) (unfinished old)) old reply new
      → OnOk reply ((is_closed new ≡ true) × (unfinished new ≡ []))
      → OnOk reply (LastPut I old new × (is_closed new ≡ true) × (unfinished new ≡ []))
  last_put old new (Ok u) some puts rest = (inr (some, puts), rest.0, rest.1)
  last_put old new (Err e) some puts rest = tt

  pub last_kept : (old new : EncoderWriter W S) (reply : Result (Unit {0}) Error) → unfinished old ≢ []
      → PutsText I (encode_of (encoder_engine old) (unfinished old)) old reply new → OnErr reply (KeepsGroup old new)
      → OnErr reply ((unfinished old ≢ []) × KeepsGroup old new
      × PutsText I (encode_of (encoder_engine old) (unfinished old)) old reply new)
  last_kept old new (Ok u) some puts keeps = tt
  last_kept old new (Err e) some puts keeps = (some, keeps, puts)

  -- after `Ok` of the flush the device has it
  pub finished_if : (old mid new : EncoderWriter W S) (reply : Result (Unit {0}) Error) → LastPut I old mid → unfinished mid ≡ []
      → KeepsGroup mid new
      → Moves (writer_told I.told (encoder_writer mid)) [] (call_mishap reply) (writer_told I.told (encoder_writer new))
      → OnOk reply ((writer_told I.told (encoder_writer new)).held ≡ []) → is_closed mid ≡ true → OnOk reply (HasFinished I.told old new)
  finished_if old mid new (Ok u) last empty keeps moves all closed = has_finished old mid new last empty keeps moves all closed
  finished_if old mid new (Err e) last empty keeps moves all closed = tt

-- a number of bytes that make whole groups with others
pub whole_of : (u x : List ℕ) (n : ℕ) → n ≤ length x → (length u + n) % 3 ≡ 0 → length (u ++ take n x) % 3 ≡ 0
whole_of u x n within whole = rw (length-append u (take n x), length-take-le n x within) whole

-- what was accepted one after another is encoded joined
pub encodes64_join : {W : Type 0} {S : ℕ} (told : W → WriterState) → Joins {W = EncoderWriter W S} (Encodes64 told)
encodes64_join told = record {
  none = λ a rest. refl;
  more = λ a b c x y first next rest. next rest ∙ first (y ++ rest) ∙ ap (will_have told a) (sym (append_assoc x y rest));
}

-- a new encoder over an empty vector will have the encoding of what comes
pub starts : {S : ℕ} (w : EncoderWriter (Vec ℕ Global) S) (x : List ℕ) → (encoder_inner w).items ≡ [] → encoder_held w ≡ []
    → unfinished w ≡ [] → will_have (λ v. told_out v.items) w x ≡ encode_of (encoder_engine w) x
starts w x out waits none = grind (arith, common_steps)

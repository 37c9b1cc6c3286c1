-- The calls of a buffered writer, by its steps.
use Rattle.no_std_io2.proofs.Words.{TakesAll, CallOf, Writer, WriterState, Moves, MovesFront, WriteCall, Made, ByCalls, call_mishap, Wrote}
use Rattle.no_std_io2.proofs.Words.{Flushed, AllCalls, calls_for, no_write, charges, [], ◌≡◌, ◌+◌, ℕ, ◌<◌, ◌≤◌, List, ◌∷◌, ◌++◌, length}
use Rattle.no_std_io2.proofs.Words.{Result, Ok, OnOk, IfOk, refl, subst, arith, le_refl, append-nil, if◌then◌else◌, nat_lt, inl, inr}
use Rattle.no_std_io2.proofs.Words.{common_steps, nil_from_length, cases_lt, nat_tests, first_stops, first_goes_on, Stepped, TakesStep}
use Rattle.no_std_io2.proofs.Words.{sender_inner, sender_buffer, SingleCall, SendCalls, RoomCalls, Buffered, WriteCalls, WriteAllCalls}
use Rattle.no_std_io2.proofs.Words.{FlushCalls, writing_calls, buffer_after, Store, KeepsContent, Err, IsOk, Option, with_buffer}
use Rattle.no_std_io2.proofs.Words.{length-append, error_kind, IsFault, writer_inner, writer_buffer, writer_told}
use Rattle.no_std_io2.proofs.BufWriterLemmas.{Moves-kept, Moves-emptied, MovesFront-emptied, no_ok, then_goes_on, then_does, effect_by}
use Rattle.no_std_io2.proofs.BufWriterLemmas.{effect_of, StepEffect, Effect, Always, Exactly, Emptied, Sending, StepsJoin, then_stops}
use Rattle.no_std_io2.specs.{declared.buffered.buf_writer.BufWriter.{BufWriter}, BufWriter.{Puts, Unwraps}, inner.BufWriter.{PutCalls}}
use Rattle.no_std_io2.specs.inner.BufWriter.{WithNothingHeld, room_calls, Buffers, BuffersAll, store_unheld, into_inner_error_writer}
use Rattle.no_std_io2.specs.{inner.{BufWriter.{into_inner_error_cause}, BufferSeeks.{SeeksSent}}, declared.buffered.sender.Sender.{Sender}}
use Rattle.no_std_io2.specs.{inner.BufferSeeks.{sending_failed}, declared.buffered.into_inner_error.IntoInnerError.{IntoInnerError}}
use Rattle.no_std_io2_base.specs.{declared.error.Error.{Error}, Errors.{IsNoInterruption}, Write.{accepted_of, write_mishap}}
use Rattle.no_std_io2_base.specs.{declared.traits.seek.SeekFrom.{SeekFrom}, inner.Seek.{IsPosition}, Seek.{Seeker}}
use Rattle.no_std_io2_base.proofs.MovesLemmas.{IsFront-refl, Moves-then, zero_write-whole, writes_fault, writes_sends, all_calls}
use Rattle.no_std_io2_base.proofs.MovesLemmas.{call_steady, writes_count, all_count, Moves-steady, after_ok, writes_left, writes_idle}
use Rattle.no_std_io2_base.proofs.CallsLemmas.{by_are, by_call, made_split, writes_whole}
use Rattle.std.proofs.{Common.{take_all, nat_le, eq-zero-or-pos}, lemmas.Result.{on_ok_weaker}}

-- What the steps of a buffered writer do, and what follows for its calls. For `Sender` and `BufWriter`, and for counts of calls.

-- in front of fewer than S bytes there is room then,
pub room_enough : (S n : ℕ) {held left : List ℕ} {C : List WriteCall} → n < S → RoomCalls S n held C (Ok tt) left → length left + n ≤ S
room_enough S n short way = grind (arith, common_steps, writes_whole)

-- and in front of S bytes and more nothing is held
pub room_none : (S n : ℕ) {held left : List ℕ} {C : List WriteCall} → S ≤ n → RoomCalls S n held C (Ok tt) left → left ≡ []
room_none S n {held = held} long way = grind (arith, common_steps, nil_from_length, writes_whole)

module _ {W : Type 0} {I : Writer W} {S : ℕ} where
  -- there is room beside what is held,
  pub room_kept : (n : ℕ) {held : List ℕ} {a : W} → length held + n ≤ S → Stepped I (RoomCalls S n) a held (Ok tt) held a
  room_kept n room = record { calls = []; made = refl; are = inl (room, refl, refl, refl) }

  -- or nothing is held
  room_empty : (n : ℕ) {held : List ℕ} {a : W} → held ≡ [] → Stepped I (RoomCalls S n) a held (Ok tt) held a
  room_empty n {held} empty = grind (arith, common_steps, no_write, room_kept, cases_lt)

  module _ {A : Type 0} (x : List ℕ) {v : A} (past : List WriteCall → Result A Error → Type 0) where
    -- x is held after the held bytes,
    pub put_beside : {held left : List ℕ} {a b : W} → length x < S → b ≡ a → left ≡ held ++ x
        → Stepped I (PutCalls S x v past) a held (Ok v) left b
    put_beside short same put = record { calls = []; made = same; are = inl (short, refl, refl, put) }

    -- or goes past it
    pub put_past : {held left : List ℕ} {reply : Result A Error} {a b : W} → S ≤ length x → held ≡ [] → left ≡ []
        → ByCalls (CallOf I) a (λ C. past C reply) b → Stepped I (PutCalls S x v past) a held reply left b
    put_past long none empty calls = by_are calls (λ C is. inr (long, (none, empty, is)))

-- A record of two parts that is written whole, or not at all.
module _ {W : Type 0} {S : ℕ} (I : Writer W) {old : BufWriter W S} {n : ℕ} (head tail : List ℕ) (is : n ≡ length head + length tail) where
  -- no room could be made for a record
  pub whole_refused : {new : BufWriter W S} (e : Error) → TakesStep I writer_inner writer_buffer (RoomCalls S n) old (Err e) new
      → Moves (writer_told I.told old) [] (error_kind e ∷ []) (writer_told I.told new) → IsFault e
      → Puts I writer_inner writer_buffer S (head ++ tail) old (Err e) new
  whole_refused {new} e way moves fault = grind (arith, common_steps, length-append, then_stops)

  -- there is room, and both parts of the record are held
  pub whole_held : (mid new : BufWriter W S) → n < S → TakesStep I writer_inner writer_buffer (RoomCalls S n) old (Ok tt) mid
      → Moves (writer_told I.told old) [] [] (writer_told I.told mid) → writer_inner new ≡ writer_inner mid
      → writer_buffer new ≡ (writer_buffer mid ++ head) ++ tail → Puts I writer_inner writer_buffer S (head ++ tail) old (Ok tt) new
  whole_held mid new short way moves same put =
      grind (arith, common_steps, writer_buffer, Moves-then, Moves-kept, writer_inner, then_goes_on, length-append, put_beside)

-- a `write_all` of nothing, if nothing is held, makes no call
pub nothing_put : {W : Type 0} {I : Writer W} (S : ℕ) (a : W) → Stepped I (WriteAllCalls S []) a [] (Ok tt) [] a
nothing_put S a = elim (eq-zero-or-pos S) [
  | inl zero ↦
      then_goes_on _ (room_kept 0 (omega arith)) (put_past [] (λ C. AllCalls C []) (omega (arith, zero)) refl refl
      (record { calls = []; made = refl; are = inr ([], no_write) }))
  | inr some ↦ then_goes_on _ (room_kept 0 (omega arith)) (put_beside [] (λ C. AllCalls C []) some refl refl)
]

-- past a buffer with nothing held
pub buffered_past : {W A : Type 0} {S : ℕ} {I : Writer W} {old mid : Sender W S} {inner : W} (x : List ℕ) (v : A)
    (past : List WriteCall → Result A Error → Type 0) {reply : Result A Error} → mid ≡ old → sender_buffer mid ≡ [] → S ≤ length x
    → ByCalls (CallOf I) (sender_inner mid) (λ C. past C reply) inner
    → TakesStep I sender_inner sender_buffer (Buffered S x v past) old reply (record mid { inner = inner })
buffered_past {S} {I} {mid = mid} {inner = inner} x v past {reply = reply} same none long calls =
    subst (λ w. TakesStep I sender_inner sender_buffer (Buffered S x v past) w reply (record mid { inner = inner })) same
    (then_goes_on _ (room_empty (length x) none) (put_past x past long none none calls))

-- one call
pub one_made : {W : Type 0} {I : Writer W} (call : WriteCall) {a b : W} → CallOf I a call b → ByCalls (CallOf I) a (λ C. C ≡ call ∷ []) b
one_made call law = by_call call law refl

-- if both fit, x is held and there is no inner call
pub buffered_fits : {A : Type 0} (S : ℕ) (x : List ℕ) (v : A) (past : List WriteCall → Result A Error → Type 0) {held left : List ℕ}
    {C : List WriteCall} {reply : Result A Error} → Buffered S x v past held C reply left → length x < S → length held + length x ≤ S
    → (C ≡ []) × (reply ≡ Ok v) × (left ≡ held ++ x)
buffered_fits = grind (arith, common_steps)

-- an x that is shorter than the buffer is taken whole, or an error is returned
pub write_whole : (S : ℕ) {x held left : List ℕ} {C : List WriteCall} {reply : Result ℕ Error} → WriteCalls S x held C reply left
    → length x < S → IfOk reply (λ n. n ≡ length x)
write_whole = grind (arith, common_steps)

-- what is left once n more bytes have room,
abbrev room_left : ℕ → ℕ → List ℕ → List ℕ
room_left S n held = if nat_le (length held + n) S then held else []

-- and after x was put there
abbrev put_left : ℕ → List ℕ → List ℕ → List ℕ
put_left S x held = if nat_lt (length x) S then held ++ x else []

-- bytes that are held need no call, and bytes that go past the buffer need n
abbrev past_calls : ℕ → ℕ → ℕ → ℕ
past_calls S len n = if nat_le S len then n else 0

-- how many inner calls a `write_all` makes, over an inner writer that takes all
abbrev pub writing_all_calls : ℕ → List ℕ → List ℕ → ℕ
writing_all_calls S x held = room_calls S held (length x) + past_calls S (length x) (calls_for x)

-- a `flush` accepts no byte
abbrev pub Flushing : Effect (Unit {0})
Flushing old reply new = Moves old [] (call_mishap reply) new

-- it may follow a sending,
flushing_joins : StepsJoin Sending Flushing Flushing
flushing_joins = record { first_fails = λ s t e f. f.1; joins = λ s m t r f g. Moves-then {k = []} f.1 g }

-- a `write` accepts the bytes that its result reports
abbrev pub Writing : List ℕ → Effect ℕ
Writing x old reply new = Moves old (accepted_of reply x) (write_mishap reply x) new

-- so may it,
pub writing_joins : (x : List ℕ) → StepsJoin Sending (Writing x) (Writing x)
writing_joins x = record { first_fails = λ s t e f. f.1; joins = λ s m t r f g. Moves-then {k = []} f.1 g }

-- a `write_all` accepts some front of x, all of it after `Ok`, and returns no interruption
abbrev pub WritingAll : List ℕ → Effect (Unit {0})
WritingAll x old reply new = IsNoInterruption reply × MovesFront old x reply new

-- and so may it
pub writing_all_joins : (x : List ℕ) → StepsJoin Sending (WritingAll x) (WritingAll x)
writing_all_joins x = record {
  first_fails = λ s t e f. (f.0, record { accepted = []; front = (x, refl); whole = tt; moves = f.1 });
  joins = λ s m t r f g.
      let all = g.1 in
      (g.0, record { accepted = all.accepted; front = all.front; whole = all.whole; moves = Moves-then {k = []} f.1 all.moves });
}

module _ {W : Type 0} (I : Writer W) where
  -- the one call that was made
  pub one_inner_call : {call : WriteCall} {C : List WriteCall} (a b : W) → C ≡ call ∷ [] → Made (CallOf I) a C b → CallOf I a call b
  one_inner_call {call} a b is made = grind (arith, common_steps)

  -- what a sending does,
  pub send_does : Always I SendCalls Sending Emptied calls_for
  send_does a b held left C reply sends made = record {
    told = (writes_fault sends, let sent = writes_sends I sends a b made in grind (arith, common_steps));
    leaves = writes_whole sends;
    counts = writes_count I sends a b made;
  }

  -- a step without a call,
  pub kept_does : {C : List WriteCall} {reply : Result (Unit {0}) Error} {held left : List ℕ} (F : List ℕ → List ℕ → Type 0)
      (n : List ℕ → ℕ) (a b : W) → C ≡ [] → reply ≡ Ok tt → left ≡ held → F held held → n held ≡ 0 → Made (CallOf I) a C b
      → StepEffect I Sending F n a held C reply left b
  kept_does F n a b is ok same this none made = grind (arith, common_steps)

  -- one that makes room for n more bytes,
  pub room_does : (S n : ℕ) → Always I (RoomCalls S n) Sending (Exactly (room_left S n)) (λ held. room_calls S held n)
  room_does S n a b held left C reply (inl kept) made =
      kept_does (Exactly (room_left S n)) (λ held. room_calls S held n) a b kept.1 kept.2 kept.3 (grind (arith, nat_tests, kept.0))
      (grind (arith, nat_tests, kept.0)) made
  room_does S n a b held left C reply (inr sent) made =
      let sends = effect_by send_does sent.1 made in record {
        told = sends.told;
        leaves = grind (arith, common_steps, on_ok_weaker, sends.leaves, sent.0);
        counts = λ t. grind (arith, common_steps, sends.counts t, sent.0);
      }

  module _ {A : Type 0} (S : ℕ) (x : List ℕ) (v : A) (past : List WriteCall → Result A Error → Type 0) {R : Effect A} {m : ℕ} where
    module _ (hold : (s t : WriterState) → Moves s x [] t → R s (Ok v) t) (gone : Always I (WithNothingHeld past) R Emptied (λ _. m)) where
      -- one that holds x or passes it on,
      put_does : Always I (PutCalls S x v past) R (Exactly (put_left S x)) (λ _. past_calls S (length x) m)
      put_does a b held left C reply (inl kept) made =
          let same = subst (λ K. Made (CallOf I) a K b) kept.1 made in record {
            told = rw kept.2 (hold _ _ (Moves-kept I.told a b held left x same kept.3));
            leaves = grind (arith, common_steps, kept.3, kept.0);
            counts = λ t. grind (arith, nat_tests, common_steps, same, kept.0, kept.1, kept.2);
          }
      put_does a b held left C reply (inr passed) made =
          let past = effect_by gone passed.1 made in record {
            told = past.told;
            leaves = grind (arith, common_steps, past.leaves, passed.0);
            counts = λ t. grind (arith, common_steps, past.counts t, passed.0);
          }

      -- and both: x goes through the buffer
      buffered_does : StepsJoin Sending R R → Always I (Buffered S x v past) R (Exactly (λ held. buffer_after S held x))
          (λ held. room_calls S held (length x) + past_calls S (length x) m)
      buffered_does follows a b held left C reply write made =
          let both = effect_by
          (then_does (RoomCalls S (length x)) (PutCalls S x v past) follows (room_does S (length x)) put_does) write made in
          record { told = both.told; leaves = grind (arith, common_steps, on_ok_weaker, both.leaves); counts = both.counts }

  -- `write(x)`,
  pub write_does : (S : ℕ) (x : List ℕ)
      → Always I (WriteCalls S x) (Writing x) (Exactly (λ held. buffer_after S held x)) (λ held. writing_calls S held x)
  write_does S x = buffered_does S x (length x) (SingleCall (Wrote x))
      (λ s t m. rw (take_all _ x (le_refl (length x)), zero_write-whole x) m) passed (writing_joins x)
    where
      passed : Always I (WithNothingHeld (SingleCall (Wrote x))) (Writing x) Emptied (λ _. 1)
      passed a b held left C reply gone made = grind (arith, common_steps, one_inner_call, Moves-emptied, charges)

  -- `write_all(x)`
  pub write_all_does : (S : ℕ) (x : List ℕ)
      → Always I (WriteAllCalls S x) (WritingAll x) (Exactly (λ held. buffer_after S held x)) (writing_all_calls S x)
  write_all_does S x = buffered_does S x tt (λ C. AllCalls C x)
      (λ s t m. (tt, record { accepted = x; front = IsFront-refl x; whole = refl; moves = m })) passed (writing_all_joins x)
    where
      passed : Always I (WithNothingHeld (λ C. AllCalls C x)) (WritingAll x) Emptied (λ _. calls_for x)
      passed a b held left C reply gone made =
          let all = all_calls I gone.2 a b made in record {
            told = (all.0, MovesFront-emptied gone.0 gone.1 all.1);
            leaves = grind (arith, common_steps, gone.1);
            counts = all_count I gone.2 a b made;
          }

  -- and `flush()`
  pub flush_does : Always I FlushCalls Flushing Emptied calls_for
  flush_does a b held left C reply flush made =
      let both = effect_by (then_does SendCalls (WithNothingHeld (SingleCall Flushed)) flushing_joins send_does passed) flush made in
      record { told = both.told; leaves = both.leaves; counts = λ t. let c = both.counts t in (c.0, c.1, omega (arith, c.2)) }
    where
      passed : Always I (WithNothingHeld (SingleCall Flushed)) Flushing Emptied (λ _. 0)
      passed a b held left C reply gone made = grind (arith, common_steps, one_inner_call, Moves-emptied, call_steady, charges)

  module _ {a b : W} {held left : List ℕ} where
    -- a `write` takes no more than it is given,
    pub write_bound : (S : ℕ) {x : List ℕ} {reply : Result ℕ Error} → Stepped I (WriteCalls S x) a held reply left b
        → IfOk reply (λ n. n ≤ length x)
    write_bound S p = grind (arith, common_steps, le_refl, made_split, one_inner_call)

    -- and all of it, over an inner writer that takes all
    pub write_takes : (S : ℕ) {x : List ℕ} {reply : Result ℕ Error} → Stepped I (WriteCalls S x) a held reply left b → TakesAll I a
        → reply ≡ Ok (length x)
    write_takes S {x} p takes = by p.are p.made
      where
        by : {C : List WriteCall} {reply : Result ℕ Error} → WriteCalls S x held C reply left → Made (CallOf I) a C b
            → reply ≡ Ok (length x)
        by (first_stops way) made = no_ok ((effect_by (room_does S (length x)) way made).counts takes).1
        by (first_goes_on {C = C} {D = D} way (inl kept)) made = kept.2
        by (first_goes_on {C = C} {D = D} way (inr gone)) made =
            let parts = made_split (CallOf I) C a D b made in
            ((one_inner_call parts.0 b gone.1.2 parts.2).all ((effect_by (room_does S (length x)) way parts.1).counts takes).0).1

    -- `flush` leaves nothing held, here or further in
    pub flush_empty : {reply : Result (Unit {0}) Error} → Stepped I FlushCalls a held reply left b
        → OnOk reply ((I.told b).held ++ left ≡ [])
    flush_empty p = grind (arith, common_steps, made_split, on_ok_weaker, append-nil, one_inner_call)

  module _ {B : Type 0} (inner : B → W) (buffer : B → List ℕ) (S : ℕ) {old new : B} {x : List ℕ} where
    -- the clause of `write` follows from its inner calls,
    pub buffers_of : {reply : Result ℕ Error} → TakesStep I inner buffer (WriteCalls S x) old reply new
        → Buffers I S inner buffer old x reply new
    buffers_of calls = let leaves = (effect_of (write_does S x) calls).leaves in grind
        (arith, common_steps, buffered_fits, write_whole, leaves)

    -- and that of `write_all`
    pub buffers_all_of : {reply : Result (Unit {0}) Error} → TakesStep I inner buffer (WriteAllCalls S x) old reply new
        → BuffersAll I S inner buffer old x reply new
    buffers_all_of calls = let leaves = (effect_of (write_all_does S x) calls).leaves in grind (arith, common_steps, buffered_fits, leaves)

-- The calls of a buffered writer that first send the held bytes: its seeks and `into_inner`.

-- the told store of a writer with a buffer, if the sending failed: then some bytes were held
pub store_refused : (Goes : ℕ → ℕ → ℕ → Type 0) (held : List ℕ) (s s' : Option Store) → (held ≡ [] → ⊥)
    → KeepsContent (store_unheld held s) Goes s'
store_refused Goes held s s' some = grind (arith, common_steps)

-- if all was sent, it is what a seek made of the inner writer's, which without held bytes was the same before
pub store_sought : (Goes : ℕ → ℕ → ℕ → Type 0) (held held' : List ℕ) (s s' : Option Store) → held' ≡ []
    → (held ≡ [] → KeepsContent s Goes s') → KeepsContent (store_unheld held s) Goes (store_unheld held' s')
store_sought Goes held held' s s' none seek = grind (arith, common_steps)

-- and so is its position
pub position_sought : (held : List ℕ) (s : Option Store) (reply : Result ℕ Error) → IfOk reply (IsPosition s)
    → IfOk reply (IsPosition (store_unheld held s))
position_sought held s reply at = grind (arith, common_steps)

module _ {W : Type 0} {I : Writer W} {a b : W} {held left : List ℕ} where
  -- with nothing held there was no inner call
  pub sent_idle : {reply : Result (Unit {0}) Error} → Stepped I SendCalls a held reply left b → held ≡ [] → (b ≡ a) × IsOk reply
  sent_idle calls none = let idle = writes_idle calls.are none in (subst (λ K. Made (CallOf I) a K b) idle.0 calls.made, idle.1)

  -- all was sent
  pub sends_all : Stepped I SendCalls a held (Ok tt) left b
      → Moves (with_buffer (I.told a) held) [] [] (I.told b) × Stepped I SendCalls a held (Ok tt) [] b
  sends_all calls = grind (arith, common_steps, writes_whole, writes_sends)

module _ {W B : Type 0} {I : Writer W} {inner : B → W} {buffer : B → List ℕ} {old : B} where
  -- the sending before a seek failed
  pub seek_failed : {K : Seeker W} {to : SeekFrom} {new : B} {e : Error} → TakesStep I inner buffer SendCalls old (Err e) new
      → SeeksSent I K inner buffer old to (Err e) new
  seek_failed calls = sending_failed calls (effect_of (send_does I) calls).told.1 (writes_left calls.are)

  -- after an `Ok` of a seek nothing is held
  pub seek_empties : {K : Seeker W} {to : SeekFrom} {reply : Result ℕ Error} {new : B} → SeeksSent I K inner buffer old to reply new
      → OnOk reply (buffer new ≡ [])
  seek_empties seek = grind (arith, common_steps, after_ok)

  -- `into_inner`: all was sent, and the inner writer comes back
  pub unwraps_ok : {w : W} {left : List ℕ} → Stepped I SendCalls (inner old) (buffer old) (Ok tt) left w → Unwraps I inner buffer old (Ok w)
  unwraps_ok calls = grind (arith, common_steps, sends_all, sent_idle, effect_of, send_does)

  -- or a fault came, with the writer
  pub unwraps_err : (e : IntoInnerError B)
      → TakesStep I inner buffer SendCalls old (Err (into_inner_error_cause e)) (into_inner_error_writer e)
      → Unwraps I inner buffer old (Err e)
  unwraps_err e calls =
      let done = effect_of (send_does I) calls in
      record {
        calls = calls;
        ok = tt;
        err = done.told.1;
        fault = done.told.0;
        empty = λ none. no_ok (sent_idle calls none).1;
        steady = λ none. absurd (Moves-steady none done.told.1);
        all = λ t. no_ok (done.counts t).1;
      }

-- Reads to the end, also those of a `Chain`, which goes to the end of one reader and then of another.
use Rattle.std.proofs.{lemmas.Grind.{common_steps}, Common.{◌≡◌, ℕ, ◌+◌, ◌-◌, ◌<◌, ◌≤◌, List, [], ◌++◌, Result, Ok, Err, length, take}}
use Rattle.std.proofs.Common.{drop, refl, sym, ap, ◌∙◌, arith, le_refl, le_trans, length-take, length-drop, Vec, vec_len, vec_capacity, inl}
use Rattle.std.proofs.Common.{inr, append_assoc, append-nil, take_all, OnOk, IfOk, length-append, true, false, true≢false, None, Bool, IsOk}
use Rattle.std.{proofs.Common.{IsErrAnd, length-take-le}, specs.Borrow.{Bor}}
use Rattle.no_std_io2_base.proofs.{CallsLemmas.{to_end_own}, PieceLoops.{filled_law}, ReadLoops.{some_bytes, written, take-written}}
use Rattle.no_std_io2_base.proofs.{ReadLoops.{take-written_below}, ReadsLemmas.{Reads-none, Reads-more, Reads-again, Reads-end}}
use Rattle.no_std_io2_base.proofs.{ReadsLemmas.{Reads-fault, Reads-takes}, TakesLemmas.{bytes-append, HasNoFault-append, takes_none}}
use Rattle.no_std_io2_base.proofs.TakesLemmas.{nothing_read, read_law, EndsInFault-behind, drains_ended, stays_at_end}
use Rattle.no_std_io2_base.specs.{BufRead.{FillBufLaw, AfterLoan}, Calls.{GaveAll}, Errors.{IsInterruption, IsFault, IsOutOfMemory}}
use Rattle.no_std_io2_base.specs.{Events.{Event, event_bytes, HasNoFault}, Read.{ReadLaw, ToEndLaw, ReadToEndLaw}, Reads.{Took}}
use Rattle.no_std_io2_base.specs.{Takes.{Reader, tells, ReaderState, Takes, IsAtEnd}, declared.error.Error.{Error}}
use Rattle.no_std_io2_base.specs.{declared.traits.chain.Chain.{Chain}, inner.Chain.{chain_first, chain_second, chain_is_done, chain_events}}
use Rattle.no_std_io2_base.specs.inner.{Chain.{chain_held, by_first, by_both, by_second, ChainMay}, Read.{IsRoom, no_read, least_room}}
use Rattle.no_std_io2_base.specs.inner.{Read.{without_number, FilledLaw, DrainCalls, DrainsOrStops}, Reads.{Reads}}

-- What a loop that reads to the end into a vector has done so far, and what it has done at each of its ends.

-- the bytes up to `filled` are what was taken, by reads into such room
pub record ToEndSoFar {X A : Type 0} (asks : ℕ → ℕ → Type 0) (R : Reader X) (old : X) (buf : Vec ℕ A) (filled : ℕ) (buf' : Vec ℕ A)
    (now : X) : Type 0 where
  pub within : filled ≤ vec_len buf'
  pub capacity : vec_capacity buf ≤ vec_capacity buf'
  pub given : List ℕ
  pub count : filled ≡ vec_len buf + length given
  pub shown : take filled buf'.items ≡ buf.items ++ given
  pub reads : Reads R asks old given (Ok true) now

-- Zeros were added after the filled bytes, and a read wrote `part` over them.
pub record PartWritten (filled len : ℕ) (was now part : List ℕ) : Type 0 where
  pub fits : filled + length part ≡ len
  pub some : 0 < length part
  pub kept : take filled now ≡ take filled was
  pub shown : (n : ℕ) → n ≤ length part → take (filled + n) now ≡ take filled was ++ take n part

-- as the vector and its slice say it
pub part_was_written : {filled len : ℕ} {slice items part was : List ℕ} → len ≡ length items → slice ≡ items
    → length part ≡ length (take (length slice - filled) (drop filled slice)) → take filled items ≡ take filled was
    → filled < len → PartWritten filled len was (written len filled slice items part) part
part_was_written {filled} {len} {slice} {items} {part} long is room front opened =
    grind (arith, common_steps, length-take, length-drop, take-written_below, le_refl, take-written)

-- before the first read nothing is taken
unfoldable pub to_end_none : {X A : Type 0} {asks : ℕ → ℕ → Type 0} {R : Reader X} {old : X} {buf mid : Vec ℕ A} {start : ℕ}
    → start ≡ vec_len buf → mid.items ≡ buf.items → vec_len mid ≡ vec_len buf → vec_capacity buf ≤ vec_capacity mid
    → ToEndSoFar asks R old buf start mid old
to_end_none {buf = buf} {mid} {start} is same len grown = record {
  within = omega (arith, is, len);
  capacity = grown;
  given = [];
  count = omega (arith, is);
  shown = take_all start mid.items (omega (arith, is, len, mid.ok.0)) ∙ same ∙ sym (append-nil buf.items);
  reads = Reads-none _;
}

-- there was no room for the first read, and an allocation failed
pub to_end_no_room : {X A : Type 0} {lacks : ℕ → Type 0} {R : Reader X} {old : X} {buf mid : Vec ℕ A} {e : Error} → IsOutOfMemory e
    → mid.items ≡ buf.items → vec_capacity buf ≤ vec_capacity mid → lacks 0 → ToEndLaw lacks R old buf (Err e) mid old
to_end_no_room {buf = buf} refused same grown why = record {
  taken = [];
  takes = takes_none _;
  appends = (same ∙ sym (append-nil buf.items), tt);
  ends = inr (tt, refused, why);
  capacity = grown;
  calls = record { calls = []; made = refl; are = inr (inr (refused, no_read)) };
}

-- the result with another count
abbrev pub recount : Result ℕ Error → ℕ → Result ℕ Error
recount (Ok n) k = Ok k
recount (Err e) k = Err e

pub ended_recount : (reply : Result ℕ Error) (k : ℕ) → without_number (recount reply k) ≡ without_number reply
ended_recount reply k = grind (arith, common_steps)

-- The bytes of P were appended, and then those of Q.
module _ {A : Type 0} (buf mid : Vec ℕ A) (P Q : List Event) (first : mid.items ≡ buf.items ++ event_bytes P) where
  module _ (last : Vec ℕ A) (next : last.items ≡ mid.items ++ event_bytes Q) where
    pub both_appended : last.items ≡ buf.items ++ event_bytes (P ++ Q)
    both_appended = grind (arith, common_steps, append_assoc, bytes-append)

    -- the result is their number
    pub both_counted : (reply : Result ℕ Error) (k : ℕ) → OnOk reply (k ≡ vec_len last - vec_len buf)
        → IfOk (recount reply k) (λ n. n ≡ length (event_bytes (P ++ Q)))
    both_counted (Ok n) k is =
        omega (arith, is, ap length both_appended, length-append buf.items (event_bytes (P ++ Q)), last.ok.0, buf.ok.0)
    both_counted (Err e) k is = tt

  -- and they end as Q does
  pub both_ended : (reply : Result ℕ Error) (k : ℕ) (t : ReaderState) → HasNoFault P → vec_capacity buf ≤ vec_capacity mid
      → DrainsOrStops (vec_capacity mid < vec_len mid + (length (event_bytes Q) + least_room)) Q reply t
      → DrainsOrStops (vec_capacity buf < vec_len buf + (length (event_bytes (P ++ Q)) + least_room)) (P ++ Q) (recount reply k) t
  both_ended (Ok n) k t free grown (none, end) = (HasNoFault-append P Q free none, end)
  both_ended (Err e) k t free grown (inl fault) = inl (EndsInFault-behind P Q free fault)
  both_ended (Err e) k t free grown (inr (none, refused, why)) =
      let long = ap length (bytes-append P Q) ∙ length-append (event_bytes P) (event_bytes Q) in
      let more = ap length first ∙ length-append buf.items (event_bytes P) in
      inr (HasNoFault-append P Q free none, refused, omega (arith, why, grown, more, long, buf.ok.0, mid.ok.0))

module _ {X A : Type 0} {asks : ℕ → ℕ → Type 0} {R : Reader X} {old now : X} {buf xs : Vec ℕ A} {filled : ℕ}
    (before : ToEndSoFar asks R old buf filled xs now) where
  module _ {new : X} {room part : List ℕ} (into : asks (length before.given) (length part)) where
    -- a read gave some bytes more
    unfoldable pub to_end_read : {xs' : Vec ℕ A} {n : ℕ} → ReadLaw R now room (Ok n) part new → (n ≡ 0 → ⊥)
        → PartWritten filled (vec_len xs') xs.items xs'.items part
        → vec_capacity xs ≤ vec_capacity xs' → ToEndSoFar asks R old buf (filled + n) xs' new
    to_end_read {n = n} read some w grown =
        let long = length-take-le n part read.bound in
        let more = Reads-more before.reads into (read_law (Ok n) read) (omega (arith, long, some_bytes n some)) in
        grind (arith, common_steps)

    -- a read was interrupted
    unfoldable pub to_end_interruption : {xs' : Vec ℕ A} {e : Error} → ReadLaw R now room (Err e) part new → IsInterruption e
        → PartWritten filled (vec_len xs') xs.items xs'.items part
        → vec_capacity xs ≤ vec_capacity xs' → ToEndSoFar asks R old buf filled xs' new
    to_end_interruption {e = e} read again w grown =
        grind (arith, common_steps, le_trans, Reads-again before.reads into (read_law (Err e) read) again)

-- how a `read_to_end` answers, by how its reads ended
abbrev ToEndAnswers : Type 0 → Result Bool Error → Result ℕ Error → Type 0
ToEndAnswers lacks (Ok true) reply = IsErrAnd reply IsOutOfMemory × lacks
ToEndAnswers lacks (Ok false) reply = IsOk reply
ToEndAnswers lacks (Err e) reply = reply ≡ Err e

module _ {X A : Type 0} {R : Reader X} {old now : X} {buf xs : Vec ℕ A} {filled : ℕ}
    (before : ToEndSoFar IsRoom R old buf filled xs now) where
  -- a `read_to_end`, by its reads
  to_end_law : {lacks : ℕ → Type 0} {v : Vec ℕ A} {new : X} (how : Result Bool Error) (reply : Result ℕ Error)
      → Reads R IsRoom old before.given how new → ToEndAnswers (lacks (length before.given)) how reply
      → IfOk reply (λ n. n ≡ length before.given) → v.items ≡ take filled xs.items → vec_capacity xs ≤ vec_capacity v
      → ToEndLaw lacks R old buf reply v new
  to_end_law {lacks} {new = new} how reply reads says count same grown =
      let t = Reads-takes (λ at room some. some) how reads in
      record {
        taken = t.taken;
        takes = t.takes;
        appends = (same ∙ before.shown ∙ ap (λ l. buf.items ++ l) (sym t.are), rw t.are count);
        ends = ended _ how reply t (rw t.are says);
        capacity = le_trans before.capacity grown;
        calls = record { calls = reads.calls; made = reads.made; are = rw t.are (inr (drains _ how reply reads says)) };
      }
    where
      ended : (l : Type 0) {x : List ℕ} (how : Result Bool Error) (reply : Result ℕ Error) (t : Took (tells R old) x how (tells R new))
          → ToEndAnswers l how reply → DrainsOrStops l t.taken reply (tells R new)
      ended l how reply t says = grind (arith, common_steps)

      drains : (l : Type 0) {x : List ℕ} (how : Result Bool Error) (reply : Result ℕ Error) (r : Reads R IsRoom old x how new)
          → ToEndAnswers l how reply → DrainCalls r.calls x (without_number reply)
      drains l how reply r says = let are = r.are in let fault = r.fault in grind (arith, common_steps)

  -- the room was full, and an allocation failed
  pub to_end_refused : {lacks : ℕ → Type 0} {v : Vec ℕ A} {e : Error} → IsOutOfMemory e → vec_len v ≡ filled
      → take filled v.items ≡ take filled xs.items → vec_capacity xs ≤ vec_capacity v
      → ((n : ℕ) → filled ≡ vec_len buf + n → lacks n) → ToEndLaw lacks R old buf (Err e) v now
  to_end_refused {v = v} {e} refused len front grown why = to_end_law (Ok true) (Err e) before.reads (refused, why _ before.count) tt
      (sym (take_all filled v.items (omega (arith, len, v.ok.0))) ∙ front) grown

  module _ {new : X} {room part : List ℕ} where
    -- a read met the end
    pub to_end_done : {lacks : ℕ → Type 0} {v : Vec ℕ A} {reply : Result ℕ Error} {n start : ℕ} → ReadLaw R now room reply part new
        → reply ≡ Ok n → n ≡ 0 → 0 < length part → v.items ≡ take filled xs.items → vec_capacity xs ≤ vec_capacity v
        → start ≡ vec_len buf → ToEndLaw lacks R old buf (Ok (filled - start)) v new
    to_end_done read is zero some same grown from =
        to_end_law (Ok false) (Ok _) (Reads-end before.reads some (nothing_read read is zero)) refl (omega (arith, from, before.count))
        same grown

    -- a read met a fault
    pub to_end_fault : {lacks : ℕ → Type 0} {v : Vec ℕ A} {e : Error} → ReadLaw R now room (Err e) part new → IsFault e → 0 < length part
        → v.items ≡ take filled xs.items → vec_capacity xs ≤ vec_capacity v → ToEndLaw lacks R old buf (Err e) v new
    to_end_fault {e = e} read fault some same grown =
        to_end_law (Err e) (Err e) (Reads-fault before.reads some (read_law (Err e) read) fault) refl tt same grown

-- What the two readers of a `Chain` take, the chain takes.

-- a chain, as the laws of its calls see it
abbrev pub chain_reader : {T U : Type 0} → Reader T → Reader U → Reader (Chain T U)
chain_reader R S = record {
  store = λ c. None;
  turns = λ c. R.turns (chain_first c) + S.turns (chain_second c);
  events = chain_events (tells R) (tells S);
  may = ChainMay R S;
  held = chain_held R.held S.held;
}

module _ {T U : Type 0} (R : Reader T) (S : Reader U) where
  -- the first reader alone took something
  by_first_takes : {old new : Chain T U} {P : List Event} → chain_is_done old ≡ false → new ≡ record old { first = chain_first new }
      → Takes (tells R (chain_first old)) P (tells R (chain_first new))
      → Takes (tells (chain_reader R S) old) P (tells (chain_reader R S) new)
  by_first_takes {old} {new} {P} going same takes = grind (arith, common_steps)

  -- the first took its last events, and then the second some
  by_both_takes : {old new : Chain T U} {P Q : List Event} → chain_is_done old ≡ false → chain_is_done new ≡ true
      → Takes (tells R (chain_first old)) P (tells R (chain_first new)) → IsAtEnd (tells R (chain_first new))
      → Takes (tells S (chain_second old)) Q (tells S (chain_second new))
      → Takes (tells (chain_reader R S) old) (P ++ Q) (tells (chain_reader R S) new)
  by_both_takes {old} {new} {P} {Q} going done takes end then = grind (arith, common_steps)

  -- the second alone took something
  by_second_takes : {old new : Chain T U} {P : List Event} → chain_is_done old ≡ true → new ≡ record old { second = chain_second new }
      → Takes (tells S (chain_second old)) P (tells S (chain_second new))
      → Takes (tells (chain_reader R S) old) P (tells (chain_reader R S) new)
  by_second_takes {old} {new} {P} done same takes = grind (arith, common_steps)

  -- the end of the second is the end of the chain, once the first is done
  done_ends : (c : Chain T U) → chain_is_done c ≡ true → IsAtEnd (tells S (chain_second c)) → IsAtEnd (tells (chain_reader R S) c)
  done_ends c done end = grind (arith, common_steps)

-- how it ended, of a reader that is at its end if the other is
end_of_both : (l : Type 0) (P : List Event) (t t' : ReaderState) (reply : Result ℕ Error) → (IsAtEnd t → IsAtEnd t')
    → DrainsOrStops l P reply t → DrainsOrStops l P reply t'
end_of_both l P t t' reply end stops = grind (arith, common_steps)

module _ {T U A : Type 0} (R : Reader T) (S : Reader U) {old new : Chain T U} {buf buf' : Vec ℕ A} where
  -- a `read_to_end` is one call
  to_end_call : {lacks : ℕ → Type 0} (reply : Result ℕ Error) (P : List Event)
      → ChainMay R S old (GaveAll (event_bytes P) (without_number reply)) new
      → Takes (tells (chain_reader R S) old) P (tells (chain_reader R S) new) → buf'.items ≡ buf.items ++ event_bytes P
      → IfOk reply (λ n. n ≡ length (event_bytes P)) → DrainsOrStops (lacks (length (event_bytes P))) P reply (tells (chain_reader R S) new)
      → vec_capacity buf ≤ vec_capacity buf' → ToEndLaw lacks (chain_reader R S) old buf reply buf' new
  to_end_call {lacks} reply P call takes appended count ends grown = record {
    taken = P;
    takes = takes;
    appends = (appended, count);
    ends = ends;
    capacity = grown;
    calls = to_end_own (call, (P, takes, refl, drains_ended _ P reply _ ends)) refl;
  }

  -- of the second alone
  pub end_second : (reply : Result ℕ Error) → chain_is_done old ≡ true → new ≡ record old { second = chain_second new }
      → ReadToEndLaw S (chain_second old) buf reply buf' (chain_second new) → ReadToEndLaw (chain_reader R S) old buf reply buf' new
  end_second reply done same law = to_end_call reply law.taken ([], event_bytes law.taken, refl, λ _. refl, by_second done same law.calls)
      (by_second_takes R S done same law.takes) law.appends.0 law.appends.1
      (end_of_both _ law.taken _ _ reply (done_ends R S new (ap chain_is_done same ∙ done)) law.ends) law.capacity

  -- of the first alone, which failed
  pub end_first : {e : Error} → chain_is_done old ≡ false → new ≡ record old { first = chain_first new }
      → ReadToEndLaw R (chain_first old) buf (Err e) buf' (chain_first new) → ReadToEndLaw (chain_reader R S) old buf (Err e) buf' new
  end_first {e} going same law = to_end_call (Err e) law.taken
      ([], event_bytes law.taken, refl, λ _. refl, by_first going same (refl, law.calls))
      (by_first_takes R S going same law.takes) law.appends.0 tt law.ends law.capacity

  -- of both: the first ended, and then the second went on
  pub end_both : {mid : Vec ℕ A} {n : ℕ} (reply : Result ℕ Error) (k : ℕ) → chain_is_done old ≡ false → chain_is_done new ≡ true
      → ReadToEndLaw R (chain_first old) buf (Ok n) mid (chain_first new)
      → ReadToEndLaw S (chain_second old) mid reply buf' (chain_second new) → OnOk reply (k ≡ vec_len buf' - vec_len buf)
      → ReadToEndLaw (chain_reader R S) old buf (recount reply k) buf' new
  end_both {mid} {n} reply k going done first second is =
      let P = first.taken in
      let Q = second.taken in
      let gave = first.appends.0 in
      to_end_call (recount reply k) (P ++ Q) (
        event_bytes P,
        event_bytes Q,
        bytes-append P Q,
        λ was. absurd (true≢false (sym was ∙ going)),
        by_both going done first.calls (rw (ended_recount reply k) second.calls),
      )
      (by_both_takes R S going done first.takes first.ends.1 second.takes) (both_appended buf mid P Q gave buf' second.appends.0)
      (both_counted buf mid P Q gave buf' second.appends.0 reply k is) (both_ended buf mid P Q gave reply k _ first.ends.0 first.capacity
      (end_of_both _ Q _ _ reply (done_ends R S new done) second.ends)) (le_trans first.capacity second.capacity)

-- the first reader was at its end, and then the second lent
module _ {T U : Type 0} (R : Reader T) (S : Reader U) {old new : Chain T U} where
  pub lends_second : (reply : Result (Bor (List ℕ)) Error) → chain_is_done old ≡ false → chain_is_done new ≡ true
      → FilledLaw R (chain_first old) (Ok []) (chain_first new) → FillBufLaw S (chain_second old) reply
      → AfterLoan S (chain_second old) reply (chain_second new)
      → FillBufLaw (chain_reader R S) old reply × AfterLoan (chain_reader R S) old reply new
  lends_second reply going done first second loan =
      let over = stays_at_end first.takes (first.end refl) in (
        record {
          held = λ some. absurd (no_bytes (grind (arith, common_steps)));
          front = grind (arith, common_steps);
          end = grind (arith, common_steps);
        },
        record {
          lends = grind (arith, common_steps);
          takes = by_both_takes R S going done first.takes (first.end refl) loan.takes;
          unchanged = λ some. absurd (no_bytes (grind (arith, common_steps)));
          end = λ none. done_ends R S new done (loan.end none);
          call = by_both going done (first, over) (filled_law refl second loan);
        },
      )
    where
      no_bytes : 0 < length (R.held (chain_first old)) → ⊥
      no_bytes some = omega (arith, some, let is = (first.held some).0 in let none : [] ≡ R.held (chain_first old) = cc in ap length none)

-- Reads of at most so many bytes into a vector, and what a read to the end is by them.
use Rattle.std.proofs.Common.{◌≡◌, ℕ, ◌+◌, ◌-◌, ◌<◌, ◌≤◌, min, List, ◌++◌, Result, Ok, Err, length, take, refl, sym, ◌∙◌, arith, le_trans}
use Rattle.std.proofs.Common.{Vec, vec_len, vec_capacity, inl, inr, append-nil, take_all, OnOk, length-append, length-take-le, Bool, true}
use Rattle.std.proofs.{Common.{false, IsOk, IsErrAnd, IfOk, ◌⊎◌}, lemmas.Grind.{common_steps}}
use Rattle.no_std_io2_base.specs.{declared.error.Error.{Error}, Errors.{IsInterruption, IsFault, IsOutOfMemory}, Events.{event_bytes}}
use Rattle.no_std_io2_base.specs.{Calls.{ReadCall}, Takes.{Reader, tells}, Read.{ReadLaw, ReadAtMostLaw, ReadToEndLaw}, inner.Read.{IsRoom}}
use Rattle.no_std_io2_base.specs.inner.Read.{IsRoomWithin, Gathers, no_read, and_gave, and_again, GathersUntil, least_room, AtMostCalls}
use Rattle.no_std_io2_base.specs.inner.{Read.{ToEndCalls, DrainsOrStops, without_number, EndsWithin}, Reads.{Reads}}
use Rattle.no_std_io2_base.proofs.{CallsLemmas.{by_are, by_then, to_end_then}, TakesLemmas.{bytes-append, takes_then, nothing_read}}
use Rattle.no_std_io2_base.proofs.{TakesLemmas.{read_law}, ReadsLemmas.{Reads-none, Reads-end, Reads-fault, Reads-took, Reads-nothing}}
use Rattle.no_std_io2_base.proofs.{ReadsLemmas.{TookBy}, ToEndLemmas.{ToEndSoFar, PartWritten, to_end_none, to_end_read}}
use Rattle.no_std_io2_base.proofs.ToEndLemmas.{to_end_interruption, both_appended, both_counted, both_ended, recount, ended_recount}

-- The bytes up to `filled` are what was given, `left` more may be, and the vector has room for no more than these.
pub record AtMostSoFar {X A : Type 0} (R : Reader X) (limit : ℕ) (old : X) (buf : Vec ℕ A) (filled left : ℕ) (buf' : Vec ℕ A) (now : X)
    : Type 0 where
  pub so_far : ToEndSoFar (IsRoomWithin limit) R old buf filled buf' now
  pub open so_far use *
  pub falls : left + length given ≡ limit
  pub fits : vec_len buf' ≤ filled + left

-- before the first read nothing is taken
pub at_most_none : {X A : Type 0} {R : Reader X} {limit : ℕ} {old : X} {buf mid : Vec ℕ A} {start : ℕ} → start ≡ vec_len buf
    → mid.items ≡ buf.items → vec_len mid ≡ vec_len buf → vec_capacity buf ≤ vec_capacity mid
    → AtMostSoFar R limit old buf start limit mid old
unfolding to_end_none
at_most_none is same len grown = record { so_far = to_end_none is same len grown; falls = omega arith; fits = omega (arith, is, len) }

-- how a `read_at_most` that gave x answers, by how its reads ended
abbrev AtMostAnswers : ℕ → Type 0 → List ℕ → Result Bool Error → Result ℕ Error → Type 0
AtMostAnswers limit lacks x (Ok true) reply =
    (IsOk reply × (length x ≡ limit)) ⊎ (IsErrAnd reply IsOutOfMemory × (length x < limit) × lacks)
AtMostAnswers limit lacks x (Ok false) reply = IsOk reply × (length x < limit)
AtMostAnswers limit lacks x (Err e) reply = (reply ≡ Err e) × (length x < limit)

-- a `read_at_most`, by its reads
at_most_law : {X A : Type 0} {R : Reader X} {limit : ℕ} {old new : X} {buf v : Vec ℕ A} {x : List ℕ} (how : Result Bool Error)
    (reply : Result ℕ Error) → Reads R (IsRoomWithin limit) old x how new
    → AtMostAnswers limit (vec_capacity buf < vec_len buf + min limit (length x + least_room)) x how reply → IfOk reply (λ n. n ≡ length x)
    → v.items ≡ buf.items ++ x → vec_capacity buf ≤ vec_capacity v → ReadAtMostLaw R limit old buf reply v new
at_most_law {R = R} {limit} {old} {new} {buf} {x = x} how reply reads says count shown grown =
    let t = Reads-took (λ at room into. into.0) how reads in
    record {
      taken = t.taken;
      takes = t.takes;
      within = (t.within limit (λ at room into. into.1)).0;
      appends = (rw t.are shown, rw t.are count);
      ends = ended _ how reply t (rw t.are says);
      capacity = grown;
      none = λ is. none _ is how reply says (Reads-nothing (λ at room into. omega (arith, into.0, into.1, is)) how reads);
      calls = record { calls = reads.calls; made = reads.made; are = rw t.are (made _ how reply reads says) };
    }
  where
    ended : (l : Type 0) {x : List ℕ} (how : Result Bool Error) (reply : Result ℕ Error)
        (t : TookBy (IsRoomWithin limit) (tells R old) x how (tells R new)) → AtMostAnswers limit l (event_bytes t.taken) how reply
        → EndsWithin limit l t.taken reply (tells R new)
    ended l how reply t says = grind (arith, common_steps)

    none : (l : Type 0) → limit ≡ 0 → (how : Result Bool Error) (reply : Result ℕ Error) → AtMostAnswers limit l x how reply
        → (how ≡ Ok true) × (new ≡ old) → IsOk reply × (new ≡ old)
    none l is how reply says same = grind (arith, common_steps)

    made : (l : Type 0) (how : Result Bool Error) (reply : Result ℕ Error) (r : Reads R (IsRoomWithin limit) old x how new)
        → AtMostAnswers limit l x how reply → AtMostCalls r.calls limit x (without_number reply)
    made l how reply r says = let are = r.are in let fault = r.fault in grind (arith, common_steps)

-- there was no room for the first read, and an allocation failed
pub at_most_no_room : {X A : Type 0} {R : Reader X} {limit : ℕ} {old : X} {buf mid : Vec ℕ A} {e : Error} → IsOutOfMemory e
    → mid.items ≡ buf.items → vec_capacity buf ≤ vec_capacity mid → vec_capacity buf < vec_len buf + min limit least_room
    → vec_len buf ≤ vec_capacity buf → ReadAtMostLaw R limit old buf (Err e) mid old
at_most_no_room {old = old} {buf} {e = e} refused same grown why within =
    at_most_law (Ok true) (Err e) (Reads-none old) (inr (refused, omega (arith, why, within), why)) tt
    (same ∙ sym (append-nil buf.items)) grown

module _ {X A : Type 0} {R : Reader X} {limit : ℕ} {old now : X} {buf xs : Vec ℕ A} {filled left : ℕ}
    (before : AtMostSoFar R limit old buf filled left xs now) where
  -- the limit was reached
  pub at_most_full : {v : Vec ℕ A} {start : ℕ} → left ≡ 0 → v.items ≡ take filled xs.items → vec_capacity xs ≤ vec_capacity v
      → start ≡ vec_len buf → ReadAtMostLaw R limit old buf (Ok (filled - start)) v now
  at_most_full full same grown from = at_most_law (Ok true) (Ok _) before.reads (inl (refl, omega (arith, full, before.falls)))
      (omega (arith, from, before.count)) (same ∙ before.shown) (le_trans before.capacity grown)

  -- the room was full, and an allocation failed
  pub at_most_refused : {v : Vec ℕ A} {e : Error} → IsOutOfMemory e → vec_len v ≡ filled → take filled v.items ≡ take filled xs.items
      → vec_capacity xs ≤ vec_capacity v → vec_capacity xs ≡ filled → 0 < left → ReadAtMostLaw R limit old buf (Err e) v now
  at_most_refused {v} {e} refused len front grown full more =
      at_most_law (Ok true) (Err e) before.reads (inr (
        refused,
        omega (arith, more, before.falls),
        omega (arith, full, before.capacity, before.count, before.falls, more),
      )) tt (sym (take_all filled v.items (omega (arith, len, v.ok.0))) ∙ front ∙ before.shown) (le_trans before.capacity grown)

  -- a read was made into room that ends within the limit
  into : {len : ℕ} {items part : List ℕ} → PartWritten filled len xs.items items part → len ≤ filled + left
      → IsRoomWithin limit (length before.given) (length part)
  into w most = (w.some, omega (arith, w.fits, most, before.falls))

  module _ {new : X} {room part : List ℕ} {len : ℕ} {items : List ℕ} (w : PartWritten filled len xs.items items part)
      (most : len ≤ filled + left) where
    -- a read met the end
    pub at_most_done : {v : Vec ℕ A} {reply : Result ℕ Error} {n start : ℕ} → ReadLaw R now room reply part new
        → reply ≡ Ok n → n ≡ 0 → v.items ≡ take filled xs.items → vec_capacity xs ≤ vec_capacity v
        → start ≡ vec_len buf → ReadAtMostLaw R limit old buf (Ok (filled - start)) v new
    at_most_done read is zero same grown from =
        let inside = into w most in
        at_most_law (Ok false) (Ok _) (Reads-end before.reads inside (nothing_read read is zero))
        (refl, omega (arith, inside.0, inside.1)) (omega (arith, from, before.count)) (same ∙ before.shown) (le_trans before.capacity grown)

    -- a read met a fault
    pub at_most_fault : {v : Vec ℕ A} {e : Error} → ReadLaw R now room (Err e) part new → IsFault e
        → v.items ≡ take filled xs.items → vec_capacity xs ≤ vec_capacity v → ReadAtMostLaw R limit old buf (Err e) v new
    at_most_fault {e = e} read fault same grown =
        let inside = into w most in
        at_most_law (Err e) (Err e) (Reads-fault before.reads inside (read_law (Err e) read) fault)
        (refl, omega (arith, inside.0, inside.1)) tt (same ∙ before.shown) (le_trans before.capacity grown)

  module _ {new : X} {room part : List ℕ} {xs' : Vec ℕ A} (w : PartWritten filled (vec_len xs') xs.items xs'.items part)
      (most : vec_len xs' ≤ filled + left) (grown : vec_capacity xs ≤ vec_capacity xs') where
    -- a read gave some bytes more
    pub at_most_read : {n : ℕ} → ReadLaw R now room (Ok n) part new → (n ≡ 0 → ⊥)
        → AtMostSoFar R limit old buf (filled + n) (left - n) xs' new
    unfolding to_end_read
    at_most_read {n} read some = record {
      so_far = to_end_read before.so_far (into w most) read some w grown;
      falls =
          omega (arith, before.falls, length-take-le n part read.bound, length-append before.given (take n part), w.fits, most, read.bound);
      fits = omega (arith, most, w.fits, read.bound);
    }

    -- a read was interrupted
    pub at_most_interruption : {e : Error} → ReadLaw R now room (Err e) part new → IsInterruption e
        → AtMostSoFar R limit old buf filled left xs' new
    unfolding to_end_interruption
    at_most_interruption {e} read again =
        record { so_far = to_end_interruption before.so_far (into w most) read again w grown; falls = before.falls; fits = most }

-- What a read to the end is by such a read.

-- reads into room within a limit are reads into room
pub in_room : {limit : ℕ} {C : List ReadCall} {x : List ℕ} → Gathers (IsRoomWithin limit) C x → Gathers IsRoom C x
in_room no_read = no_read
in_room (and_gave C x y room so_far into some) = and_gave C x y room (in_room so_far) into.0 some
in_room (and_again C x room e so_far into waited) = and_again C x room e (in_room so_far) into.0 waited

pub until_in_room : {limit : ℕ} {C : List ReadCall} {x : List ℕ} {answer : Result (List ℕ) Error}
    → GathersUntil (IsRoomWithin limit) C x answer → GathersUntil IsRoom C x answer
until_in_room (D, room, so_far, into, is) = (D, room, in_room so_far, into.0, is)

-- if the limit was reached, the end was not met
until_limit : {limit : ℕ} {C : List ReadCall} (x : List ℕ) {u : Unit {0}} → AtMostCalls C limit x (Ok u) → limit ≤ length x
    → Gathers IsRoom C x
until_limit x (inl (gathers, whole)) past = in_room gathers
until_limit x (inr (D, room, so_far, into, is)) past = absurd (omega (arith, into.0, into.1, past))

module _ {X A : Type 0} {R : Reader X} {limit : ℕ} {old now : X} {buf mid : Vec ℕ A} where
  -- fewer bytes than the limit are all
  pub at_most_all : {n : ℕ} → ReadAtMostLaw R limit old buf (Ok n) mid now → n < limit → ReadToEndLaw R old buf (Ok n) mid now
  at_most_all {n} law few = record {
    taken = law.taken;
    takes = law.takes;
    appends = law.appends;
    ends = (law.ends.0, law.ends.1 (omega (arith, few, law.appends.1)));
    capacity = law.capacity;
    calls = by_are law.calls all;
  }
    where
      all : (C : List ReadCall) → AtMostCalls C limit (event_bytes law.taken) (Ok tt) → ToEndCalls C (event_bytes law.taken) (Ok tt)
      all C (inl (gathers, whole)) = absurd (omega (arith, whole, few, law.appends.1))
      all C (inr until) = inr (until_in_room until)

  -- a fault, or no memory
  pub at_most_failed : {e : Error} → ReadAtMostLaw R limit old buf (Err e) mid now → ReadToEndLaw R old buf (Err e) mid now
  at_most_failed {e} law = record {
    taken = law.taken;
    takes = law.takes;
    appends = law.appends;
    ends = failed law.ends.1;
    capacity = law.capacity;
    calls = by_are law.calls all;
  }
    where
      failed : DrainsOrStops {A = ℕ} (vec_capacity buf < vec_len buf + min limit (length (event_bytes law.taken) + least_room)) law.taken
          (Err e) (tells R now)
          → DrainsOrStops {A = ℕ} (vec_capacity buf < vec_len buf + (length (event_bytes law.taken) + least_room)) law.taken (Err e)
          (tells R now)
      failed (inl fault) = inl fault
      failed (inr (free, refused, why)) = inr (free, refused, omega (arith, why))

      all : (C : List ReadCall) → AtMostCalls C limit (event_bytes law.taken) (Err e) → ToEndCalls C (event_bytes law.taken) (Err e)
      all C (inl (fault, until)) = inr (inl (fault, until_in_room until))
      all C (inr (refused, gathers)) = inr (inr (refused, in_room gathers))

  -- the limit was reached, and the reader's own `read_to_end` read on: k bytes in all
  pub at_most_then : {v : Vec ℕ A} {new : X} {n : ℕ} (reply : Result ℕ Error) (k : ℕ) → ReadAtMostLaw R limit old buf (Ok n) mid now
      → limit ≤ n → ReadToEndLaw R now mid reply v new → OnOk reply (k ≡ vec_len v - vec_len buf)
      → ReadToEndLaw R old buf (recount reply k) v new
  at_most_then {v} {new} reply k first past last is =
      let P = first.taken in
      let Q = last.taken in
      record {
        taken = P ++ Q;
        takes = takes_then first.takes last.takes;
        appends = (
          both_appended buf mid P Q first.appends.0 v last.appends.0,
          both_counted buf mid P Q first.appends.0 v last.appends.0 reply k is,
        );
        ends = both_ended buf mid P Q first.appends.0 reply k _ first.ends.0 first.capacity last.ends;
        capacity = le_trans first.capacity last.capacity;
        calls = by_then first.calls last.calls (λ C D limited all. rw (bytes-append P Q, ended_recount reply k)
            (to_end_then (without_number reply) (until_limit (event_bytes P) limited (omega (arith, past, first.appends.1))) all));
      }

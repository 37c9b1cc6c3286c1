-- Loops of reads: those that fill a buffer, and those for one byte.
use Rattle.std.proofs.Common.{◌≡◌, ℕ, ◌-◌, ◌<◌, List, length, take, drop, arith, length-take, length-drop, ◌+◌, ◌≤◌, ◌++◌, length-take-le}
use Rattle.std.proofs.Common.{[], Result, Ok, Err, refl, ◌∷◌, sym, ap, subst, ◌∙◌, le_refl, inl, inr, append_assoc, append-nil}
use Rattle.std.proofs.{Common.{length-append, take-append-drop, None, Some, Bool, true, false, IsOk}, lemmas.Grind.{common_steps}}
use Rattle.std.proofs.lemmas.Slice.{take-put_mid_below}
use borrow.Rule.Slice.PartMut.{put_mid, same_len_mid, post_of}
use lib.Seq.{take-append-le, take-append-add, take-take}
use Rattle.no_std_io2_base.specs.{declared.error.Error.{Error}, Errors.{IsInterruption, IsFault, IsUnexpectedEnd}, Takes.{Reader, tells}}
use Rattle.no_std_io2_base.specs.{inner.Read.{GaveLaw, GathersUntil, FullCalls, IsRest, ExactCalls, FillsOrMeetsEnd}, Read.{ReadLaw}}
use Rattle.no_std_io2_base.specs.{Read.{ReadCallLaw, ReadFullLaw, ReadExactLaw}, Calls.{Gave, ReadCall, ByCalls}, inner.Iterators.{NextLaw}}
use Rattle.no_std_io2_base.specs.{Moves.{IsFront}, Events.{fails, event_bytes, events_of}, inner.Reads.{Reads}, Reads.{Took}}
use Rattle.no_std_io2_base.proofs.{CallsLemmas.{made_more, by_are}, TakesLemmas.{read_law, takes_then, takes_still, nothing_read}}
use Rattle.no_std_io2_base.proofs.{TakesLemmas.{all_taken}, ReadsLemmas.{Reads-none, Reads-more, Reads-again, Reads-end, Reads-fault}}
use Rattle.no_std_io2_base.proofs.ReadsLemmas.{Reads-takes, Reads-took, Reads-nothing, TookBy}

-- What each exit of a loop that fills a buffer says.

-- a buffer keeps its length if a part of it is written
pub length_stays : (at : ℕ) (xs ys : List ℕ) → length ys ≡ length (take (length xs - at) (drop at xs))
    → length (put_mid at (length xs - at) xs ys) ≡ length xs
length_stays at xs ys same = same_len_mid at (length xs - at) xs ys same

-- the part that is not filled yet has room
pub some_part : (at : ℕ) (xs ys : List ℕ) → at < length xs → length ys ≡ length (take (length xs - at) (drop at xs)) → 0 < length ys
some_part at xs ys below same = omega (arith, below, same, length-take (length xs - at) (drop at xs), length-drop at xs)

-- not none are some
pub some_bytes : (n : ℕ) → (n ≡ 0 → ⊥) → 0 < n
some_bytes n none = omega (arith, none)

-- The bytes of a buffer after a read into the part of it from `a` on.

-- if ys is put after the first `a` elements, the first a + n elements are those and then the first n of ys
pub take-put_mid : (a k n : ℕ) (xs ys : List ℕ) → a ≤ length xs → n ≤ length ys → take (a + n) (put_mid a k xs ys) ≡ take a xs ++ take n ys
take-put_mid a k n xs ys within fits = grind (arith, common_steps, length-take-le, put_mid, take-append-add, post_of, take-append-le)

-- and there are at least a + n elements if ys has n
length-put_mid : (a k n : ℕ) (xs ys : List ℕ) → a ≤ length xs → n ≤ length ys → a + n ≤ length (put_mid a k xs ys)
length-put_mid a k n xs ys within fits = grind (arith, common_steps)

-- a vector's `len` items, after the part of its slice s from `a` on was written
abbrev pub written : ℕ → ℕ → List ℕ → List ℕ → List ℕ → List ℕ
written len a s items part = take len (put_mid a (length s - a) s part ++ drop (length (put_mid a (length s - a) s part)) items)

-- the bytes before the part stay
pub take-written_below : (n len a : ℕ) (s items part : List ℕ) → n ≤ a → a ≤ len → len ≡ length items → s ≡ items
    → take n (written len a s items part) ≡ take n items
take-written_below n len a s items part below within long is = grind (arith, common_steps)

-- and then the part does
pub take-written : (n len a : ℕ) (s items part : List ℕ) → a + n ≤ len → n ≤ length part → len ≡ length items → s ≡ items
    → take (a + n) (written len a s items part) ≡ take a items ++ take n part
take-written n len a s items part within fits long is =
    grind (arith, common_steps, put_mid, take-take, take-append-le, length-put_mid, take-put_mid)

-- What a loop that fills a buffer by reads has done so far, and what it has done at each of its ends.

-- behind the first `start` bytes of the buffer stand those that were given, up to `at`
pub record FullSoFar {X : Type 0} (R : Reader X) (old : X) (buf : List ℕ) (start at : ℕ) (buf' : List ℕ) (now : X) : Type 0 where
  pub long : length buf' ≡ length buf
  pub given : List ℕ
  pub filled : take at buf' ≡ take start buf ++ given
  pub counts : at ≡ start + length given
  pub within : length given ≤ length buf - start
  pub reads : Reads R (IsRest (length buf - start)) old given (Ok true) now

-- how a `read_full` into this much room answers that gave x, by how its reads ended
abbrev FullAnswers : ℕ → List ℕ → Result Bool Error → Result (Unit {0}) Error → Type 0
FullAnswers room x (Ok true) reply = (reply ≡ Ok tt) × (length x ≡ room)
FullAnswers room x (Ok false) reply = (reply ≡ Ok tt) × (length x < room)
FullAnswers room x (Err e) reply = (reply ≡ Err e) × (length x < room)

-- a `read_full`, by its reads
full_law : {X : Type 0} {R : Reader X} {old new : X} {buf buf' x : List ℕ} {start at : ℕ} (how : Result Bool Error)
    (reply : Result (Unit {0}) Error) → Reads R (IsRest (length buf - start)) old x how new → take at buf' ≡ take start buf ++ x
    → at ≡ start + length x → FullAnswers (length buf - start) x how reply → ReadFullLaw R old buf start reply buf' at new
full_law {R = R} {old} {new} {buf} {x = x} {start} how reply reads fills counts says =
    let t = Reads-took (λ at room rest. rest.1) how reads in
    record {
      taken = t.taken;
      takes = t.takes;
      fills = rw t.are fills;
      counts = rw t.are counts;
      ends = ended how reply t says;
      full = λ none. nothing how reply says (Reads-nothing (λ at room rest. omega (arith, rest.0, rest.1, none)) how reads);
      calls = record { calls = reads.calls; made = reads.made; are = rw t.are (made how reply reads says) };
    }
  where
    ended : (how : Result Bool Error) (reply : Result (Unit {0}) Error)
        (t : TookBy (IsRest (length buf - start)) (tells R old) x how (tells R new))
        → FullAnswers (length buf - start) x how reply → FillsOrMeetsEnd (length buf - start) t.taken reply (tells R new)
    ended how reply t says =
        let within = (t.within (length buf - start) (λ at room rest. omega (arith, rest.0))).0 in grind (arith, common_steps)

    nothing : (how : Result Bool Error) (reply : Result (Unit {0}) Error) → FullAnswers (length buf - start) x how reply
        → (how ≡ Ok true) × (new ≡ old) → IsOk reply × (new ≡ old)
    nothing how reply says same = grind (arith, common_steps)

    made : (how : Result Bool Error) (reply : Result (Unit {0}) Error) (r : Reads R (IsRest (length buf - start)) old x how new)
        → FullAnswers (length buf - start) x how reply → FullCalls r.calls (length buf - start) x reply
    made how reply r says = let are = r.are in let fault = r.fault in grind (arith, common_steps)

-- before the first read nothing is filled
pub full_none : {X : Type 0} {R : Reader X} {old : X} {buf : List ℕ} {start : ℕ} → FullSoFar R old buf start start buf old
full_none {old = old} {buf} {start} = record {
  long = refl;
  given = [];
  filled = sym (append-nil (take start buf));
  counts = omega arith;
  within = omega arith;
  reads = Reads-none old;
}

module _ {X : Type 0} {R : Reader X} {old now : X} {buf xs : List ℕ} {start at : ℕ} (before : FullSoFar R old buf start at xs now) where
  module _ (below : at < length xs) (ys : List ℕ) (room : length ys ≡ length (take (length xs - at) (drop at xs))) where
    -- the length of the buffer stays, and a read into all that is left of it is the next one
    pub length_is_kept : length (put_mid at (length xs - at) xs ys) ≡ length buf
    length_is_kept = length_stays at xs ys room ∙ before.long

    into : IsRest (length buf - start) (length before.given) (length ys)
    into = (
      omega (arith, length-take (length xs - at) (drop at xs), length-drop at xs, room, before.long, before.counts, below),
      some_part at xs ys below room,
    )

    -- what stood there stands
    kept : take at (put_mid at (length xs - at) xs ys) ≡ take start buf ++ before.given
    kept = take-put_mid_below _ _ _ _ _ (le_refl _) (omega (arith, below)) ∙ before.filled

    -- a read gave some bytes more
    pub full_read : {new : X} {part : List ℕ} {n : ℕ} → ReadLaw R now part (Ok n) ys new → (n ≡ 0 → ⊥)
        → FullSoFar R old buf start (at + n) (put_mid at (length xs - at) xs ys) new
    full_read {n = n} read some =
        let long = length-take-le n ys read.bound in
        record {
          long = length_is_kept;
          given = before.given ++ take n ys;
          filled = take-put_mid at (length xs - at) n xs ys (omega (arith, below)) read.bound ∙ ap (λ l. l ++ take n ys) before.filled
              ∙ append_assoc (take start buf) before.given (take n ys);
          counts = omega (arith, before.counts, long, length-append before.given (take n ys));
          within = omega (arith, into.0, long, read.bound, length-append before.given (take n ys));
          reads = Reads-more before.reads into (read_law (Ok n) read) (omega (arith, long, some_bytes n some));
        }

    -- a read was interrupted
    pub full_interruption : {new : X} {part : List ℕ} {e : Error} → ReadLaw R now part (Err e) ys new → IsInterruption e
        → FullSoFar R old buf start at (put_mid at (length xs - at) xs ys) new
    full_interruption {e = e} read again = record {
      long = length_is_kept;
      given = before.given;
      filled = kept;
      counts = before.counts;
      within = before.within;
      reads = Reads-again before.reads into (read_law (Err e) read) again;
    }

    -- the end came first
    pub full_end : {new : X} {part : List ℕ} {reply : Result ℕ Error} {n : ℕ} → ReadLaw R now part reply ys new → reply ≡ Ok n → n ≡ 0
        → ReadFullLaw R old buf start (Ok tt) (put_mid at (length xs - at) xs ys) at new
    full_end read is zero = full_law (Ok false) (Ok tt) (Reads-end before.reads into (nothing_read read is zero)) kept before.counts
        (refl, omega (arith, into.0, into.1))

    -- a fault came first
    pub full_fault : {new : X} {part : List ℕ} {e : Error} → ReadLaw R now part (Err e) ys new → IsFault e
        → ReadFullLaw R old buf start (Err e) (put_mid at (length xs - at) xs ys) at new
    full_fault {e = e} read fault = full_law (Err e) (Err e) (Reads-fault before.reads into (read_law (Err e) read) fault) kept
        before.counts (refl, omega (arith, into.0, into.1))

-- all of it is filled
pub full_all : {X : Type 0} {R : Reader X} {old now : X} {buf xs : List ℕ} {start at : ℕ} → FullSoFar R old buf start at xs now
    → length xs ≤ at → ReadFullLaw R old buf start (Ok tt) xs at now
full_all before past = full_law (Ok true) (Ok tt) before.reads before.filled before.counts
    (refl, omega (arith, before.counts, before.long, past, before.within))

-- What a `read_exact` did, by what its `read_full` did.

-- a buffer begins with its first bytes
begins : {x : List ℕ} (at : ℕ) (buf : List ℕ) → take at buf ≡ x → IsFront x buf
begins at buf is = (drop at buf, subst (λ l. buf ≡ l ++ drop at buf) is (sym (take-append-drop at buf)))

module _ {X : Type 0} {R : Reader X} {old new : X} {buf buf' : List ℕ} {at : ℕ} (long : length buf' ≡ length buf) where
  -- all of it is filled
  pub exact_all : {u : Unit {0}} → ReadFullLaw R old buf 0 (Ok u) buf' at new → length buf' ≤ at → ReadExactLaw R old buf (Ok u) buf' new
  exact_all {u} full past = grind (arith, common_steps)

  -- the end came first
  pub exact_end : {u : Unit {0}} {e : Error} → ReadFullLaw R old buf 0 (Ok u) buf' at new → at < length buf' → IsUnexpectedEnd e
      → ReadExactLaw R old buf (Err e) buf' new
  exact_end {u} {e} full short kind = record {
    taken = full.taken;
    takes = full.takes;
    ends = (
      omega (arith, full.counts, short),
      inr (kind, full.ends.0, all_taken _ _ _ (full.ends.2 (omega (arith, full.counts, short, long)))),
    );
    empty = λ none. absurd (omega (arith, none, short, long));
    calls = by_are full.calls by;
  }
    where
      by : (C : List ReadCall) → FullCalls C (length buf - 0) (event_bytes full.taken) (Ok u) → ExactCalls C (Err e) buf'
      by C (inl (reads, all)) = absurd (omega (arith, all, full.counts, short, long))
      by C (inr until) =
          let room : length buf - 0 ≡ length buf' = omega (arith, long) in
          let reads = subst (λ k. GathersUntil (IsRest k) C (event_bytes full.taken) (Ok [])) room until in
          inr (event_bytes full.taken, begins at buf' full.fills, inl (kind, reads))

  -- a fault came first
  pub exact_fault : {e : Error} → ReadFullLaw R old buf 0 (Err e) buf' at new → ReadExactLaw R old buf (Err e) buf' new
  exact_fault {e} full =
      let room : length buf - 0 ≡ length buf' = omega (arith, long) in
      record {
        taken = full.taken;
        takes = full.takes;
        ends = (omega (arith, full.ends.1, room), inl full.ends.0);
        empty = λ none. absurd (let no = (full.full (omega (arith, none))).0 in let bad : ⊥ = cc in bad);
        calls = by_are full.calls (λ C reads. inr (
          event_bytes full.taken,
          begins at buf' full.fills,
          inr (reads.0, subst (λ k. GathersUntil (IsRest k) C (event_bytes full.taken) (Err e)) room reads.1),
        ));
      }

-- What a `next` of `Bytes` has done at each of its ends, after reads that were interrupted.

-- what was taken before
pub took_before : {X : Type 0} {R : Reader X} {old now : X} → Reads R (λ _ room. room ≡ 1) old [] (Ok true) now
    → Took (tells R old) [] (Ok true) (tells R now)
took_before before = Reads-takes (λ at room one. omega (arith, one)) (Ok true) before

module _ {X : Type 0} {R : Reader X} {old now new : X} (before : Reads R (λ _ room. room ≡ 1) old [] (Ok true) now) where
  -- one read more ended it
  ended_by : {room : ℕ} {answer : Result (List ℕ) Error} → GaveLaw R now room answer new → room ≡ 1
      → ByCalls (ReadCallLaw R) old (λ C. GathersUntil (λ _ room. room ≡ 1) C [] answer) new
  ended_by {room} {answer} law one = record {
    calls = before.calls ++ Gave room answer ∷ [];
    made = made_more (ReadCallLaw R) before.calls old before.made law;
    are = (before.calls, room, before.are, one, refl);
  }

module _ {X : Type 0} {R : Reader X} {old now new : X} {part ys : List ℕ} (before : Reads R (λ _ room. room ≡ 1) old [] (Ok true) now) where
  -- at the end
  pub next_end : {reply : Result ℕ Error} {n : ℕ} → ReadLaw R now part reply ys new → reply ≡ Ok n → n ≡ 0 → length ys ≡ 1
      → NextLaw R old None new
  next_end read is zero one =
      let first = took_before before in
      let end = nothing_read read is zero in
      record {
        taken = first.taken;
        takes = takes_still first.takes end.takes;
        ends = ((first.ends, first.are), end.end refl (omega (arith, one)));
        calls = ended_by before end one;
      }

  -- with a byte
  pub next_byte : {n b : ℕ} → ReadLaw R now part (Ok n) ys new → take n ys ≡ b ∷ [] → length ys ≡ 1 → NextLaw R old (Some (Ok b)) new
  next_byte {n} {b} read is one = let first = took_before before in record {
    taken = first.taken ++ events_of (take n ys);
    takes = takes_then first.takes read.takes;
    ends = (first.taken, ap (λ l. first.taken ++ events_of l) is, (first.ends, first.are));
    calls = ended_by before (subst (λ l. GaveLaw R now (length ys) (Ok l) new) is (read_law (Ok n) read)) one;
  }

  -- with a fault
  pub next_byte_fault : {e : Error} → ReadLaw R now part (Err e) ys new → IsFault e → length ys ≡ 1 → NextLaw R old (Some (Err e)) new
  next_byte_fault {e} read fault one = let first = took_before before in record {
    taken = first.taken ++ fails e ∷ [];
    takes = takes_then first.takes read.takes;
    ends = ((first.taken, refl, (first.ends, first.are)), fault);
    calls = ended_by before (read_law (Err e) read) one;
  }

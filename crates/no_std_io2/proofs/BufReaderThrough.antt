-- The inner reads of a `BufReader`, for its `read_full`, its `read_exact` and its `read_to_end`.
use Rattle.no_std_io2.proofs.Words.{common_steps, ◌≡◌, ℕ, ◌-◌, ◌<◌, ◌≤◌, ◌⊎◌, List, [], ◌∷◌, ◌++◌, Bool, true, false, Result, Ok, Err}
use Rattle.no_std_io2.proofs.Words.{length, take, drop, refl, sym, ap, subst, ◌∙◌, arith, append_assoc, append-nil, length-append}
use Rattle.no_std_io2.proofs.Words.{take-append-drop, length-take, length-take-le, length-drop, inl, inr, le_refl, nil_from_length}
use Rattle.no_std_io2.proofs.Words.{IsInterruption, event_bytes, events_of, Takes, Made, Reader, ReadCall, Gave, Gathers, no_read, and_gave}
use Rattle.no_std_io2.proofs.Words.{and_again, IsRest, GathersUntil, tells, ReadCallLaw, GaveLaw, bytes_given, IsSuffix, reader_held}
use Rattle.no_std_io2.proofs.Words.{reader_behind, reader_inner, ReadsBelow, AsksExact, of_held, went_past, was_filled, ◌+◌, Vec, vec_len}
use Rattle.no_std_io2.proofs.{Words.{OnOk, IfOk, IsOutOfMemory, Event, GaveAll}, BufferedReads.{takes_held, buf_reader, held-le}}
use Rattle.no_std_io2.{proofs.BufferedReads.{takes_through, ends_unheld}, specs.inner.BufReader.{HasNoBuffer, LeavesThrough, ReadsThrough}}
use Rattle.no_std_io2.specs.inner.BufReader.{full_ended, LeavesExact, only_held, read_whole, read_to_end, read_to_fault, GivesHeld}
use Rattle.no_std_io2.specs.{inner.{BufReader.{ReaderMay}, Buffer.{HasTo}}, declared.buffered.buf_reader.BufReader.{BufReader}}
use Rattle.std.proofs.{Common.{max, nat_le, take_all, le_trans, vec_capacity}, lemmas.{Bool.{le-leb, lt-leb}, List.{append_cancel_right}}}
use Rattle.no_std_io2_base.specs.{declared.error.Error.{Error}, Errors.{IsUnexpectedEnd}, inner.Read.{FullCalls, least_room}}
use Rattle.no_std_io2_base.specs.{inner.Read.{without_number, FillsOrEnds, DrainsOrStops}, Read.{ReadFullLaw, ReadExactLaw, ReadToEndLaw}}
use Rattle.no_std_io2_base.{specs.inner.{Reads.{Reads}, Cursor.{HasMoved}}, proofs.CallsLemmas.{made_split, exact_own, to_end_own}}
use Rattle.no_std_io2_base.proofs.TakesLemmas.{gives_whole, bytes-append, bytes-events_of, HasNoFault-append, HasNoFault-events_of}
use Rattle.no_std_io2_base.proofs.{TakesLemmas.{drains_ended}, ReadsLemmas.{Reads-none, Reads-more, Reads-again, Reads-end, Reads-fault}}
use Rattle.no_std_io2_base.proofs.ToEndLemmas.{recount}

-- Which inner reads a `BufReader` makes for its reads, one after another, and what is in the buffer then: for `read_full` and `read_exact`.

-- r was read behind bytes of which none were held: y of it is given, and the others are held
split_more : (held given x y new : List ℕ) {now r : List ℕ} → held ++ given ≡ x ++ now → now ≡ [] → r ≡ y ++ new
    → held ++ (given ++ r) ≡ (x ++ y) ++ new
split_more held given x y new split none whole = grind (arith, append_assoc, append-nil)

-- y of the held bytes is given
split_given : (held given x y new : List ℕ) {now : List ℕ} → held ++ given ≡ x ++ now → now ≡ y ++ new → held ++ given ≡ (x ++ y) ++ new
split_given held given x y new split whole = grind (arith, append_assoc)

module _ {R : Type 0} {S : ℕ} (inner : Reader R) (old : BufReader R S) (wanted : ℕ) where
  abbrev asks : ℕ → ℕ → Type 0
  asks = AsksExact S wanted (length (reader_held old))

  -- The bytes x were given so far. No inner read was made yet; or nothing is held before all are given, and the last of them lie behind.
  record Below (x : List ℕ) (now : BufReader R S) : Type 0 where
    pub given : List ℕ
    pub reads : Reads inner asks (reader_inner old) given (Ok true) (reader_inner now)
    pub split : reader_held old ++ given ≡ x ++ reader_held now
    pub stage : (given ≡ [])
        ⊎ ((length x < wanted → reader_held now ≡ []) × IsSuffix x (reader_behind now) × (length (reader_behind now) < S))

  module _ {x : List ℕ} {now : BufReader R S} {size : ℕ} (before : Below x now) (into : IsRest wanted (length x) size) where
    -- the next inner read is as large as that
    into_rest : {n : ℕ} → n ≡ max S size → reader_held now ≡ [] → asks (length before.given) n
    into_rest is none = grind (arith, common_steps, length-append, reader_held)

  module _ {x : List ℕ} {now new : BufReader R S} {size : ℕ} (before : Below x now) (into : IsRest wanted (length x) size) where
    -- held bytes were given
    gave_held : (y : List ℕ) → 0 < length (reader_held now) → GivesHeld now size (Ok y) new → Below (x ++ y) new
    gave_held y some call = grind (arith, common_steps, reader_held, bytes_given, reader_inner, split_given, take-append-drop)

    -- an inner read gave r, and y of it was given
    gave_read : (y r : List ℕ) {n : ℕ} → n ≡ max S size → reader_held now ≡ [] → 0 < length y
        → ReadCallLaw inner (reader_inner now) (Gave n (Ok r)) (reader_inner new) → r ≡ y ++ reader_held new
        → (length (x ++ y) < wanted → reader_held new ≡ []) → IsSuffix (x ++ y) (reader_behind new) → length (reader_behind new) < S
        → Below (x ++ y) new
    gave_read y r is none some law whole clear front short = record {
      given = before.given ++ r;
      reads = Reads-more before.reads (into_rest before into is none) law
          (omega (arith, some, ap length whole, length-append y (reader_held new)));
      split = split_more (reader_held old) before.given x y (reader_held new) before.split none whole;
      stage = inr (clear, front, short);
    }

    -- a read gave some bytes more
    below_more : (y : List ℕ) → 0 < length y → ReadsBelow inner now size (Ok y) new → Below (x ++ y) new
    below_more y some (of_held held call) = gave_held y held call
    below_more y some (went_past none large law empty) =
        gave_read y y (omega (arith, large)) none some law (sym (append-nil y) ∙ ap (λ l. y ++ l) (sym empty.1)) (λ less. empty.1)
        (x ++ y, sym (append-nil (x ++ y)) ∙ ap (λ l. (x ++ y) ++ l) (sym empty.0)) (omega (arith, ap length empty.0, old.some_room))
    below_more y some (was_filled none small (Ok r) law passes) =
        let is : y ≡ take size r = ap bytes_given passes.0 in
        gave_read y r (omega (arith, small)) none some law
        (sym (take-append-drop size r) ∙ ap (λ l. l ++ drop size r) (sym is) ∙ ap (λ l. y ++ l) (sym passes.1.1))
        (λ less. nil_from_length (reader_held new)
        (omega (arith, less, ap length passes.1.1, length-drop size r, length-append x y, into.0, ap length is, length-take size r)))
        (x, ap (λ l. x ++ l) (is ∙ sym passes.1.0)) (omega (arith, ap length passes.1.0, length-take size r, small))
    below_more y some (was_filled none small (Err e) law passes) = absurd (let no : ⊥ = cc in no)

    -- a read gave nothing: nothing was held, and the inner read had the same result
    stops : (answer : Result (List ℕ) Error) → bytes_given answer ≡ [] → ReadsBelow inner now size answer new
        → (n : ℕ) × (n ≡ max S size) × (reader_held now ≡ []) × HasNoBuffer new
        × ReadCallLaw inner (reader_inner now) (Gave n answer) (reader_inner new)
    stops answer nothing (of_held some call) =
        absurd (omega (arith, some, into.1, ap length (sym nothing ∙ ap bytes_given call.1.0), length-take size (reader_held now)))
    stops answer nothing (went_past none large law empty) = (size, omega (arith, large), none, empty, law)
    stops answer nothing (was_filled none small (Ok r) law passes) =
        let gone : take size r ≡ [] = sym (ap bytes_given passes.0) ∙ nothing in
        let unread : r ≡ [] = nil_from_length r (omega (arith, ap length gone, length-take size r, into.1)) in
        let rest : length (reader_held new) ≡ 0 = omega (arith, ap length passes.1.1, length-drop size r, ap length unread) in
        (S, omega (arith, small), none, (passes.1.0 ∙ gone, nil_from_length (reader_held new) rest), rw (passes.0, gone, ← unread) law)
    stops answer nothing (was_filled none small (Err e) law passes) = (S, omega (arith, small), none, passes.1, rw passes.0 law)

    -- a read was interrupted
    below_again : (e : Error) → IsInterruption e → ReadsBelow inner now size (Err e) new → Below x new
    below_again e again read =
        let (n, is, none, empty, law) = stops (Err e) refl read in
        record {
          given = before.given;
          reads = Reads-again before.reads (into_rest before into is none) law again;
          split = before.split ∙ ap (λ l. x ++ l) (none ∙ sym empty.1);
          stage = inr (
            λ less. empty.1,
            (x, sym (append-nil x) ∙ ap (λ l. x ++ l) (sym empty.0)),
            omega (arith, ap length empty.0, old.some_room),
          );
        }

  -- any reads
  below : {C : List ReadCall} {x : List ℕ} → Gathers (IsRest wanted) C x → (now : BufReader R S)
      → Made (ReadCallLaw (buf_reader inner)) old C now → Below x now
  below no_read now made = rw made (record {
    given = [];
    reads = Reads-none (reader_inner old);
    split = append-nil (reader_held old);
    stage = inl refl;
  })
  below (and_gave C x y size gathers into some) now made =
      let parts = made_split (ReadCallLaw (buf_reader inner)) C old (Gave size (Ok y) ∷ []) now made in
      rw parts.2.2 (below_more (below gathers parts.0 parts.1) into y some parts.2.1.call)
  below (and_again C x size e gathers into again) now made =
      let parts = made_split (ReadCallLaw (buf_reader inner)) C old (Gave size (Err e) ∷ []) now made in
      rw parts.2.2 (below_again (below gathers parts.0 parts.1) into e again parts.2.1.call)

  -- and then one that gave nothing
  below_until : {C : List ReadCall} {x : List ℕ} {now : BufReader R S} (answer : Result (List ℕ) Error) (how : Result Bool Error)
      → bytes_given answer ≡ [] → GathersUntil (IsRest wanted) C x answer → Made (ReadCallLaw (buf_reader inner)) old C now
      → (length x < wanted → HasTo wanted how (length x)) → (HasNoBuffer now → LeavesThrough old wanted x how now)
      → ((given : List ℕ) (mid : R) (room : ℕ) → Reads inner asks (reader_inner old) given (Ok true) mid → asks (length given) room
      → GaveLaw inner mid room answer (reader_inner now) → Reads inner asks (reader_inner old) given how (reader_inner now))
      → ReadsThrough inner old wanted x how now
  below_until {x = x} {now} answer how nothing (D, size, gathers, into, is) made enough leaves last =
      let parts = made_split (ReadCallLaw (buf_reader inner)) D old (Gave size answer ∷ []) now (rw is at made) in
      let before = below gathers parts.0 parts.1 in
      let (n, is, none, empty, law) = stops before into answer nothing (rw (← parts.2.2) at parts.2.1.call) in
      record {
        given = before.given;
        reads = last before.given (reader_inner parts.0) _ before.reads (into_rest before into is none) law;
        split = before.split ∙ ap (λ l. x ++ l) (none ∙ sym empty.1);
        enough = enough (omega (arith, into.0, into.1));
        leaves = leaves empty;
      }

  -- they gave all that is wanted
  through_whole : {C : List ReadCall} {x : List ℕ} {now : BufReader R S} → Gathers (IsRest wanted) C x
      → Made (ReadCallLaw (buf_reader inner)) old C now → length x ≡ wanted → ReadsThrough inner old wanted x (Ok true) now
  through_whole {x = x} {now} gathers made all =
      let b = below gathers now made in
      let long = sym (length-append (reader_held old) b.given) ∙ ap length b.split ∙ length-append x (reader_held now) in
      record {
        given = b.given;
        reads = b.reads;
        split = b.split;
        enough = omega (arith, all);
        leaves = λ past. elim b.stage [
          | inl none ↦ absurd (omega (arith, past, all, ap length none, long))
          | inr clear ↦ (clear.1, clear.2)
        ];
      }

-- the inner reads of a `read_full`, by its law
pub full_through : {R : Type 0} {S : ℕ} {inner : Reader R} {old new : BufReader R S} {buf buf' : List ℕ} {filled filled' : ℕ}
    (reply : Result (Unit {0}) Error) → ReadFullLaw (buf_reader inner) old buf filled reply buf' filled' new → length buf' ≡ length buf
    → (x : List ℕ) × (take filled' buf' ≡ take filled buf ++ x)
    × ReadsThrough inner old (length buf - filled) x (full_ended reply (nat_le (length buf') filled')) new
full_through {inner = inner} {old} {new} {buf} {buf'} {filled} {filled'} reply law long =
    (event_bytes law.taken, law.fills, by reply law.calls.are)
  where
    by : (reply : Result (Unit {0}) Error) → FullCalls law.calls.calls (length buf - filled) (event_bytes law.taken) reply
        → ReadsThrough inner old (length buf - filled) (event_bytes law.taken) (full_ended reply (nat_le (length buf') filled')) new
    by (Ok u) (inl (reads, all)) =
        rw (le-leb (length buf') filled' (omega (arith, long, law.counts, all))) (through_whole inner old _ reads law.calls.made all)
    by (Ok u) (inr until) =
        rw (lt-leb (length buf') filled' (omega (arith, long, law.counts, until.3.0, until.3.1)))
        (below_until inner old _ (Ok []) (Ok false) refl until law.calls.made (λ less. less) (λ empty. empty)
        (λ x mid room before into last. Reads-end before into last))
    by (Err e) (fault, until) =
        below_until inner old _ (Err e) (Err e) refl until law.calls.made (λ less. less) (λ empty. empty)
        (λ x mid room before into last. Reads-fault before into last fault)

-- what a `read_exact` of more than the held bytes leaves, by its `read_full`: these are the bytes of its buffer, up to `at`
module _ {R : Type 0} {S : ℕ} {inner : Reader R} {old new : BufReader R S} {x : List ℕ} (buf buf' : List ℕ) (at : ℕ) where
  whole : {how : Result Bool Error} → ReadsThrough inner old (length buf - 0) x how new → ReadsThrough inner old (length buf) x how new
  whole through = let same : length buf - 0 ≡ length buf = omega arith in rw same at through

  -- after a fault
  pub leaves_fault : {e : Error} → length (reader_held old) < length buf → take at buf' ≡ take 0 buf ++ x
      → ReadsThrough inner old (length buf - 0) x (Err e) new → LeavesExact inner old (length buf) (Err e) buf' new
  leaves_fault past fills through =
      read_to_fault past (drop at buf', sym (take-append-drop at buf') ∙ ap (λ l. l ++ drop at buf') fills) (whole through)

  -- at the end
  pub leaves_end : {u : Unit {0}} {e : Error} → length (reader_held old) < length buf → IsUnexpectedEnd e → take at buf' ≡ take 0 buf ++ x
      → at < length buf' → ReadsThrough inner old (length buf - 0) x (full_ended (Ok u) (nat_le (length buf') at)) new
      → LeavesExact inner old (length buf) (Err e) buf' new
  leaves_end past end fills short through =
      read_to_end past end (drop at buf', sym (take-append-drop at buf') ∙ ap (λ l. l ++ drop at buf') fills)
      (whole (rw (lt-leb (length buf') at short) at through))

  -- when all were given
  pub leaves_whole : {u : Unit {0}} → length (reader_held old) < length buf → take at buf' ≡ take 0 buf ++ x → length buf' ≤ at
      → ReadsThrough inner old (length buf - 0) x (full_ended (Ok u) (nat_le (length buf') at)) new
      → LeavesExact inner old (length buf) (Ok u) buf' new
  leaves_whole past fills all through =
      let is : x ≡ buf' = sym fills ∙ take_all at buf' all in
      read_whole past
      (subst (λ l. ReadsThrough inner old (length buf) l (Ok true) new) is (whole (rw (le-leb (length buf') at all) at through)))

-- only held bytes were given
pub exact_held : {R : Type 0} {S : ℕ} {inner : Reader R} {old new : BufReader R S} {buf buf' : List ℕ}
    → length buf ≤ length (reader_held old) → reader_inner new ≡ reader_inner old → buf' ≡ take (length buf) (reader_held old)
    → reader_held new ≡ drop (length buf) (reader_held old) → reader_behind new ≡ reader_behind old ++ buf' → (length buf ≡ 0 → new ≡ old)
    → ReadExactLaw (buf_reader inner) old buf (Ok tt) buf' new × LeavesExact inner old (length buf) (Ok tt) buf' new
exact_held {S = S} {inner} {old} {new} {buf} {buf'} fits same gave left front none =
    let held = reader_held old in
    let same_length : length buf' ≡ length buf = ap length gave ∙ length-take-le (length buf) held fits in
    let gives : GivesHeld old (length buf) (Ok buf') new = (same, (ap Ok gave, (front ∙ ap (λ l. reader_behind old ++ l) gave, left))) in
    let takes : Takes (tells (buf_reader inner) old) (events_of buf') (tells (buf_reader inner) new) =
    rw same (takes_held S held _ buf' _ (sym (take-append-drop (length buf) held)
    ∙ ap (λ l. l ++ drop (length buf) held) (sym gave) ∙ ap (λ l. buf' ++ l) (sym left)) (held-le old)) in
    let ends : FillsOrEnds (length buf') (events_of buf') (Ok buf') (tells (buf_reader inner) new) =
    (gives_whole buf' (le_refl _), refl) in (
      record {
        taken = events_of buf';
        takes = takes;
        ends = ends;
        empty = λ nothing. (refl, none nothing);
        calls = exact_own (Ok tt) _ (
          (omega (arith, same_length, fits), subst (λ n. GivesHeld old n (Ok buf') new) (sym same_length) gives),
          (events_of buf', takes, ends),
        );
      },
      only_held fits gives,
    )

-- A read to the end of a `BufReader`: the held bytes are appended, and then those that the inner reader's `read_to_end` appends.

-- the law, and that it is a call of its own
abbrev pub ToEndOwn : {R A : Type 0} {S : ℕ} → Reader R → BufReader R S → Vec ℕ A → Result ℕ Error → Vec ℕ A → BufReader R S → Type 0
ToEndOwn K old buf reply buf' new = ReadToEndLaw (buf_reader K) old buf reply buf' new
    × ((x : List ℕ) × (buf'.items ≡ buf.items ++ x) × ReaderMay K old (GaveAll x (without_number reply)) new)

-- all that was held was appended
pub moved_all : (held rest old : List ℕ) {mid : List ℕ} → HasMoved held rest old mid → rest ≡ [] → mid ≡ old ++ held
moved_all held rest old (part, split, shown) none = grind (arith, common_steps, append-nil)

module _ {R A : Type 0} {S : ℕ} {K : Reader R} {old new : BufReader R S} {buf buf' : Vec ℕ A} where
  -- the inner reader appended the rest
  pub held_through : {mid : Vec ℕ A} (reply : Result ℕ Error) (k : ℕ) → mid.items ≡ buf.items ++ reader_held old
      → vec_capacity buf ≤ vec_capacity mid → ReadToEndLaw K (reader_inner old) mid reply buf' (reader_inner new) → HasNoBuffer new
      → OnOk reply (k ≡ vec_len buf' - vec_len buf) → ToEndOwn K old buf (recount reply k) buf' new
  held_through {mid} reply k first grown inner empty is = (
    record {
      taken = taken;
      takes = takes;
      appends = (shown, counts reply is);
      ends = ends reply inner.ends;
      capacity = le_trans grown inner.capacity;
      calls = to_end_own (call, (taken, takes, gave, drains_ended _ taken (recount reply k) _ (ends reply inner.ends))) gave;
    },
    (all, inner.appends.0 ∙ shown_all, call),
  )
    where
      held : List ℕ
      held = reader_held old

      taken : List Event
      taken = events_of held ++ inner.taken

      all : List ℕ
      all = held ++ event_bytes inner.taken

      gave : event_bytes taken ≡ all
      gave = bytes-append (events_of held) inner.taken ∙ ap (λ l. l ++ event_bytes inner.taken) (bytes-events_of held)

      shown_all : mid.items ++ event_bytes inner.taken ≡ buf.items ++ all
      shown_all = ap (λ l. l ++ event_bytes inner.taken) first ∙ append_assoc buf.items held (event_bytes inner.taken)

      shown : buf'.items ≡ buf.items ++ event_bytes taken
      shown = inner.appends.0 ∙ shown_all ∙ ap (λ l. buf.items ++ l) (sym gave)

      takes : Takes (tells (buf_reader K) old) taken (tells (buf_reader K) new)
      takes = takes_through S held inner.takes empty.1

      long : length (event_bytes taken) ≡ length held + length (event_bytes inner.taken)
      long = ap length gave ∙ length-append held (event_bytes inner.taken)

      counts : (reply : Result ℕ Error) → OnOk reply (k ≡ vec_len buf' - vec_len buf)
          → IfOk (recount reply k) (λ n. n ≡ length (event_bytes taken))
      counts reply is = grind (arith, common_steps, shown, length-append, taken)

      ends : (reply : Result ℕ Error)
          → DrainsOrStops (vec_capacity mid < vec_len mid + (length (event_bytes inner.taken) + least_room)) inner.taken reply
          (tells K (reader_inner new))
          → DrainsOrStops (vec_capacity buf < vec_len buf + (length (event_bytes taken) + least_room)) taken (recount reply k)
          (tells (buf_reader K) new)
      ends (Ok n) (none, end) = (
        HasNoFault-append (events_of held) inner.taken (HasNoFault-events_of held) none,
        ends_unheld S (reader_held new) (tells K (reader_inner new)) empty.1 end,
      )
      ends (Err e) (inl (Q, is, none, fault)) = inl (
        events_of held ++ Q,
        ap (λ l. events_of held ++ l) is ∙ sym (append_assoc (events_of held) Q _),
        HasNoFault-append (events_of held) Q (HasNoFault-events_of held) none,
        fault,
      )
      ends (Err e) (inr (none, refused, why)) = inr (
        HasNoFault-append (events_of held) inner.taken (HasNoFault-events_of held) none,
        refused,
        omega (arith, why, grown, long, mid.ok.0, buf.ok.0, ap length first, length-append buf.items held),
      )

      call : ReaderMay K old (GaveAll all (without_number (recount reply k))) new
      call = inr (event_bytes inner.taken, refl, rw (sym (same reply)) inner.calls, empty)
        where
          same : (reply : Result ℕ Error) → without_number reply ≡ without_number (recount reply k)
          same reply = grind (arith, common_steps)

  -- nothing was held: it is just that inner call
  pub to_end_alone : (reply : Result ℕ Error) → reader_held old ≡ [] → ReadToEndLaw K (reader_inner old) buf reply buf' (reader_inner new)
      → HasNoBuffer new → ToEndOwn K old buf reply buf' new
  to_end_alone (Ok n) none inner empty =
      held_through (Ok n) n (sym (append-nil buf.items) ∙ ap (λ l. buf.items ++ l) (sym none)) (le_refl _) inner empty
      (omega (arith, inner.appends.1, ap length inner.appends.0, length-append buf.items (event_bytes inner.taken), buf'.ok.0, buf.ok.0))
  to_end_alone (Err e) none inner empty =
      held_through (Err e) 0 (sym (append-nil buf.items) ∙ ap (λ l. buf.items ++ l) (sym none)) (le_refl _) inner empty tt

  -- the vector had no room for all held bytes, and could not grow: a front of them was appended
  pub held_part : {e : Error} → IsOutOfMemory e → HasMoved (reader_held old) (reader_held new) buf.items buf'.items
      → reader_behind new ++ reader_held new ≡ reader_behind old ++ reader_held old → reader_inner new ≡ reader_inner old
      → vec_capacity buf ≤ vec_capacity buf' → vec_capacity buf < vec_len buf' + least_room → ToEndOwn K old buf (Err e) buf' new
  held_part {e} refused (part, split, shown) kept same grown full =
      let behind : reader_behind new ≡ reader_behind old ++ part = append_cancel_right _ _ (reader_held new)
      (kept ∙ ap (λ l. reader_behind old ++ l) split ∙ sym (append_assoc (reader_behind old) part (reader_held new))) in
      let takes : Takes (tells (buf_reader K) old) (events_of part) (tells (buf_reader K) new) =
      rw same (takes_held S (reader_held old) _ part _ split (held-le old)) in
      let call : ReaderMay K old (GaveAll part (Err e)) new = inl (refused, same, (reader_held new, split, (behind, refl))) in
      let none = HasNoFault-events_of part in (
        record {
          taken = events_of part;
          takes = takes;
          appends = (shown ∙ ap (λ l. buf.items ++ l) (sym (bytes-events_of part)), tt);
          ends = inr (
            none,
            refused,
            omega (arith, full, buf'.ok.0, buf.ok.0, ap length shown, length-append buf.items part, ap length (bytes-events_of part)),
          );
          capacity = grown;
          calls = to_end_own (call, (events_of part, takes, bytes-events_of part, inr (none, refused, tt))) (bytes-events_of part);
        },
        (part, shown, call),
      )

-- What calls give and leave if the next bytes, all events, or a place in a store are known.
use Rattle.std.proofs.Common.{arith, ◌≡◌, ℕ, List, ◌++◌, Option, None, Some, IfSome, IsSomeAnd, ap, ◌∙◌, append_assoc, ◌≤◌, take, drop}
use Rattle.std.proofs.Common.{take-append-drop, length-take-le, ◌+◌, ◌-◌, ◌<◌, ◌∷◌, [], Vec, IfOk, IfErr, length, Result, Ok, Err, IsOk}
use Rattle.std.proofs.Common.{inl, inr, sym, subst, append-nil, length-append, length-take, refl, rules, length-drop, OnOk}
use Rattle.std.proofs.{lemmas.{Grind.{common_steps}, List.{append_cancel_left}}, Math.Seq.{take-append_seam}}
use Rattle.no_std_io2_base.specs.{Events.{Event, event_bytes, events_of, fails, HasNoFault, Store}, inner.Events.{cut, EndsInFault}}
use Rattle.no_std_io2_base.specs.{Reads.{TakesBytes}, Takes.{ReaderState, Takes, to_come, KeepsContent, Reader, tells, IsAtEnd}}
use Rattle.no_std_io2_base.specs.{declared.error.Error.{Error}, Read.{ReadExactLaw, ReadAtMostLaw, ReadFullLaw, ReadToEndLaw, ToEndLaw}}
use Rattle.no_std_io2_base.specs.{inner.{Read.{AllOrNone, gave_whole, FillsOrEnds}, Reads.{ReadsAt, HasBytesAt}}, Seek.{Seeks, IsTarget}}
use Rattle.no_std_io2_base.specs.{Errors.{IsOutOfMemory}, declared.traits.seek.SeekFrom.{TheVariants.{Start}, SeekFrom}}
use Rattle.no_std_io2_base.proofs.TakesLemmas.{bytes-append, events_of-append, bytes-events_of, bytes-behind, cut-bytes, cut-append}
use Rattle.no_std_io2_base.proofs.TakesLemmas.{HasNoFault-front, HasNoFault-behind, HasNoFault-events_of, bytes-cut, all_taken, left_of}
use Rattle.no_std_io2_base.{proofs.LimitLemmas.{cut-within, limit_reader, limit_to_end}, specs.inner.Take.{limit_left, limit_inner}}
use Rattle.no_std_io2_base.specs.{inner.Take.{cut_to_come}, declared.traits.take.Take.{Take}}

-- Which bytes are gone from those to come, after one call and after two.

-- What a call gives if the bytes x are the next to come.

-- cut right after the bytes x, only these are left
cut_behind : (x : List ℕ) (rest : List Event) → cut (length x) (events_of x ++ rest) ≡ events_of x
cut_behind x rest = grind (arith, common_steps, cut-bytes, append-nil)

-- there are at least as many bytes as those of x
long_events : (x : List ℕ) (rest : List Event) → length (event_bytes (events_of x ++ rest)) ≡ length x + length (event_bytes rest)
long_events x rest = ap length (bytes-behind x rest) ∙ length-append x (event_bytes rest)

module _ {a b : ReaderState} (x : List ℕ) (rest : List Event) (told : to_come a ≡ Some (events_of x ++ rest)) where
  -- If as many bytes were taken, and nothing behind the last of them, these are x, and the rest is to come.
  pub whole_back : (P : List Event) → Takes a P b → cut (length x) P ≡ P → length (event_bytes P) ≡ length x
      → (event_bytes P ≡ x) × (to_come b ≡ Some rest)
  whole_back P takes within many =
      let (after, still, split) = left_of takes told in
      let same : events_of x ≡ P =
      sym (cut_behind x rest) ∙ ap (cut (length x)) split ∙ cut-within P after (length x) 0 within (omega arith) ∙ append-nil P in
      let left : rest ≡ after = append_cancel_left P rest after (ap (λ l. l ++ rest) (sym same) ∙ split) in
      (ap event_bytes (sym same) ∙ bytes-events_of x, still ∙ ap Some (sym left))

  -- no fault comes before the last of the bytes that are known to come
  pub no_fault_before : (P : List Event) {e : Error} → Takes a P b → EndsInFault P e → length (event_bytes P) < length x → ⊥
  no_fault_before P {e} takes (Q, is, free, fault) few =
      let (after, still, split) = left_of takes told in
      let more = length x - length (event_bytes P) in
      let same : events_of x ≡ P ++ cut more after =
      sym (cut_behind x rest) ∙ ap (cut (length x)) split ∙ cut-append P after (length x) more (omega arith) (omega arith) in
      let none : HasNoFault P = HasNoFault-front P (cut more after) (subst HasNoFault same (HasNoFault-events_of x)) in
      let last = HasNoFault-behind Q (fails e ∷ []) (subst HasNoFault is none) in
      let no : ⊥ = cc (last.0, fault) in no

  -- fewer bytes are not all, and more than none are left
  not_too_few : (P : List Event) → Takes a P b → length (event_bytes P) < length x → IfSome (to_come b) (AllOrNone P (length x)) → ⊥
  not_too_few P takes few left = grind (arith, common_steps, left_of, long_events, append-nil)

  ends_known : (P : List Event) (buf' : List ℕ) (reply : Result (Unit {0}) Error) → length x ≡ length buf' → Takes a P b
      → FillsOrEnds (length buf') P (gave_whole reply buf') b → IsOk reply × (buf' ≡ x) × (to_come b ≡ Some rest)
  ends_known P buf' (Ok u) long takes (gives, whole) = grind (arith, common_steps, whole_back)
  ends_known P buf' (Err e) long takes (few, inl fault) = absurd (no_fault_before P takes fault (omega (arith, few, long)))
  ends_known P buf' (Err e) long takes (few, inr (says, free, left)) = absurd (not_too_few P takes (omega (arith, few, long))
      (subst (λ n. IfSome (to_come b) (AllOrNone P n)) (sym long) left))

-- A `read_exact` of as many bytes gives x, and the rest is to come.
pub exact_known : {X : Type 0} {R : Reader X} {old new : X} {buf buf' : List ℕ} {reply : Result (Unit {0}) Error} (x : List ℕ)
    (rest : List Event) → ReadExactLaw R old buf reply buf' new → length x ≡ length buf'
    → to_come (tells R old) ≡ Some (events_of x ++ rest) → IsOk reply × (buf' ≡ x) × (to_come (tells R new) ≡ Some rest)
exact_known x rest law long told = ends_known x rest told law.taken _ _ long law.takes law.ends

-- no more bytes are before a cut than it allows
pub bytes_within : (n : ℕ) (P : List Event) → cut n P ≡ P → length (event_bytes P) ≤ n
bytes_within n P within = omega (arith, ap (λ l. length (event_bytes l)) within, ap length (bytes-cut n P), length-take n (event_bytes P))

-- A `read_full` into room for as many bytes gives x, and the rest is to come.
pub full_known : {X : Type 0} {R : Reader X} {old new : X} {buf buf' : List ℕ} {filled filled' : ℕ} (reply : Result (Unit {0}) Error)
    (x : List ℕ) (rest : List Event) → ReadFullLaw R old buf filled reply buf' filled' new → length x ≡ length buf - filled
    → to_come (tells R old) ≡ Some (events_of x ++ rest)
    → IsOk reply × (filled' ≡ filled + length x) × (take filled' buf' ≡ take filled buf ++ x) × (to_come (tells R new) ≡ Some rest)
full_known {R = R} {old} {new} {buf} {filled = filled} (Ok u) x rest law long told =
    let few : length (event_bytes law.taken) ≤ length x = omega (arith, long, bytes_within (length buf - filled) law.taken law.ends.1) in
    let many : length (event_bytes law.taken) ≡ length x =
    grind (arith, common_steps, few, all_taken, not_too_few x rest told law.taken law.takes) in
    let (same, behind) = whole_back x rest told law.taken law.takes (subst (λ n. cut n law.taken ≡ law.taken) (sym long) law.ends.1) many in
    (refl, law.counts ∙ ap (λ n. filled + n) many, law.fills ∙ ap (λ l. take filled buf ++ l) same, behind)
full_known (Err e) x rest law long told =
    absurd (no_fault_before x rest told law.taken law.takes law.ends.0 (omega (arith, law.ends.1, long)))

-- Of bytes that are known to come, a `read_exact` gives as many as its buffer has, if there are so many, and the others are to come.
pub exact_cut : {X : Type 0} {R : Reader X} {old new : X} {buf buf' : List ℕ} {reply : Result (Unit {0}) Error} (bs : List ℕ)
    (rest : List Event) → ReadExactLaw R old buf reply buf' new → to_come (tells R old) ≡ Some (events_of bs ++ rest)
    → length buf' ≤ length bs
    → IsOk reply × (buf' ≡ take (length buf') bs) × (to_come (tells R new) ≡ Some (events_of (drop (length buf') bs) ++ rest))
exact_cut {buf' = buf'} bs rest law told fits =
    let n = length buf' in
    let split : events_of bs ++ rest ≡ events_of (take n bs) ++ (events_of (drop n bs) ++ rest) =
    grind (arith, take-append-drop n bs, events_of-append, append_assoc) in
    exact_known (take n bs) (events_of (drop n bs) ++ rest) law (length-take-le n bs fits) (told ∙ ap Some split)

-- fronts of one length of one list are equal
same_front : (p q r s : List ℕ) → p ++ r ≡ q ++ s → length q ≡ length p → q ≡ p
same_front p q r s is long =
    sym (take-append_seam q s) ∙ ap (λ n. take n (q ++ s)) long ∙ ap (take (length p)) (sym is) ∙ take-append_seam p r

-- What a call gives if only bytes are to come, and what it took is all of them.

module _ {a b : ReaderState} (x : List ℕ) (told : to_come a ≡ Some (events_of x)) {P : List Event} (takes : Takes a P b) where
  -- at the end these bytes were taken, and nothing is left
  pub all_known : IsAtEnd b → (event_bytes P ≡ x) × (to_come b ≡ Some [])
  all_known end =
      let (after, still, split) = left_of takes told in
      let none : after ≡ [] = subst (λ o. IfSome o (λ l. l ≡ [])) still end in (
        ap event_bytes (sym (append-nil P) ∙ ap (λ l. P ++ l) (sym none) ∙ sym split) ∙ bytes-events_of x,
        still ∙ ap Some none,
      )

  -- no fault comes
  pub no_fault_known : {e : Error} → EndsInFault P e → ⊥
  no_fault_known {e} fault =
      let (after, still, split) = left_of takes told in
      let clean = HasNoFault-front P after (subst HasNoFault split (HasNoFault-events_of x)) in
      let last = HasNoFault-behind fault.0 (fails e ∷ []) (subst HasNoFault fault.1 clean) in
      let no : ⊥ = cc (last.0, fault.3) in no

  -- no more bytes were taken than these
  pub few_known : length (event_bytes P) ≤ length x
  few_known =
      let (after, still, split) = left_of takes told in
      omega (
        arith,
        ap length (sym (bytes-events_of x) ∙ ap event_bytes split ∙ bytes-append P after),
        length-append (event_bytes P) (event_bytes after),
      )

-- A `read_to_end` of bytes that are all that is known to come appends them, and nothing is left; or an allocation failed.
pub to_end_known : {X A : Type 0} {lacks : ℕ → Type 0} {R : Reader X} {old new : X} {buf buf' : Vec ℕ A} (reply : Result ℕ Error)
    (x : List ℕ) → ToEndLaw lacks R old buf reply buf' new → to_come (tells R old) ≡ Some (events_of x)
    → IfOk reply (λ n. (n ≡ length x) × (buf'.items ≡ buf.items ++ x) × (to_come (tells R new) ≡ Some [])) × IfErr reply IsOutOfMemory
to_end_known {buf = buf} (Ok n) x law told =
    let (all, none) = all_known x told law.takes law.ends.1 in
    ((law.appends.1 ∙ ap length all, law.appends.0 ∙ ap (λ l. buf.items ++ l) all, none), tt)
to_end_known (Err e) x law told = elim law.ends [
  | inl fault ↦ absurd (no_fault_known x told law.takes fault)
  | inr refused ↦ (tt, refused.1)
]

-- A `read_to_end` of a `Take` whose limit is the length of x appends x, and the rest is to come from the inner reader; or an allocation
-- failed.
pub limit_known : {T A : Type 0} {lacks : ℕ → Type 0} (inner : Reader T) {old new : Take T} {buf buf' : Vec ℕ A} (reply : Result ℕ Error)
    (x : List ℕ) (rest : List Event) → ToEndLaw lacks (limit_reader inner) old buf reply buf' new → limit_left old ≡ length x
    → to_come (tells inner (limit_inner old)) ≡ Some (events_of x ++ rest)
    → IfOk reply (λ n. (n ≡ length x) × (buf'.items ≡ buf.items ++ x) × (to_come (tells inner (limit_inner new)) ≡ Some rest))
    × IfErr reply IsOutOfMemory
limit_known {lacks = lacks} inner {old} {new} {buf} {buf'} reply x rest law long told = by reply law
  where
    first : to_come (tells (limit_reader inner) old) ≡ Some (events_of x)
    first = ap (cut_to_come (limit_left old)) told ∙ ap (λ k. Some (cut k (events_of x ++ rest))) long ∙ ap Some (cut_behind x rest)

    by : (reply : Result ℕ Error) → ToEndLaw lacks (limit_reader inner) old buf reply buf' new
        → IfOk reply (λ n. (n ≡ length x) × (buf'.items ≡ buf.items ++ x) × (to_come (tells inner (limit_inner new)) ≡ Some rest))
        × IfErr reply IsOutOfMemory
    by (Err e) law = (tt, (to_end_known (Err e) x law first).1)
    by (Ok n) law =
        let (known, fine) = to_end_known (Ok n) x law first in
        let (P, items, took) = limit_to_end law in
        let bytes : event_bytes P ≡ x = append_cancel_left buf.items _ _ (sym items ∙ known.1) in
        let (same, behind) = whole_back x rest told P took.takes (subst (λ k. cut k P ≡ P) long took.within) (ap length bytes) in
        ((known.0, known.1, behind), tt)

module _ {X A : Type 0} {R : Reader X} {limit : ℕ} {old new : X} {buf buf' : Vec ℕ A} where
  -- A `read_at_most` that returned `Ok` took the bytes that it appended, and no fault, and they are within its limit.
  pub at_most_takes : {n : ℕ} → ReadAtMostLaw R limit old buf (Ok n) buf' new → (x : List ℕ) × TakesBytes (tells R old) x (tells R new)
      × (buf'.items ≡ buf.items ++ x) × (n ≡ length x) × (n ≤ limit)
  at_most_takes law = (
    event_bytes law.taken,
    record { taken = law.taken; takes = law.takes; are = refl; ends = law.ends.0 },
    law.appends.0,
    law.appends.1,
    omega (arith, law.appends.1, bytes_within limit law.taken law.within),
  )

  -- A `read_at_most` of as many bytes appends x, and the rest is to come; or an allocation failed.
  pub at_most_known : (reply : Result ℕ Error) (x : List ℕ) (rest : List Event) → ReadAtMostLaw R limit old buf reply buf' new
      → length x ≡ limit → to_come (tells R old) ≡ Some (events_of x ++ rest)
      → IfOk reply (λ n. (n ≡ length x) × (buf'.items ≡ buf.items ++ x) × (to_come (tells R new) ≡ Some rest)) × IfErr reply IsOutOfMemory
  at_most_known (Ok n) x rest law long told =
      let few : length (event_bytes law.taken) ≤ length x = omega (arith, long, bytes_within limit law.taken law.within) in
      let many : length (event_bytes law.taken) ≡ length x =
      grind (arith, common_steps, few, long, law.ends.1, all_taken, not_too_few x rest told law.taken law.takes) in
      let (same, behind) =
      whole_back x rest told law.taken law.takes (subst (λ n. cut n law.taken ≡ law.taken) (sym long) law.within) many in
      ((law.appends.1 ∙ many, law.appends.0 ∙ ap (λ l. buf.items ++ l) same, behind), tt)
  at_most_known (Err e) x rest law long told = elim law.ends.1 [
    | inl fault ↦ absurd (no_fault_before x rest told law.taken law.takes fault (omega (arith, law.ends.0, long)))
    | inr refused ↦ (tt, refused.1)
  ]

  -- If fewer bytes than the limit are all that is known to come, it appends them, and nothing is left; or an allocation failed.
  pub at_most_short : (reply : Result ℕ Error) (x : List ℕ) → ReadAtMostLaw R limit old buf reply buf' new → length x < limit
      → to_come (tells R old) ≡ Some (events_of x)
      → IfOk reply (λ n. (n ≡ length x) × (buf'.items ≡ buf.items ++ x) × (to_come (tells R new) ≡ Some [])) × IfErr reply IsOutOfMemory
  at_most_short (Ok n) x law few told =
      let (all, none) = all_known x told law.takes (law.ends.1 (omega (arith, few, few_known x told law.takes))) in
      ((law.appends.1 ∙ ap length all, law.appends.0 ∙ ap (λ l. buf.items ++ l) all, none), tt)
  at_most_short (Err e) x law few told = elim law.ends.1 [
    | inl fault ↦ absurd (no_fault_known x told law.takes fault)
    | inr refused ↦ (tt, refused.1)
  ]

-- A read after a seek.

-- a seek has one target
pub IsTarget-unique : (len position : ℕ) (at : SeekFrom) (p q : ℕ) → IsTarget len position at p → IsTarget len position at q → p ≡ q
IsTarget-unique = grind (arith, common_steps)

-- from an old store to a new one with the same content these events were taken, which are its next bytes
pub record StoreTaken (s : Store) (P : List Event) (t : Store) : Type 0 where
  pub content : t.content ≡ s.content
  pub position : t.position ≡ s.position + length (event_bytes P)
  pub split : events_of (drop s.position s.content) ≡ P ++ events_of (drop t.position t.content)

-- what is taken of a told store
pub store_taken : {a b : ReaderState} {P : List Event} → Takes a P b → IfSome a.store (λ s. IsSomeAnd b.store (StoreTaken s P))
store_taken {a} {b} {P} takes = grind (arith, common_steps)

-- a told store tells its bytes
store_tells : (a : ReaderState) → IfSome a.store (λ s. to_come a ≡ Some (events_of (drop s.position s.content)))
store_tells a = grind (arith, common_steps)

-- the bytes that were taken are those at the target of the seek
reads_there : {at : SeekFrom} {n : ℕ} {P : List Event} {buf : List ℕ} (s m t : Store) → m.content ≡ s.content
    → Seeks (length s.content) s.position at (Ok n) m.position → StoreTaken m P t → event_bytes P ≡ buf → ReadsAt s at buf t.position
reads_there {at} {n} {P} {buf} s m t kept sought took given =
    let rest = drop t.position t.content in
    let front = drop m.position m.content in
    let split : front ≡ buf ++ rest = sym (bytes-events_of front) ∙ ap event_bytes took.split ∙ bytes-append P (events_of rest)
    ∙ ap (λ l. l ++ event_bytes (events_of rest)) given ∙ ap (λ l. buf ++ l) (bytes-events_of rest) in
    let there : front ≡ drop n s.content = grind (arith, common_steps) in
    record {
      place = n;
      target = sought.0;
      there = sym (take-append_seam buf rest) ∙ ap (take (length buf)) (sym split ∙ there);
      behind = omega (arith, took.position, sought.1, ap length given);
    }

module _ {X : Type 0} {R : Reader X} {mid new : X} {buf buf' : List ℕ} (s : Option Store) (at : SeekFrom) (n : ℕ) where
  module _ (sought : KeepsContent s (λ len was now. Seeks len was at (Ok n) now) (R.store mid)) where
    -- after a seek that succeeded, a read fills the buffer with the bytes from its target on
    pub stands_there : (reply : Result (Unit {0}) Error) → ReadExactLaw R mid buf reply buf' new
        → IfSome s (λ s. IsSomeAnd (R.store new) (λ t. (t.content ≡ s.content) × OnOk reply (ReadsAt s at buf' t.position)))
    stands_there reply law = search (arith, rules, store_taken, reads_there)

    -- it does not fail if there are enough bytes
    pub enough_there : (reply : Result (Unit {0}) Error) {room : ℕ} → ReadExactLaw R mid buf reply buf' new → length buf' ≡ room
        → IsSomeAnd s (HasBytesAt at room) → IsOk reply
    enough_there reply {room} law long has = by s (R.store mid) sought (store_tells (tells R mid)) has
      where
        by : (s m : Option Store) → KeepsContent s (λ len was now. Seeks len was at (Ok n) now) m
            → IfSome m (λ m. to_come (tells R mid) ≡ Some (events_of (drop m.position m.content)))
            → IsSomeAnd s (HasBytesAt at room) → IsOk reply
        by None m sought told has = grind (arith, common_steps)
        by (Some s) None sought told has = grind (arith, common_steps)
        by (Some s) (Some m) sought told has =
            let bs = drop m.position m.content in
            let one = IsTarget-unique (length s.content) s.position at n has.0 sought.1.0 has.1 in
            let fits : length buf' ≤ length bs =
            omega (arith, one, has.2, long, sought.1.1, ap length sought.0, length-drop m.position m.content) in
            (exact_cut bs [] law (told ∙ ap Some (sym (append-nil (events_of bs)))) fits).0

-- the bytes that a read to the end appends are those of a told store from its position on
module _ {X A : Type 0} {R : Reader X} {mid new : X} {buf buf' : Vec ℕ A} {k : ℕ} (law : ReadToEndLaw R mid buf (Ok k) buf' new) where
  drained_store : IfSome (R.store mid) (λ s. (buf'.items ≡ buf.items ++ drop s.position s.content)
      × IsSomeAnd (R.store new) (λ t. t.content ≡ s.content))
  drained_store = by (R.store mid) refl (store_taken law.takes)
    where
      by : (s : Option Store) → R.store mid ≡ s → IfSome s (λ s. IsSomeAnd (R.store new) (StoreTaken s law.taken))
          → IfSome s (λ s. (buf'.items ≡ buf.items ++ drop s.position s.content) × IsSomeAnd (R.store new) (λ t. t.content ≡ s.content))
      by None is took = tt
      by (Some s) is took = grind (arith, common_steps, to_end_known (Ok k) (drop s.position s.content) law)

  -- After a seek to the start, a `read_to_end` appends the whole content of a told store; and after one more seek, the store stands there.
  pub stands_at : (s t : Option Store) (n m place : ℕ) → KeepsContent s (λ len was now. Seeks len was (Start 0) (Ok n) now) (R.store mid)
      → KeepsContent (R.store new) (λ len was now. Seeks len was (Start place) (Ok m) now) t
      → IfSome s (λ s. (buf'.items ≡ buf.items ++ s.content) × IsSomeAnd t (λ t. (t.content ≡ s.content) × (t.position ≡ place)))
  stands_at s t n m place first then = by s (R.store mid) (R.store new) t first drained_store then
    where
      by : (s a b t : Option Store) → KeepsContent s (λ len was now. Seeks len was (Start 0) (Ok n) now) a
          → IfSome a (λ a. (buf'.items ≡ buf.items ++ drop a.position a.content) × IsSomeAnd b (λ b. b.content ≡ a.content))
          → KeepsContent b (λ len was now. Seeks len was (Start place) (Ok m) now) t
          → IfSome s (λ s. (buf'.items ≡ buf.items ++ s.content) × IsSomeAnd t (λ t. (t.content ≡ s.content) × (t.position ≡ place)))
      by None a b t first all then = tt
      by (Some s) None b t first all then = absurd first
      by (Some s) (Some a) None t first all then = absurd all.1
      by (Some s) (Some a) (Some b) None first all then = absurd then
      by (Some s) (Some a) (Some b) (Some t) first all then =
          let start : a.position ≡ 0 = first.1.1 ∙ first.1.0 in
          let place : t.position ≡ place = then.1.1 ∙ then.1.0 in
          let bytes : drop a.position a.content ≡ s.content = ap (λ p. drop p a.content) start ∙ first.0 in
          (all.0 ∙ ap (λ l. buf.items ++ l) bytes, (then.0 ∙ all.1 ∙ first.0, place))

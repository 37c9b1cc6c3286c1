-- For `run_reads`: what its asks take, and how many reads they make.
use Rattle.std.proofs.{lemmas.{Grind.{common_steps}, Nat.{le-div}}, Common.{◌&&◌, IfSome, is_err, add-zero, drop_of_length-le}}
use Rattle.no_std_io2.proofs.Words.{ℕ, zero, suc, ◌<◌, Bool, List, [], ◌∷◌, ◌++◌, length, get_or, Result, arith, Event, Takes, Reader}
use Rattle.no_std_io2.proofs.Words.{tells, ◌≡◌, ◌+◌, ◌-◌, ◌*◌, ◌/◌, ◌≤◌, ⊎_elim, cases_lt, min, nat_eq, nat_lt, true, false, if◌then◌else◌}
use Rattle.no_std_io2.proofs.Words.{take, drop, Some, Ok, Err, refl, sym, ap, ap₂, subst, ◌∙◌, inl, inr, length-append, length-drop}
use Rattle.no_std_io2.proofs.Words.{length-take-le, le_refl, drop-append_seam, nil_from_length, nat_tests, fails, events_of, event_bytes}
use Rattle.no_std_io2.proofs.Words.{AreTaken, to_come, IsAtEnd, ReadCall, bytes_given, GaveLaw, ReadCallLaw, Gathers, no_read, and_gave}
use Rattle.no_std_io2.proofs.Words.{and_again, ExactCalls, FillsRoom, IsReadMeter, bytes_left, Made, reader_held, reader_behind, lent_read}
use Rattle.no_std_io2.proofs.Words.{reader_inner, behind_held, PassesOn, ReadsBelow, of_held, went_past, was_filled, FillsBelow, lent_held}
use Rattle.no_std_io2.proofs.TakesLemmas.{takes_none, takes_then, made_takes, stays_at_end, left_of, bytes-append, bytes-events_of}
use Rattle.no_std_io2.proofs.{TakesLemmas.{events_of-append}, CallsLemmas.{made_split}, InMemoryReads.{drawn, fills_told}}
use Rattle.no_std_io2.{proofs.BufferedReads.{reader_has_room, held-le, told_behind, buf_reader}, specs.declared.io.Error.{Error}}
use Rattle.no_std_io2.specs.{declared.buffered.buf_reader.BufReader.{BufReader}, inner.Read.{FilledLaw}, Read.{ConsumeLaw, ReadExactLaw}}
use Rattle.io_bench.specs.{declared.asks.Ask.{Ask, TheVariants.{Read, Exact, Fill}}, Asks.{Fits, AllFit, Answered, CameTo, no_ask}}
use Rattle.io_bench.specs.Asks.{next_ask, read_answer, end_or_error, exact_answer, fill_answer, fill_calls, left_behind, DropsFront}
use Rattle.io_bench.{specs.Asks.{AskStep, meets_end, Steps, no_step, next_step}, proofs.RunLemmas.{made_one}}

-- For `run_reads`: asks in a row, and what they take.

-- if a buffer has room for each ask of a list, it has room for the one at i
pub fits_at : (room : ℕ) (asks : List Ask) (i : ℕ) (d : Ask) → i < length asks → AllFit room asks → Fits room (get_or asks i d)
fits_at room [] i d h f = absurd (omega arith)
fits_at room (ask ∷ asks) zero d h f = f.0
fits_at room (ask ∷ asks) (suc i) d h f = fits_at room asks i d (omega arith) f.1

module _ {B : Type 0} (L : Reader B) where
  -- what one ask takes
  answered_takes : (ask : Ask) (a b : B) (answer : Result Bool Error) → Answered L ask a answer b
      → (P : List Event) × Takes (tells L a) P (tells L b)
  answered_takes ask a b answer answered = grind (arith, common_steps, made_takes)

  -- what asks in a row take
  pub came_takes : {asks : List Ask} {a b : B} {at_end failed : ℕ} → CameTo L asks a at_end failed b
      → (P : List Event) × Takes (tells L a) P (tells L b)
  came_takes (no_ask {r = r}) = ([], takes_none (tells L r))
  came_takes (next_ask {mid = mid} {new = new} ask answer before now _ _) =
      let first = came_takes before in
      let last = answered_takes ask mid new answer now in (first.0 ++ last.0, takes_then first.1 last.1)

-- For `run_reads`, the count of inner reads: all but one get S bytes at least, or find the end.

-- Of N bytes h are held, and e are still to come from the inner reader. It made c reads, and z asks met the end: f
-- reads got at least S bytes each, and either no other read got a byte, or one did, and no byte is to come.
pub data ReadsPaid (S N c z h e : ℕ) : Type 0 where
  full : (f : ℕ) → c ≤ f + z → f * S + e ≤ N → ReadsPaid S N c z h e
  partial : (f : ℕ) → c ≤ f + 1 + z → f * S + h ≤ N → e ≡ 0 → ReadsPaid S N c z h e

-- What one call does to h and e, and how many reads it makes: none if bytes are held; else one, which gets t bytes,
-- fewer than S only if these are all.
pub data OneCall (S h e h' e' : ℕ) : ℕ → Type 0 where
  no_inner_read : 0 < h → h' ≤ h → e' ≡ e → OneCall S h e h' e' 0
  one_read : (t : ℕ) → h ≡ 0 → e ≡ e' + t → h' ≤ t → (t < S → e' ≡ 0) → OneCall S h e h' e' 1

-- at the start no read was made
pub paid_none : (S h e : ℕ) → ReadsPaid S (h + e) 0 0 h e
paid_none S h e = full 0 (omega arith) (omega arith)

-- held bytes are dropped
pub paid_held : {S N c z h e h' e' : ℕ} → h' ≤ h → e' ≡ e → ReadsPaid S N c z h e → ReadsPaid S N c z h' e'
paid_held fits same (full f a b) = full f a (omega arith)
paid_held fits same (partial f a b none) = partial f a (omega arith) (omega arith)

-- one call more: with nothing to come, it meets the end
pub paid_call : {S N c z z' h e h' e' r : ℕ} → z ≤ z' → (h + e ≡ 0 → z < z') → OneCall S h e h' e' r → ReadsPaid S N c z h e
    → ReadsPaid S N (c + r) z' h' e'
paid_call more end (no_inner_read some fits same) (full f a b) = full f (omega arith) (omega arith)
paid_call more end (no_inner_read some fits same) (partial f a b none) = partial f (omega arith) (omega arith) (omega arith)
paid_call {S} more end (one_read t none split kept short) (full f a b) = ⊎_elim
    (λ few. partial f (omega arith) (omega arith) (short few))
    (λ many. full (f + 1) (omega arith) (omega arith))
    (cases_lt t S)
paid_call more end (one_read t none split kept short) (partial f a b over) = partial f (omega arith) (omega arith) (omega arith)

-- the bound
pub paid_bound : (S N : ℕ) {c z h e : ℕ} → 0 < S → h ≤ S → ReadsPaid S N c z h e → c ≤ (N - (h + e)) / S + 1 + z
paid_bound S N some fits (full zero a b) = omega arith
paid_bound S N {h = h} {e} some fits (full (suc f) a b) = let q = le-div f (N - (h + e)) S some (omega arith) in omega arith
paid_bound S N {h = h} {e} some fits (partial f a b none) = let q = le-div f (N - (h + e)) S some (omega arith) in omega arith

-- For `run_reads` over a filling reader: no ask fails, each takes its step, and the inner reads are few.

-- no error is among bytes
none_fails : (x : List ℕ) (e : Error) (rest : List Event) → events_of x ≡ fails e ∷ rest → ⊥
none_fails [] e rest is = cc
none_fails (b ∷ x) e rest is = cc

-- the held bytes are no more than those that were read
passes_fits : {R : Type 0} {S : ℕ} (behind : List ℕ) (read : Result (List ℕ) Error) (room : ℕ) (answer : Result (List ℕ) Error)
    (new : BufReader R S) (x : List ℕ) → PassesOn behind read room answer new → read ≡ Ok x → length (reader_held new) ≤ length x
passes_fits behind read room answer new x passes is = grind (arith, common_steps)

-- what an ask of at most `most` bytes took of those to come
drops : (most : ℕ) (x left after : List ℕ) → left ≡ x ++ after → length x ≤ most → (x ≡ [] → 0 < most → after ≡ [])
    → DropsFront most left after
drops most x left after split fits end = ⊎_elim
    (λ none. (min 1 most, omega arith, omega arith, grind (arith, common_steps)))
    (λ some. (length x, omega arith, omega arith, sym (drop-append_seam x after) ∙ ap (drop (length x)) (sym split)))
    (cases_lt (length x) 1)

-- what an ask of so many bytes left
rest_is : (x left after : List ℕ) {len : ℕ} → left ≡ x ++ after → length x ≡ len → after ≡ drop len left
rest_is x left after split long = sym (drop-append_seam x after) ∙ ap₂ drop long (sym split)

-- if a read gave no byte, and none are held, none were to come
read_ends : {S h e h' e' r : ℕ} (k all : ℕ) → 0 < S → OneCall S h e h' e' r → h + e ≡ k + (h' + e') → all ≡ h + e
    → (nat_eq k 0 && nat_eq h' 0) ≡ nat_lt all 1
read_ends k all some (no_inner_read held fits same) split is = grind (arith, nat_tests)
read_ends k all some (one_read t none got kept short) split is = grind (arith, nat_tests)

-- the last of some calls
made_last : {X A : Type 0} (may : X → A → X → Type 0) (C : List A) {call : A} (a b : X) → Made may a (C ++ call ∷ []) b
    → (mid : X) × Made may a C mid × may mid call b
made_last may C {call} a b made = grind (arith, common_steps, made_split)

module _ {R : Type 0} {S : ℕ} (I : Reader R) where
  -- the inner reader fills its room
  abbrev Filling : BufReader R S → Type 0
  Filling r = FillsRoom I (reader_inner r)

  -- how many bytes are to come from the inner reader
  abbrev behind : BufReader R S → ℕ
  behind r = length (bytes_left I (reader_inner r))

  -- one call of the buffer, which may make an inner read; the inner reader goes on filling its room
  abbrev Once : BufReader R S → BufReader R S → Type 0
  Once a b = (r : ℕ) × ((cost : R → ℕ) → IsReadMeter I.may cost → cost (reader_inner b) ≡ cost (reader_inner a) + r)
      × OneCall S (length (reader_held a)) (behind a) (length (reader_held b)) (behind b) r × Filling b

  -- it makes none,
  once_none : (a b : BufReader R S) → Filling a → 0 < length (reader_held a) → length (reader_held b) ≤ length (reader_held a)
      → reader_inner b ≡ reader_inner a → Once a b
  once_none a b fills some fits same = (
    0,
    λ cost meter. omega (arith, ap cost same),
    no_inner_read some fits (ap (λ r. length (bytes_left I r)) same),
    subst (λ r. FillsRoom I r) (sym same) fills,
  )

  -- or one, of which some bytes are held
  once_reads : (a b : BufReader R S) (room : ℕ) (answer : Result (List ℕ) Error) → Filling a → length (reader_held a) ≡ 0 → S ≤ room
      → GaveLaw I (reader_inner a) room answer (reader_inner b)
      → ((x : List ℕ) → answer ≡ Ok x → length (reader_held b) ≤ length x) → Once a b
  once_reads a b room answer fills none wide law kept =
      let one = drawn answer fills law in
      let read : OneCall S (length (reader_held a)) (behind a) (length (reader_held b)) (behind b) 1 =
      one_read (length one.gave) none (omega (arith, one.rest)) (kept one.gave one.is) (λ few. omega (arith, one.count, one.rest)) in
      (1, λ cost meter. omega (arith, meter _ _ room answer law.call, reader_has_room a), read, one.fills)

  once_read : (a b : BufReader R S) (room : ℕ) (answer : Result (List ℕ) Error) → Filling a → ReadsBelow I a room answer b → Once a b
  once_read a b room answer fills read =
      grind (arith, common_steps, le_refl, of_held, once_none, once_reads, passes_fits, reader_behind, reader_held, was_filled, went_past)

  once_fill : (a b : BufReader R S) (answer : Result (List ℕ) Error) → Filling a → FillsBelow I a answer b → Once a b
  once_fill a b answer fills fill =
      grind (arith, bytes_given, le_refl, lent_held, lent_read, once_none, once_reads, reader_held, reader_inner)

module _ {R : Type 0} {S : ℕ} (I : Reader R) (start : BufReader R S) where
  abbrev L : Reader (BufReader R S)
  L = buf_reader I

  -- the bytes to come
  abbrev all : BufReader R S → List ℕ
  all r = left_behind I r

  told : (r : BufReader R S) → Filling I r → to_come (tells L r) ≡ Some (events_of (all r))
  told r fills = told_behind S (reader_held r) (tells I (reader_inner r))
      ∙ ap (behind_held (reader_held r)) (fills_told fills)
      ∙ ap Some (sym (events_of-append (reader_held r) (bytes_left I (reader_inner r))))

  -- what was taken of that
  taken : (a b : BufReader R S) (P : List Event) → Filling I a → Filling I b → Takes (tells L a) P (tells L b)
      → events_of (all a) ≡ P ++ events_of (all b)
  taken a b P fills after takes =
      subst (λ E. AreTaken E P (Some (events_of (all b)))) (told a fills)
      (subst (λ E. AreTaken (to_come (tells L a)) P E) (told b after) takes.events)

  drew : (a b : BufReader R S) (P : List Event) → Filling I a → Filling I b → Takes (tells L a) P (tells L b)
      → all a ≡ event_bytes P ++ all b
  drew a b P fills after takes = simp (bytes-append, bytes-events_of) at (ap event_bytes (taken a b P fills after takes))

  took : (a b : BufReader R S) (x : List ℕ) → Filling I a → Filling I b → Takes (tells L a) (events_of x) (tells L b) → all a ≡ x ++ all b
  took a b x fills after takes = drew a b (events_of x) fills after takes ∙ ap (λ l. l ++ all b) (bytes-events_of x)

  -- no call fails
  no_error : {T : Type 0} (a b : BufReader R S) (e : Error) → Filling I a → Takes (tells L a) (fails e ∷ []) (tells L b) → T
  no_error a b e fills takes = let left = left_of takes (told a fills) in absurd (none_fails (all a) e left.0 left.2)

  -- at the end no byte is to come
  ended : (b : BufReader R S) → Filling I b → IsAtEnd (tells L b) → all b ≡ []
  ended b fills end = simp bytes-events_of at (ap event_bytes (subst (λ E. IfSome E (λ l. l ≡ [])) (told b fills) end))

  -- the calls so far are paid for, if z asks met the end, and the inner reader fills its room
  pub record Paid (z : ℕ) (r : BufReader R S) : Type 0 where
    pub reads : ℕ
    pub cost : (cost : R → ℕ) → IsReadMeter I.may cost → cost (reader_inner r) ≡ cost (reader_inner start) + reads
    pub paid : ReadsPaid S (length (all start)) reads z (length (reader_held r)) (behind I r)
    pub fills : FillsRoom I (reader_inner r)

  once_paid : (z z' : ℕ) (a b : BufReader R S) → z ≤ z' → (length (all a) ≡ 0 → z < z') → Once I a b → Paid z a → Paid z' b
  once_paid z z' a b more end once before = record {
    reads = before.reads + once.0;
    cost = λ cost meter. omega (arith, before.cost cost meter, once.1 cost meter);
    paid = paid_call more (λ none. end (length-append (reader_held a) (bytes_left I (reader_inner a)) ∙ none)) once.2 before.paid;
    fills = once.3;
  }

  kept_paid : (z : ℕ) (a b : BufReader R S) → length (reader_held b) ≤ length (reader_held a) → reader_inner b ≡ reader_inner a → Paid z a
      → Paid z b
  kept_paid z a b fits same before = record {
    reads = before.reads;
    cost = λ cost meter. omega (arith, before.cost cost meter, ap cost same);
    paid = paid_held fits (ap (λ r. length (bytes_left I r)) same) before.paid;
    fills = subst (λ r. FillsRoom I r) (sym same) before.fills;
  }

  -- reads that gave some bytes each
  gathers_paid : {asks : ℕ → ℕ → Type 0} {C : List ReadCall} {x : List ℕ} → Gathers asks C x → (z : ℕ) (a b : BufReader R S)
      → Made (ReadCallLaw L) a C b → Paid z a → Paid z b
  gathers_paid no_read z a b made paid = subst (Paid z) (sym made) paid
  gathers_paid (and_gave C x y room before asked some) z a b made paid =
      let (mid, first, last) = made_last (ReadCallLaw L) C a b made in
      let now = gathers_paid before z a mid first paid in
      let once = once_read I mid b room (Ok y) now.fills last.call in
      let gave = took mid b y now.fills once.3 last.takes in
      once_paid z z mid b (le_refl z) (λ none. absurd (omega (arith, none, some, ap length gave, length-append y (all b)))) once now
  gathers_paid (and_again C x room e before asked interrupted) z a b made paid =
      let (mid, first, last) = made_last (ReadCallLaw L) C a b made in
      no_error mid b e (gathers_paid before z a mid first paid).fills last.takes

  -- what one ask does: it does not fail, and meets the end where it has to
  abbrev Went : Ask → ℕ → BufReader R S → Result Bool Error → BufReader R S → Type 0
  Went ask z a answer b = (answer ≡ Ok (meets_end ask (length (all a)))) × AskStep ask (all a) (all b)
      × Paid (z + (if meets_end ask (length (all a)) then 1 else 0)) b

  -- the calls are paid for by an equal count
  paid_as : (z : ℕ) (b : BufReader R S) {t t' : Bool} → t ≡ t' → Paid (z + (if t then 1 else 0)) b → Paid (z + (if t' then 1 else 0)) b
  paid_as z b same paid = subst (λ t. Paid (z + (if t then 1 else 0)) b) same paid

  -- a `read`
  read_went : (len z : ℕ) (a b : BufReader R S) (reply : Result (List ℕ) Error) (answer : Result Bool Error)
      → answer ≡ read_answer reply (reader_held b) → GaveLaw L a len reply b → Paid z a → Went (Read len) z a answer b
  read_went len z a b (Err e) answer is law paid = no_error a b e paid.fills law.takes
  read_went len z a b (Ok x) answer is law paid =
      let once = once_read I a b len (Ok x) paid.fills law.call in
      let gave = took a b x paid.fills once.3 law.takes in
      let whole = length-append (reader_held a) (bytes_left I (reader_inner a)) in
      let rest = length-append (reader_held b) (bytes_left I (reader_inner b)) in
      let met : (nat_eq (length x) 0 && nat_eq (length (reader_held b)) 0) ≡ nat_lt (length (all a)) 1 =
      read_ends (length x) (length (all a)) (reader_has_room a) once.2 (omega (arith, ap length gave, length-append x (all b), whole, rest))
      whole in (
        is ∙ ap Ok met,
        drops len x (all a) (all b) gave law.bound (λ none some. ended b once.3 (law.end (ap Ok none) some)),
        once_paid z _ a b (omega arith) (λ none. grind (arith, nat_tests, none)) once paid,
      )

  -- a `read_exact` that gave all bytes
  exact_paid : (z : ℕ) (a b : BufReader R S) (buf : List ℕ) (C : List ReadCall) → Made (ReadCallLaw L) a C b
      → ExactCalls C (Ok tt) buf → Paid z a → Paid z b
  exact_paid z a b buf C made (inl own) paid =
      let call = (made_one (ReadCallLaw L) a b own made).0 in
      kept_paid z a b (omega (arith, ap length call.1.1.1.1, length-drop (length buf) (reader_held a))) call.1.0 paid
  exact_paid z a b buf C made (inr reads) paid = gathers_paid reads z a b made paid

  -- any `read_exact`
  exact_went : (len z : ℕ) (a b : BufReader R S) (reply : Result (Unit {0}) Error) (answer : Result Bool Error) (buf buf' : List ℕ)
      → length buf' ≡ len → answer ≡ exact_answer reply → (law : ReadExactLaw L a buf reply buf' b)
      → ExactCalls law.calls.calls reply buf' → Paid z a → Went (Exact len) z a answer b
  exact_went len z a b (Ok u) answer buf buf' long is law calls paid =
      let kept = exact_paid z a b buf' law.calls.calls law.calls.made calls paid in
      let gave : all a ≡ buf' ++ all b =
      drew a b law.taken paid.fills kept.fills law.takes ∙ ap (λ l. l ++ all b) law.ends.0.given in
      let met : false ≡ nat_lt (length (all a)) len = grind (arith, nat_tests, long, ap length gave, length-append buf' (all b)) in
      (is ∙ ap Ok met, rest_is buf' (all a) (all b) gave long, paid_as z b met (rw add-zero kept))
  exact_went len z a b (Err e) answer buf buf' long is law (inl own) paid =
      let call = (made_one (ReadCallLaw L) a b own law.calls.made).0 in absurd (let no : ⊥ = cc call.1.1.0 in no)
  exact_went len z a b (Err e) answer buf buf' long is law (inr (x, front, inl (end, (D, room, before, asked, are)))) paid =
      let (mid, first, last) =
      made_last (ReadCallLaw L) D a b (subst (λ K. Made (ReadCallLaw L) a K b) are law.calls.made) in
      let now = gathers_paid before z a mid first paid in
      let once = once_read I mid b room (Ok []) now.fills last.call in
      let over = ended b once.3 (last.end refl asked.1) in
      let whole = ap length (drew a b law.taken paid.fills once.3 law.takes) ∙ length-append (event_bytes law.taken) (all b) in
      let short : length (all a) < len = omega (arith, whole, ap length over, law.ends.0, long) in
      let met : true ≡ nat_lt (length (all a)) len = grind (arith, nat_tests, short) in (
        is ∙ ap (λ k. end_or_error k e) end.0 ∙ ap Ok met,
        over ∙ sym (drop_of_length-le (all a) (omega (arith, short))),
        paid_as z b met (once_paid z (z + 1) mid b (omega arith) (λ none. omega arith) once now),
      )
  exact_went len z a b (Err e) answer buf buf' long is law (inr (x, front, inr (fault, (D, room, before, asked, are)))) paid =
      let (mid, first, last) =
      made_last (ReadCallLaw L) D a b (subst (λ K. Made (ReadCallLaw L) a K b) are law.calls.made) in
      no_error mid b e (gathers_paid before z a mid first paid).fills last.takes

  -- a `fill_buf` and a `consume`
  fill_went : (most z : ℕ) (a b : BufReader R S) (reply : Result (List ℕ) Error) (answer : Result Bool Error) → answer ≡ fill_answer reply
      → Made (ReadCallLaw L) a (fill_calls most reply) b → Paid z a → Went (Fill most) z a answer b
  fill_went most z a b (Err e) answer is made paid =
      let law = subst (λ r. FilledLaw L a (Err e) r) (sym made.2) made.1 in no_error a b e paid.fills law.takes
  fill_went most z a b (Ok lent) answer is (mid, filled, (last, (within, dropped), same)) paid =
      let n = min most (length lent) in
      let once = once_fill I a mid (Ok lent) paid.fills filled.call in
      let law = subst (λ r. ConsumeLaw L mid n r) (sym same) dropped in
      let after : Filling I b = subst (λ r. FillsRoom I r) (sym law.call.0) once.3 in
      let still = took a mid [] paid.fills once.3 filled.takes in
      let gave : all a ≡ take n lent ++ all b =
      still ∙ took mid b (take n (reader_held mid)) once.3 after law.takes ∙ ap (λ l. take n l ++ all b) filled.lends in
      let long = ap length still ∙ length-append (reader_held mid) (bytes_left I (reader_inner mid)) in
      let over : lent ≡ [] → all a ≡ [] = λ none. ended a paid.fills (stays_at_end filled.takes (filled.end (ap Ok none))) in
      let met : nat_eq (length lent) 0 ≡ nat_lt (length (all a)) 1 = ⊎_elim
      (λ few. grind (arith, nat_tests, ap length (over (nil_from_length lent (omega arith)))))
      (λ some. grind (arith, nat_tests, long, ap length filled.lends))
      (cases_lt (length lent) 1) in
      let many = length-take-le n lent (omega arith) in (
        is ∙ ap Ok met,
        drops most (take n lent) (all a) (all b) gave (omega (arith, many)) (λ none some.
            let empty = over (nil_from_length lent (omega (arith, many, ap length none))) in
            nil_from_length (all b) (omega (arith, ap length gave, length-append (take n lent) (all b), ap length empty))),
        kept_paid _ mid b (omega (arith, ap length law.held, length-drop n (reader_held mid))) law.call.0
            (once_paid z _ a mid (omega arith) (λ none. grind (arith, nat_tests, none)) once paid),
      )

  -- any ask
  answered_went : (ask : Ask) (z : ℕ) (a b : BufReader R S) (answer : Result Bool Error) → Answered L ask a answer b → Paid z a
      → Went ask z a answer b
  answered_went (Read len) z a b answer (reply, is, law) paid = read_went len z a b reply answer is law paid
  answered_went (Exact len) z a b answer (reply, is, (buf, buf', long, law)) paid =
      exact_went len z a b reply answer buf buf' long is law law.calls.are paid
  answered_went (Fill most) z a b answer (reply, is, made) paid = fill_went most z a b reply answer is made paid

  -- before the first ask
  none_paid : Filling I start → Paid 0 start
  none_paid fills = record {
    reads = 0;
    cost = λ cost meter. omega arith;
    paid = subst (λ n. ReadsPaid S n 0 0 (length (reader_held start)) (behind I start))
        (sym (length-append (reader_held start) (bytes_left I (reader_inner start)))) (paid_none S _ _);
    fills = fills;
  }

  -- asks in a row
  pub came_went : {asks : List Ask} {b : BufReader R S} {at_end failed : ℕ} → FillsRoom I (reader_inner start)
      → CameTo L asks start at_end failed b → (failed ≡ 0) × Steps asks (all start) (all b) at_end × Paid at_end b
  came_went fills no_ask = (refl, no_step, none_paid fills)
  came_went fills (next_ask {mid = mid} {new = b} {at_end = at_end} ask answer before now counted failures) =
      let (none, steps, paid) = came_went fills before in
      let (is, step, kept) = answered_went ask at_end mid b answer now paid in
      let fine : is_err answer ≡ false = ap is_err is in
      rw (counted, is) (omega (arith, none, rw fine at failures), next_step ask steps step, kept)

  -- so the inner reads are few
  pub few_reads : (z : ℕ) (b : BufReader R S) → Paid z b → (cost : R → ℕ) → IsReadMeter I.may cost
      → cost (reader_inner b) ≤ cost (reader_inner start) + ((length (all start) - length (all b)) / S + 1 + z)
  few_reads z b paid cost meter =
      let bound = paid_bound S (length (all start)) (reader_has_room start) (held-le b) paid.paid in
      let long = length-append (reader_held b) (bytes_left I (reader_inner b)) in
      omega (arith, paid.cost cost meter, subst (λ n. paid.reads ≤ (length (all start) - n) / S + 1 + z) (sym long) bound)

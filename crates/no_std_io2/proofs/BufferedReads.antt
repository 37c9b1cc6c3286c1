-- What a buffer in front of a reader tells and takes, and the calls of a `BufReader`.
use Rattle.no_std_io2.proofs.Words.{◌≡◌, ℕ, ◌-◌, ◌<◌, ◌≤◌, ◌^◌, length, drop, ap, ◌∙◌, arith, length-take, reader_held, common_steps, ℤ}
use Rattle.no_std_io2.proofs.Words.{pos, ◌+◌, List, ◌++◌, take, sym, take-take, IsCutOn, negsuc, zero, suc, ◌*◌, min, Bool, true, false}
use Rattle.no_std_io2.proofs.Words.{true≢false, [], refl, ap₂, subst, append_assoc, append-nil, length-append, take-append-drop, Option}
use Rattle.no_std_io2.proofs.Words.{None, Some, Result, Ok, Err, IfOk, drop-append_seam, Event, events_of, event_bytes, Store, ReaderState}
use Rattle.no_std_io2.proofs.Words.{Takes, AreTaken, KeepsContent, to_come, IsAtEnd, answered, bytes_given, behind_held, step_back}
use Rattle.no_std_io2.proofs.Words.{store_if, store_before, Reader, tells, ReadCallLaw, ReadLaw, Gave, reader_behind, reader_inner}
use Rattle.no_std_io2.proofs.Words.{PassesOn, ReadsBelow, of_held, was_filled, went_past, lent_held, lent_read, ReadCall, GaveAll, Filled}
use Rattle.no_std_io2.{proofs.Words.{inl, inr, Consumed}, specs.inner.BufReader.{reader_told, reader_events, reader_turns, ReaderMay}}
use Rattle.no_std_io2.specs.{inner.Buffer.{is_before, AreBefore, IsInBuffer}, BufReader.{reader_store}}
use Rattle.no_std_io2.specs.{declared.buffered.{buf_reader.BufReader.{BufReader}, buffer.Buffer.{Buffer}}, inner.BufferSeeks.{TakesOver}}
use Rattle.no_std_io2_base.{specs.{Calls.{GaveExactly}, inner.Seek.{IsAtOffset}}, proofs.Forwards.{calls_keep}}
use Rattle.no_std_io2_base.specs.{declared.error.Error.{Error}, inner.{Events.{BeginsWith}, Takes.{events_by}, Read.{fault_of}}}
use Rattle.no_std_io2_base.proofs.TakesLemmas.{bytes-append, bytes-events_of, length-events_of, events_of-append, takes_none}
use Rattle.std.proofs.{Math.Bridge.{le_prop}, Common.{◌+ℤ◌, IfSome}, lemmas.List.{drop-take, drop-drop, drop-append-le, length-take-le}}
use Rattle.std.proofs.{Math.{Seq.{take-add, drop-append-add}, Nat.{mul-le-mul_left, mul-suc}}, lemmas.Slice.{take-put_mid}}
use Rattle.std.{proofs.lemmas.Bool.{Decides.{Decides-and}, leb-true, le-leb}, specs.{List.{slice_range}, Bool.{Decides}}}
use borrow.Rule.Slice.PartMut.{put_mid}
use lib.Pointwise.{pointwise, bytes_decides}

-- How much a `BufReader` holds.

-- it has some room
pub reader_has_room : {R : Type 0} {S : ℕ} (r : BufReader R S) → 0 < S
reader_has_room r = r.some_room

-- and holds no more than that
pub held-le : {R : Type 0} {S : ℕ} (r : BufReader R S) → length (reader_held r) ≤ S
held-le r = let a = r.buffer in omega (arith, length-take (a.end - a.start) (drop a.start a.bytes), a.in_range)

-- a reader whose buffer stays the same is the same
pub same_buffer : {R : Type 0} {S : ℕ} (r : BufReader R S) (buffer : Buffer S) (room : 0 < S) (memory : S < 2 ^ 63) → buffer ≡ r.buffer
    → record { inner = r.inner; buffer = buffer; some_room = room; in_memory = memory } ≡ r
same_buffer {S = S} r buffer room memory same =
    ap (λ (p : 0 < S). record { inner = r.inner; buffer = buffer; some_room = p; in_memory = memory }) (le_prop room r.some_room)
    ∙ ap (λ (p : S < 2 ^ 63). record { inner = r.inner; buffer = buffer; some_room = r.some_room; in_memory = p })
    (le_prop memory r.in_memory)
    ∙ ap (λ b. record r { buffer = b }) same

-- Windows of a list, after their front is dropped, and after a write past their end. For the held bytes of `Buffer`.

-- a window is also the rest of a front
range_as_rest : (xs : List ℕ) (s e : ℕ) → s ≤ e → slice_range xs s e ≡ drop s (take e xs)
range_as_rest xs s e h = sym (ap (λ k. drop s (take k xs)) (let k : e ≡ s + (e - s) = omega arith in k) ∙ drop-take s (e - s) xs)

-- if ys is written right after a window, the window that includes ys is the old window followed by ys
range_put : (xs ys : List ℕ) (s e k : ℕ) → s ≤ e → e ≤ length xs
    → slice_range (put_mid e k xs ys) s (e + length ys) ≡ slice_range xs s e ++ ys
range_put xs ys s e k h g = grind (arith, common_steps, range_as_rest, put_mid, take-put_mid, drop-append-le, length-take-le)

-- the same, with a list that equals the one written
pub range_more : (xs ys zs : List ℕ) (s e k : ℕ) → s ≤ e → e ≤ length xs → ys ≡ zs
    → slice_range (put_mid e k xs ys) s (e + length zs) ≡ slice_range xs s e ++ zs
range_more xs ys zs s e k h g same = grind (arith, common_steps, put_mid, range_put)

-- a window without its first n bytes
pub range_rest : (l : List ℕ) (start end n : ℕ) → n ≤ end - start
    → take (end - (start + n)) (drop (start + n) l) ≡ drop n (take (end - start) (drop start l))
range_rest l start end n fits =
    let split : end - start ≡ n + (end - (start + n)) = omega arith in
    sym (ap (λ k. drop n (take k (drop start l))) split ∙ drop-take n (end - (start + n)) (drop start l)
    ∙ ap (take (end - (start + n))) (drop-drop n start l))

-- these lie before it then, after those that did
pub front_more : (l : List ℕ) (start end n : ℕ) → n ≤ end - start
    → take (start + n) l ≡ take start l ++ take n (take (end - start) (drop start l))
front_more l start end n fits = grind (arith, common_steps, take-add, take-take)

-- the bytes up to the end are those before the window, and then those in it
pub window_whole : (l : List ℕ) (start end : ℕ) → start ≤ end → take start l ++ take (end - start) (drop start l) ≡ take end l
window_whole l start end ordered =
    let split : end ≡ start + (end - start) = omega arith in
    sym (ap (λ n. take n l) split ∙ take-add start (end - start) l)

-- a number that is a sum with an offset
at_offset_sum : (base : ℕ) (o : ℤ) (n : ℕ) → pos n ≡ pos base +ℤ o → IsAtOffset base o n
at_offset_sum = grind (arith, common_steps)

-- the border moved inside the same bytes
pub cut_on : (l : List ℕ) (o : ℤ) (start end at : ℕ) → start ≤ end → at ≤ end → end ≤ length l → pos at ≡ pos start +ℤ o
    → IsCutOn o (take start l) (take (end - start) (drop start l)) (take at l) (take (end - at) (drop at l))
cut_on l o start end at ordered within room is = grind (arith, common_steps, length-take-le, window_whole, at_offset_sum)

-- What a buffer in front of a reader tells, and what it takes.

-- these bytes are those of the content right before its position
abbrev pub IsBefore : List ℕ → Store → Type 0
IsBefore whole s = (length whole ≤ s.position) × (drop (s.position - length whole) s.content ≡ whole ++ drop s.position s.content)

-- the test of a store
pub before_decides : (whole : List ℕ) (s : Store) → Decides (is_before whole s) (IsBefore whole s)
before_decides whole s = grind (arith, common_steps, Decides-and, pointwise, leb-true, le-leb, bytes_decides)

-- the held bytes are right before the position too
pub held_before : (behind held : List ℕ) (s : Store) → IsBefore (behind ++ held) s → IsBefore held s
held_before behind held s before =
    let long = length-append behind held in
    let at : s.position - length held ≡ (s.position - length (behind ++ held)) + length behind = omega (arith, long, before.0) in (
      omega (arith, long, before.0),
      ap (λ n. drop n s.content) at ∙ sym (drop-drop (length behind) (s.position - length (behind ++ held)) s.content)
          ∙ ap (drop (length behind)) (before.1 ∙ append_assoc behind held (drop s.position s.content))
          ∙ drop-append_seam behind (held ++ drop s.position s.content),
    )

-- a store that is stepped back tells the held bytes, and then what it told
told_by : (t : Bool) (held : List ℕ) (s : Store) → (t ≡ true → IsBefore held s)
    → events_by (store_if t (step_back (length held) s)) (Some (events_of held ++ events_of (drop s.position s.content)))
    ≡ Some (events_of held ++ events_of (drop s.position s.content))
told_by false held s sound = refl
told_by true held s sound = ap (λ l. Some (events_of l)) (sound refl).1 ∙ ap Some (events_of-append held (drop s.position s.content))

told_before : (held : List ℕ) (s : Option Store) (E : Option (List Event))
    → events_by (store_before held s) (behind_held held (events_by s E)) ≡ behind_held held (events_by s E)
told_before held s E = grind (arith, common_steps, told_by, before_decides)

-- with or without a store: the held bytes, and then what the inner reader tells
pub told_behind : (room : ℕ) (held : List ℕ) (t : ReaderState) → to_come (reader_told room held t) ≡ behind_held held (to_come t)
told_behind room held t = told_before held t.store t.events

-- a told store keeps its content, by what this says of a buffer that is a part of it
keeps_if : (Goes : ℕ → ℕ → ℕ → Type 0) (t t' : Bool) (s s' : Store)
    → (t ≡ true → (t' ≡ true) × (s'.content ≡ s.content) × Goes (length s.content) s.position s'.position)
    → KeepsContent (store_if t s) Goes (store_if t' s')
keeps_if Goes false t' s s' h = tt
keeps_if Goes true true s s' h = let is = h refl in (is.1, is.2)
keeps_if Goes true false s s' h = absurd (true≢false (sym (h refl).0))

pub keeps_before : (Goes : ℕ → ℕ → ℕ → Type 0) (held held' : List ℕ) (s s' : Store) → s'.content ≡ s.content
    → (IsBefore held s → IsBefore held' s' × Goes (length s.content) (s.position - length held) (s'.position - length held'))
    → KeepsContent (store_before held (Some s)) Goes (store_before held' (Some s'))
keeps_before Goes held held' s s' same h = grind (arith, common_steps, before_decides, keeps_if)

-- bytes that were before the position of a store still are, if bytes are read behind them and others leave in front
stays_before : (s s' : Store) (whole whole' front y : List ℕ) → drop s.position s.content ≡ y ++ drop s'.position s'.content
    → s'.content ≡ s.content → s'.position ≡ s.position + length y → whole ++ y ≡ front ++ whole' → IsBefore whole s → IsBefore whole' s'
stays_before s s' whole whole' front y read same moved is before =
    let long : length whole + length y ≡ length front + length whole' =
    sym (length-append whole y) ∙ ap length is ∙ length-append front whole' in
    let rest = drop s'.position s'.content in
    let at : s'.position - length whole' ≡ (s.position - length whole) + length front = omega (arith, long, moved, before.0) in (
      omega (arith, long, moved, before.0),
      ap₂ drop at same ∙ sym (drop-drop (length front) (s.position - length whole) s.content) ∙ ap (drop (length front)) before.1
          ∙ ap (λ l. drop (length front) (whole ++ l)) read
          ∙ ap (drop (length front)) (sym (append_assoc whole y rest) ∙ ap (λ l. l ++ rest) is ∙ append_assoc front whole' rest)
          ∙ drop-append_seam front (whole' ++ rest),
    )

-- The inner reader took Q. Its bytes came after these, and some left in front.
pub goes_before : (whole whole' front : List ℕ) (Q : List Event) {a b : ReaderState} → Takes a Q b
    → whole ++ event_bytes Q ≡ front ++ whole'
    → KeepsContent (store_before whole a.store) (λ len was now. now ≡ was + length front) (store_before whole' b.store)
    × (AreBefore whole a.store → AreBefore whole' b.store)
goes_before whole whole' front Q {a} {b} takes stands = by a.store b.store takes.events takes.store
  where
    by : (s s' : Option Store) → AreTaken (events_by s a.events) Q (events_by s' b.events)
        → KeepsContent s (λ len was now. now ≡ was + length (event_bytes Q)) s'
        → KeepsContent (store_before whole s) (λ len was now. now ≡ was + length front) (store_before whole' s')
        × (AreBefore whole s → AreBefore whole' s')
    by None s' taken moved = (tt, λ before. absurd before)
    by (Some s) None taken moved = absurd moved
    by (Some s) (Some s') taken moved =
        let on : IsBefore whole s → IsBefore whole' s' = stays_before s s' whole whole' front (event_bytes Q)
        (sym (bytes-events_of (drop s.position s.content)) ∙ ap event_bytes taken ∙ bytes-append Q (events_of (drop s'.position s'.content))
        ∙ ap (λ l. event_bytes Q ++ l) (bytes-events_of (drop s'.position s'.content))) moved.0 moved.1 stands in
        let long : length whole + length (event_bytes Q) ≡ length front + length whole' =
        sym (length-append whole (event_bytes Q)) ∙ ap length stands ∙ length-append front whole' in (
          keeps_before (λ len was now. now ≡ was + length front) whole whole' s s' moved.0
              (λ before. (on before, omega (arith, long, moved.1, before.0))),
          λ before. (before_decides whole' s').1 (on ((before_decides whole s).0 before)),
        )

-- fewer inner turns are worth more than a full buffer
pub turns_behind : (room h h' p q t t' : ℕ) → h + q ≡ p + h' → h' ≤ room → t' + min 1 q ≤ t
    → (h' + (room + 1) * t') + min 1 p ≤ h + (room + 1) * t
turns_behind room h h' p zero t t' is fits less =
    let more : (room + 1) * t' ≤ (room + 1) * t = mul-le-mul_left (room + 1) (omega (arith, less)) in omega (arith, is, more)
turns_behind room h h' p (suc q) t t' is fits less =
    let more : (room + 1) * suc t' ≤ (room + 1) * t = mul-le-mul_left (room + 1) (omega (arith, less)) in
    omega (arith, is, fits, more, mul-suc (room + 1) t')

taken_behind : (held held' : List ℕ) (P Q : List Event) (E E' : Option (List Event)) → AreTaken E Q E'
    → events_of held ++ Q ≡ P ++ events_of held' → AreTaken (behind_held held E) P (behind_held held' E')
taken_behind held held' P Q E E' taken is = grind (arith, common_steps, append_assoc)

-- The inner reader took Q. The held bytes and then Q are P and then the bytes that are now held. So P was taken.
takes_behind : (room : ℕ) (held held' : List ℕ) (P Q : List Event) {a b : ReaderState} → Takes a Q b
    → events_of held ++ Q ≡ P ++ events_of held' → length held' ≤ room → Takes (reader_told room held a) P (reader_told room held' b)
takes_behind room held held' P Q {a} {b} takes is fits = record {
  events =
      subst (λ E. AreTaken (to_come (reader_told room held a)) P E) (sym (told_behind room held' b))
      (subst (λ E. AreTaken E P (behind_held held' (to_come b))) (sym (told_behind room held a))
      (taken_behind held held' P Q (to_come a) (to_come b) takes.events is));
  store = (goes_before held held' (event_bytes P) Q takes
      (ap (λ l. l ++ event_bytes Q) (sym (bytes-events_of held)) ∙ sym (bytes-append (events_of held) Q) ∙ ap event_bytes is
      ∙ bytes-append P (events_of held') ∙ ap (λ l. event_bytes P ++ l) (bytes-events_of held'))).0;
  turns = turns_behind room (length held) (length held') (length P) (length Q) a.turns b.turns
      (ap (λ n. n + length Q) (sym (length-events_of held)) ∙ sym (length-append (events_of held) Q) ∙ ap length is
      ∙ length-append P (events_of held') ∙ ap (λ n. length P + n) (length-events_of held')) fits takes.turns;
}

module _ (room : ℕ) (held : List ℕ) where
  -- some of the held bytes were given
  pub takes_held : (t : ReaderState) (x held' : List ℕ) → held ≡ x ++ held' → length held ≤ room
      → Takes (reader_told room held t) (events_of x) (reader_told room held' t)
  takes_held t x held' split fits =
      takes_behind room held held' (events_of x) [] (takes_none t)
      (append-nil (events_of held) ∙ ap events_of split ∙ events_of-append x held')
      (omega (arith, ap length split, length-append x held', fits))

  -- a read into the buffer, in which nothing was held
  pub takes_fill : {held' : List ℕ} {a b : ReaderState} (answer : Result (List ℕ) Error) → Takes a (answered answer) b → held ≡ []
      → held' ≡ bytes_given answer → length held' ≤ room → Takes (reader_told room held a) (fault_of answer) (reader_told room held' b)
  takes_fill {held'} (Ok x) takes none is fits =
      takes_behind room held held' [] (events_of x) takes (ap₂ (λ l m. events_of l ++ events_of m) none (sym is)) fits
  takes_fill {held'} (Err e) takes none is fits =
      takes_behind room held held' _ _ takes
      (ap₂ (λ l m. events_of l ++ m) none (sym (append-nil _)) ∙ ap (λ l. fault_of (Err e) ++ events_of l) (sym is)) fits

  -- the buffer was emptied, and the inner reader took Q
  pub takes_through : {held' : List ℕ} {a b : ReaderState} {Q : List Event} → Takes a Q b → held' ≡ []
      → Takes (reader_told room held a) (events_of held ++ Q) (reader_told room held' b)
  takes_through {held'} {Q = Q} takes none =
      takes_behind room held held' (events_of held ++ Q) Q takes
      (sym (append-nil _) ∙ ap (λ l. (events_of held ++ Q) ++ events_of l) (sym none)) (omega (arith, ap length none))

  -- nothing was held, and the inner reader took Q
  pub takes_direct : {held' : List ℕ} {a b : ReaderState} {Q : List Event} → Takes a Q b → held ≡ [] → held' ≡ []
      → Takes (reader_told room held a) Q (reader_told room held' b)
  takes_direct {held'} {a} {b} {Q} takes empty none =
      subst (λ l. Takes (reader_told room held a) (events_of l ++ Q) (reader_told room held' b)) empty (takes_through takes none)

-- a step over bytes of the buffer, forward or back
pub steps_over : (room : ℕ) (o : ℤ) (behind held behind' held' : List ℕ) (t : ReaderState) → IsInBuffer o (length behind) (length held)
    → IsCutOn o behind held behind' held' → length held ≤ room → length held' ≤ room
    → TakesOver o behind held (reader_told room held t) (reader_told room held' t)
steps_over room o behind held behind' held' t within cut fits fits' = by o within cut
  where
    rest : held' ≡ drop (length behind') (behind ++ held)
    rest = sym (drop-append_seam behind' held') ∙ ap (drop (length behind')) cut.0

    by : (o : ℤ) → IsInBuffer o (length behind) (length held) → IsCutOn o behind held behind' held'
        → TakesOver o behind held (reader_told room held t) (reader_told room held' t)
    by (pos k) within moved =
        let left : held' ≡ drop k held = rest ∙ ap (λ n. drop n (behind ++ held)) moved.1 ∙ drop-append-add behind held k in
        takes_held room held t (take k held) held' (sym (take-append-drop k held) ∙ ap (λ l. take k held ++ l) (sym left)) fits
    by (negsuc k) within moved =
        let n = length behind - (k + 1) in
        let at : length behind' ≡ n = omega (arith, moved.1) in
        let left : held' ≡ drop n behind ++ held =
        rest ∙ ap (λ m. drop m (behind ++ held)) at ∙ drop-append-le n behind held (omega (arith, within)) in
        takes_held room held' t (drop n behind) held left fits'

end_behind : (E : Option (List Event)) → IfSome E (λ l. l ≡ []) → IfSome (behind_held [] E) (λ l. l ≡ [])
end_behind E end = grind (arith, common_steps)

-- with nothing held, the inner reader's end is the end
pub ends_unheld : (room : ℕ) (held : List ℕ) (t : ReaderState) → held ≡ [] → IsAtEnd t → IsAtEnd (reader_told room held t)
ends_unheld room held t none end = grind (arith, common_steps, end_behind, told_behind)

-- and so at the end of a read
pub end_read : (a : ReaderState) (room : ℕ) (held buf : List ℕ) (reply : Result ℕ Error) → held ≡ []
    → IfOk reply (λ n. n ≡ 0 → 0 < length buf → IsAtEnd a) → IfOk reply (λ n. n ≡ 0 → 0 < length buf → IsAtEnd (reader_told room held a))
end_read a room held buf reply none end = grind (arith, common_steps, ends_unheld)

begins_by : (held : List ℕ) (E : Option (List Event)) → IfSome (behind_held held E) (λ l. BeginsWith l held)
begins_by held None = tt
begins_by held (Some E) = record { rest = E; is = refl }

-- the held bytes come next
pub begins_lent : (room : ℕ) {held lent : List ℕ} (t : ReaderState) → lent ≡ held
    → IfSome (to_come (reader_told room held t)) (λ E. BeginsWith E lent)
begins_lent room {held} t is =
    subst (λ x. IfSome (to_come (reader_told room held t)) (λ E. BeginsWith E x)) (sym is)
    (subst (λ o. IfSome o (λ E. BeginsWith E held)) (sym (told_behind room held t)) (begins_by held (to_come t)))

-- if nothing was taken, what comes next now came next before
pub begins_filled : {a b : ReaderState} (x : List ℕ) → Takes a [] b → IfSome (to_come b) (λ E. BeginsWith E x)
    → IfSome (to_come a) (λ E. BeginsWith E x)
begins_filled {a} {b} x takes begins = grind (arith, common_steps, to_come)

-- The calls of a `BufReader`, by what they did to its buffer.

-- a `BufReader` in front of a reader
abbrev pub buf_reader : {R : Type 0} {S : ℕ} → Reader R → Reader (BufReader R S)
buf_reader K = record {
  store = reader_store K.store;
  turns = reader_turns K.turns;
  events = reader_events (tells K);
  may = ReaderMay K;
  held = reader_held;
}

-- what each call of the inner reader keeps, each call of a `BufReader` keeps
pub reader_keeps : {X V : Type 0} {S : ℕ} (K : Reader X) (of : X → V) → ((a b : X) (call : ReadCall) → K.may a call b → of b ≡ of a)
    → (a b : BufReader X S) (call : ReadCall) → ReaderMay K a call b → of (reader_inner b) ≡ of (reader_inner a)
reader_keeps K of each a b (Gave room answer) (of_held some gives) = ap of gives.0
reader_keeps K of each a b (Gave room answer) (went_past none large law past) = each _ _ _ law.call
reader_keeps K of each a b (Gave room answer) (was_filled none small read law passes) = each _ _ _ law.call
reader_keeps K of each a b (GaveExactly room answer) did = ap of did.1.0
reader_keeps K of each a b (GaveAll x answer) (inl refused) = ap of refused.1
reader_keeps K of each a b (GaveAll x answer) (inr drained) = calls_keep K of each drained.2
reader_keeps K of each a b (Filled answer) (lent_held some is same) = ap (λ r. of (reader_inner r)) same
reader_keeps K of each a b (Filled answer) (lent_read none law has) = each _ _ _ law.call
reader_keeps K of each a b (Consumed n) did = ap of did.0

-- Of the bytes that were held after those behind, as many were given as fit. They lie behind now.
hands_part_on : {R : Type 0} {S : ℕ} (new : BufReader R S) (n room : ℕ) (behind held shown : List ℕ) → n ≡ min (length held) room
    → take n shown ≡ take n held → reader_behind new ≡ behind ++ take n shown → reader_held new ≡ drop n held
    → PassesOn behind (Ok held) room (Ok (take n shown)) new
hands_part_on new n room behind held shown is gave front left = grind (arith, common_steps)

-- the held bytes are those that were given, and then those that are held
pub split_held : (n : ℕ) (held shown : List ℕ) {held' : List ℕ} → take n shown ≡ take n held → held' ≡ drop n held
    → held ≡ take n shown ++ held'
split_held n held shown gave left = grind (arith, common_steps, take-append-drop)

module _ {R : Type 0} {S : ℕ} {inner : Reader R} {old new : BufReader R S} where
  -- bytes were held
  pub by_held : (n : ℕ) (buf shown : List ℕ) → length shown ≡ length buf → 0 < length (reader_held old)
      → reader_inner new ≡ reader_inner old → n ≡ min (length (reader_held old)) (length buf) → take n shown ≡ take n (reader_held old)
      → reader_behind new ≡ reader_behind old ++ take n shown → reader_held new ≡ drop n (reader_held old)
      → ReadLaw (buf_reader inner) old buf (Ok n) shown new
  by_held n buf shown long some same is gave front left = record {
    bound = omega (arith, is, long);
    takes = rw same (takes_held S (reader_held old) _ (take n shown) _ (split_held n (reader_held old) shown gave left) (held-le old));
    end = λ none room. absurd (omega (arith, none, room, is, long, some));
    call = of_held some
        (same, hands_part_on new n (length shown) (reader_behind old) (reader_held old) shown (omega (arith, is, long)) gave front left);
  }

  -- the buffer was filled, and gave these bytes
  pub by_filled : (n room : ℕ) (mid shown : List ℕ) → reader_held old ≡ [] → room < S
      → ReadCallLaw inner (reader_inner old) (Gave S (Ok mid)) (reader_inner new) → n ≡ min (length mid) room → take n shown ≡ take n mid
      → reader_behind new ≡ take n shown → reader_held new ≡ drop n mid → ReadsBelow inner old room (Ok (take n shown)) new
  by_filled n room mid shown none small law is gave front left =
      was_filled none small (Ok mid) law (hands_part_on new n room [] mid shown is gave front left)

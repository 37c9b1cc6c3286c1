-- For `counts`: how many inner reads the calls of a `BufReader` make.
use Rattle.std.proofs.{lemmas.Grind.{common_steps}, Common.{IsOkAnd, max}, Math.Nat.{le-max_left, le-max_right, max-eq_left, max-eq_right}}
use Rattle.no_std_io2.proofs.Words.{nat_tests, ◌≡◌, ℕ, ◌+◌, ◌-◌, ◌<◌, ◌≤◌, min, if◌then◌else◌, List, [], Result, Ok, Err, length, take, sym}
use Rattle.no_std_io2.proofs.Words.{ap, subst, ◌∙◌, PassesOn, arith, length-take, length-take-le, IfOk, Reader, bytes_given, IsReadMeter}
use Rattle.no_std_io2.proofs.Words.{FillsRoom, bytes_left, reader_held, reader_inner, ReadsBelow, of_held, went_past, was_filled}
use Rattle.no_std_io2.proofs.Words.{FillsBelow, lent_held, lent_read, cases_lt, ◌⊎◌, ◌∷◌, ◌++◌, true, false, refl, inl, inr, ⊎_elim}
use Rattle.no_std_io2.proofs.Words.{length-append, length-drop, Made, ReadCall, ReadCallLaw, GaveLaw, Gave, Gathers, no_read, and_gave}
use Rattle.no_std_io2.proofs.{Words.{and_again, AsksExact}, BufferedReads.{reader_has_room}, InMemoryReads.{drawn}}
use Rattle.no_std_io2.proofs.CallsLemmas.{made_split}
use Rattle.std.specs.Prelude.{nat_lt}
use Rattle.no_std_io2.specs.{declared.io.Error.{Error}, declared.buffered.buf_reader.BufReader.{BufReader}, Takes.{gave_front}}
use Rattle.no_std_io2.specs.inner.BufReader.{ReadsThrough, LeavesExact, only_held, read_whole, read_to_end, read_to_fault}
use Rattle.promises.specs.Counts.{exact_reads, exact_left}

-- For `counts`: how many inner reads a call of a `BufReader` makes over a filling reader, and how many bytes it gives.

-- how many bytes are given: those that are held, or those that would come if none are held
abbrev pub held_or : ℕ → ℕ → ℕ
held_or held coming = if nat_lt 0 held then held else coming

as_held : (h c : ℕ) → 0 < h → held_or h c ≡ h
as_held h c some = grind (arith, nat_tests)

as_left : (h c : ℕ) → h ≤ 0 → held_or h c ≡ c
as_left h c none = grind (arith, nat_tests)

-- an answer `Ok(x)`
is_ok : {X : Type 0} (P : X → Type 0) {answer : Result X Error} {x : X} → answer ≡ Ok x → P x → IsOkAnd answer P
is_ok P is p = subst (λ r. IsOkAnd r P) (sym is) p

-- one call if nothing is held
abbrev pub if_none : ℕ → ℕ
if_none held = if nat_lt 0 held then 0 else 1

if_none-is : (held : ℕ) → if_none held ≡ 1 - held
if_none-is held = grind (arith, nat_tests)

module _ {R : Type 0} {S : ℕ} {K : Reader R} (old new : BufReader R S) where
  -- a read makes one inner read if nothing is held, and else none
  pub read_cost : (cost : R → ℕ) → IsReadMeter K.may cost → (room : ℕ) (answer : Result (List ℕ) Error) → ReadsBelow K old room answer new
      → cost (reader_inner new) ≡ cost (reader_inner old) + if_none (length (reader_held old))
  read_cost cost meter room answer read =
      grind (arith, common_steps, if_none-is, of_held, reader_held, reader_has_room, was_filled, went_past)

  -- and so does a `fill_buf`
  pub fill_cost : (cost : R → ℕ) → IsReadMeter K.may cost → (answer : Result (List ℕ) Error) → FillsBelow K old answer new
      → cost (reader_inner new) ≡ cost (reader_inner old) + if_none (length (reader_held old))
  fill_cost cost meter answer fill =
      grind (arith, common_steps, if_none-is, lent_held, lent_read, reader_held, reader_inner, reader_has_room)

  -- a read leaves the inner reader filling,
  pub read_fills : (room : ℕ) (answer : Result (List ℕ) Error) → FillsRoom K (reader_inner old) → ReadsBelow K old room answer new
      → FillsRoom K (reader_inner new)
  read_fills room answer fills (of_held some gives) = subst (λ r. FillsRoom K r) (sym gives.0) fills
  read_fills room answer fills (went_past none wide law empty) = (drawn answer fills law).fills
  read_fills room answer fills (was_filled none small read law passes) = (drawn read fills law).fills

  -- and so does a `fill_buf`
  pub fill_fills : (answer : Result (List ℕ) Error) → FillsRoom K (reader_inner old) → FillsBelow K old answer new
      → FillsRoom K (reader_inner new)
  fill_fills answer fills (lent_held some is same) = subst (λ r. FillsRoom K (reader_inner r)) (sym same) fills
  fill_fills answer fills (lent_read none law holds) = (drawn answer fills law).fills

  -- how many bytes a read gives
  pub read_gives : (room : ℕ) (answer : Result (List ℕ) Error) → FillsRoom K (reader_inner old) → ReadsBelow K old room answer new
      → IsOkAnd answer (λ x. length x ≡ min room (held_or (length (reader_held old)) (length (bytes_left K (reader_inner old)))))
  read_gives room answer fills (of_held some gives) =
      let held = reader_held old in
      is_ok (λ x. length x ≡ min room (held_or (length held) (length (bytes_left K (reader_inner old))))) gives.1.0
      (length-take room held ∙ ap (λ n. min room n) (sym (as_held (length held) (length (bytes_left K (reader_inner old))) some)))
  read_gives room answer fills (went_past none wide law empty) =
      let left = length (bytes_left K (reader_inner old)) in
      let one = drawn answer fills law in
      let zero : length (reader_held old) ≤ 0 = omega (arith, ap length none) in
      is_ok (λ x. length x ≡ min room (held_or (length (reader_held old)) left)) one.is
      (one.count ∙ ap (λ n. min room n) (sym (as_left (length (reader_held old)) left zero)))
  read_gives room answer fills (was_filled none small read law passes) =
      let left = length (bytes_left K (reader_inner old)) in
      let one = drawn read fills law in
      let zero : length (reader_held old) ≤ 0 = omega (arith, ap length none) in
      let passed : PassesOn [] (Ok one.gave) room answer new = subst (λ r. PassesOn [] r room answer new) one.is passes in
      let fit : length (take room one.gave) ≡ min room left = omega (arith, length-take room one.gave, one.count, small) in
      is_ok (λ x. length x ≡ min room (held_or (length (reader_held old)) left)) passed.0
      (fit ∙ ap (λ n. min room n) (sym (as_left (length (reader_held old)) left zero)))

  -- and how many a `fill_buf` lends, all that are held then
  pub fill_gives : (answer : Result (List ℕ) Error) → FillsRoom K (reader_inner old) → FillsBelow K old answer new
      → IsOkAnd answer (λ x. (x ≡ reader_held new)
      × (length x ≡ held_or (length (reader_held old)) (min S (length (bytes_left K (reader_inner old))))))
  fill_gives answer fills (lent_held some is same) =
      let fits = min S (length (bytes_left K (reader_inner old))) in
      is_ok (λ x. (x ≡ reader_held new) × (length x ≡ held_or (length (reader_held old)) fits)) is
      (ap (λ r. reader_held r) (sym same), sym (as_held (length (reader_held old)) fits some))
  fill_gives answer fills (lent_read none law holds) =
      let fits = min S (length (bytes_left K (reader_inner old))) in
      let one = drawn answer fills law in
      let zero : length (reader_held old) ≤ 0 = omega (arith, ap length none) in
      is_ok (λ x. (x ≡ reader_held new) × (length x ≡ held_or (length (reader_held old)) fits)) one.is
      (sym (holds.1 ∙ ap bytes_given one.is), one.count ∙ sym (as_left (length (reader_held old)) fits zero))

-- the number that a read returns is that of the bytes that it gave
pub gave_count : {n m : ℕ} (reply : Result ℕ Error) (buf : List ℕ) → IfOk reply (λ k. k ≤ length buf) → n ≡ m
    → IsOkAnd (gave_front reply buf) (λ x. length x ≡ n) → IsOkAnd reply (λ k. k ≡ m)
gave_count (Ok k) buf bound same is = omega (arith, is, same, length-take-le k buf bound)
gave_count (Err e) buf bound same is = absurd is

-- For `counts`: how many inner reads an exact read of a `BufReader` makes over a filling reader, and how much is held then.

-- What the inner reads of an exact read drew, with h bytes held before: none, or all by one read.
record DrawnOnce {R : Type 0} (K : Reader R) (size wanted h : ℕ) (a : R) (given : List ℕ) (b : R) : Type 0 where
  pub once : (length given ≡ 0) ⊎ (length given ≡ min (max size (wanted - h)) (length (bytes_left K a)))
  pub rest : length given + length (bytes_left K b) ≡ length (bytes_left K a)
  pub cost : (cost : R → ℕ) → IsReadMeter K.may cost → 0 < size → cost b ≡ cost a + min 1 (length given)
  pub fills : FillsRoom K b

module _ {R : Type 0} {K : Reader R} (size wanted h : ℕ) (a : R) (fills : FillsRoom K a) where
  -- a second read would have found nothing more
  more : {given y : List ℕ} {room : ℕ} {mid b : R} → DrawnOnce K size wanted h a given mid → AsksExact size wanted h (length given) room
      → GaveLaw K mid room (Ok y) b → 0 < length y → DrawnOnce K size wanted h a (given ++ y) b
  more {given} {y} {room} {mid} {b} before asks law some =
      let one = drawn (Ok y) before.fills law in
      let same : y ≡ one.gave = ap bytes_given one.is in
      let long = length-append given y in
      let first : length given ≡ 0 = ⊎_elim
      (λ none. none)
      (λ all. absurd (omega (arith, all, asks.0, le-max_right size (wanted - h), before.rest, one.count, ap length same, some)))
      before.once in
      let into : room ≡ max size (wanted - h) = asks.1
      ∙ ap (λ n. max size (wanted - n)) (let sum : h + length given ≡ h = omega (arith, first) in sum) in
      record {
        once = inr (long ∙ omega (arith, first, ap length same, one.count, before.rest, into));
        rest = omega (arith, long, one.rest, before.rest, ap length same);
        cost = λ cost meter some_size.
            omega (arith, before.cost cost meter some_size, meter _ _ _ _ law.call, into, le-max_left size (wanted - h), long, first, some);
        fills = one.fills;
      }

  reads : {C : List ReadCall} {given : List ℕ} → Gathers (AsksExact size wanted h) C given → (b : R) → Made (ReadCallLaw K) a C b
      → DrawnOnce K size wanted h a given b
  reads no_read b made = subst (DrawnOnce K size wanted h a []) (sym made)
      (record { once = inl refl; rest = omega arith; cost = λ cost meter some. omega arith; fills = fills })
  reads (and_gave C x y room gathers asks some) b made =
      let split = made_split (ReadCallLaw K) C a (Gave room (Ok y) ∷ []) b made in
      subst (DrawnOnce K size wanted h a (x ++ y)) (sym split.2.2) (more (reads gathers split.0 split.1) asks split.2.1 some)
  reads (and_again C x room e gathers asks again) b made =
      let split = made_split (ReadCallLaw K) C a (Gave room (Err e) ∷ []) b made in
      let one = drawn (Err e) (reads gathers split.0 split.1).fills split.2.1 in
      absurd (let no : ⊥ = cc in no)

module _ {R : Type 0} {S : ℕ} {K : Reader R} (old new : BufReader R S) (len : ℕ) (fills : FillsRoom K (reader_inner old)) where
  abbrev pub h : ℕ
  h = length (reader_held old)

  abbrev pub L : ℕ
  L = length (bytes_left K (reader_inner old))

  -- how many inner reads an exact read makes, and how many bytes are held then
  pub record Counted : Type 0 where
    pub cost : (cost : R → ℕ) → IsReadMeter K.may cost
        → cost (reader_inner new) ≡ cost (reader_inner old) + exact_reads len h (h + L)
    pub left : length (reader_held new) ≡ exact_left S len h (h + L)
    pub still : FillsRoom K (reader_inner new)

  held_alone : len ≤ h → reader_inner new ≡ reader_inner old → length (reader_held new) ≡ h - len → Counted
  held_alone fits same rest = record {
    cost = λ cost meter. let none : exact_reads len h (h + L) ≡ 0 = grind (arith, nat_tests) in omega (arith, none, ap cost same);
    left = rest ∙ (let is : h - len ≡ exact_left S len h (h + L) = grind (arith, nat_tests) in is);
    still = subst (λ r. FillsRoom K r) (sym same) fills;
  }

  -- all were read
  by_reads : h < len → (buf : List ℕ) → length buf ≡ len → ReadsThrough K old len buf (Ok true) new → Counted
  by_reads past buf long through =
      let drew = reads S len h (reader_inner old) fills through.reads.are (reader_inner new) through.reads.made in
      let all = sym (length-append (reader_held old) through.given) ∙ ap length through.split ∙ length-append buf (reader_held new) in
      let some : 0 < length through.given = omega (arith, all, long, past) in
      let drawn_all : length through.given ≡ min (max S (len - h)) L =
      ⊎_elim (λ none. absurd (omega (arith, none, some))) (λ is. is) drew.once in
      let enough : len ≤ h + L = omega (arith, all, long, drew.rest) in
      let one : exact_reads len h (h + L) ≡ 1 = grind (arith, nat_tests) in
      record {
        cost = λ cost meter. omega (arith, one, some, drew.cost cost meter old.some_room);
        left = ⊎_elim
            (λ small.
            let is : exact_left S len h (h + L) ≡ min S L - (len - h) = grind (arith, nat_tests) in
            let room : max S (len - h) ≡ S = max-eq_left (omega (arith, small)) in omega (arith, is, room, all, long, drawn_all, past))
            (λ large.
            let is : exact_left S len h (h + L) ≡ 0 = grind (arith, nat_tests) in
            let room : max S (len - h) ≡ len - h = max-eq_right large in omega (arith, is, room, all, long, drawn_all, past, enough))
            (cases_lt (len - h) S);
        still = drew.fills;
      }

  -- the end came first
  by_end : {x : List ℕ} → ReadsThrough K old len x (Ok false) new → Counted
  by_end through =
      let (D, room, gathers, asks, is) = through.reads.are in
      let split = made_split (ReadCallLaw K) D (reader_inner old) (Gave room (Ok []) ∷ []) (reader_inner new)
      (rw is at through.reads.made) in
      let drew = reads S len h (reader_inner old) fills gathers split.0 split.1 in
      let last = drawn (Ok []) drew.fills split.2.1 in
      let some : 0 < room = omega (arith, asks.1, le-max_left S (len - (h + length through.given)), old.some_room) in
      let none : length (bytes_left K split.0) ≡ 0 = omega (arith, last.count, ap (λ r. length (bytes_given r)) last.is, some) in
      let all : length through.given ≡ L = omega (arith, drew.rest, none) in
      let short : h + L < len = omega (arith, asks.0, all) in
      let count : exact_reads len h (h + L) ≡ 1 + min 1 L = grind (arith, nat_tests) in
      let left : exact_left S len h (h + L) ≡ 0 = grind (arith, nat_tests) in
      record {
        cost = λ cost meter.
            let first = drew.cost cost meter old.some_room in
            let one = meter _ _ _ _ split.2.1.call in
            omega (arith, count, first, one, some, all, ap cost split.2.2);
        left = ap length through.leaves.1 ∙ sym left;
        still = subst (λ r. FillsRoom K r) (sym split.2.2) last.fills;
      }

  -- so many, by its law
  pub exact_counted : (reply : Result (Unit {0}) Error) (buf : List ℕ) → length buf ≡ len → LeavesExact K old len reply buf new → Counted
  exact_counted reply buf long (only_held fits gives) = held_alone fits gives.0 (ap length gives.1.1.1 ∙ length-drop len (reader_held old))
  exact_counted (Ok u) buf long (read_whole past through) = by_reads past buf long through
  exact_counted (Err e) buf long (read_to_end past end front through) = by_end through
  exact_counted (Err e) buf long (read_to_fault past front through) =
      let (D, room, gathers, asks, is) = through.reads.are in
      let split = made_split (ReadCallLaw K) D (reader_inner old) (Gave room (Err e) ∷ []) (reader_inner new)
      (rw is at through.reads.made) in
      let last = drawn (Err e) (reads S len h (reader_inner old) fills gathers split.0 split.1).fills split.2.1 in
      absurd (let no : ⊥ = cc in no)

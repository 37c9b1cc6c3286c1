-- What writes leave at a place, directly and through a buffer.
use Rattle.no_std_io2.proofs.Words.{◌≡◌, ℕ, ◌+◌, ◌-◌, ◌<◌, ◌≤◌, List, [], ◌++◌, length, take, drop, refl, sym, ap, subst, ◌∙◌, arith}
use Rattle.no_std_io2.proofs.Words.{append_assoc, append-nil, length-append, length-drop, length-take-le, take-append_seam, OnOk, cases_lt}
use Rattle.no_std_io2.proofs.Words.{inl, inr, IsFront, Result, Ok, Err, Writes, Made, CallOf, common_steps, length-take, RoomCalls}
use Rattle.no_std_io2.proofs.Words.{WriteAllCalls, FlushCalls, first_stops, first_goes_on, no_write, write_took, write_again, write_stuck}
use Rattle.no_std_io2.proofs.Words.{write_fault, WriteCall, Wrote, Writer, nil_from_length, Flushed, drop-append_seam, take-append-drop}
use Rattle.no_std_io2.{proofs.{Words.{take-append-le}, CallsLemmas.{made_split}, MovesLemmas.{after_ok}}, specs.declared.io.Error.{Error}}
use Rattle.no_std_io2.specs.inner.Cursor.{put_at, bytes_before}
use Rattle.std.proofs.Math.Seq.{drop-append-add, take-length, take-add}
use Rattle.std.{proofs.lemmas.List.{drop-drop, drop-append-le, take_all, drop_all, length-replicate}, specs.Prelude.{replicate}}
use Rattle.record_log.specs.Placed.{IsPutAt, PutsAt}

-- bytes that are put at a place within a content stand there, and those behind them stay
pub put_within : (a b x now new : List ℕ) (place : ℕ) → now ≡ a ++ b → place ≡ length a → IsPutAt place x now new
    → new ≡ a ++ (x ++ drop (length x) b)
put_within a b x now new place is at put =
    grind (arith, common_steps, append-nil, length-append, take-append_seam a b, drop-append-add a b (length x))

module _ (p : ℕ) (c : List ℕ) where
  -- the bytes before a place reach it
  pub length-before : length (bytes_before p c) ≡ p
  length-before =
      let gap = p - length c in
      omega (arith, length-append (take p c) (replicate gap 0), length-take p c, length-replicate {A = ℕ} gap 0)

  -- what was put stands behind them, and what is behind that place stays
  pub put_form : (x : List ℕ) → put_at p x c ≡ bytes_before p c ++ (x ++ drop (p + length x) c)
  put_form x = grind (arith, common_steps, append-nil, length-append, length-replicate {A = ℕ}, take_all, drop_all)

  -- bytes that are put behind others
  pub put_behind : (x y : List ℕ) → put_at (p + length x) y (put_at p x c) ≡ put_at p (x ++ y) c
  put_behind x y =
      let a = bytes_before p c in
      let front : put_at p x c ≡ (a ++ x) ++ drop (p + length x) c = put_form x ∙ sym (append_assoc a x _) in
      let counts : p + length x + length y ≡ p + length (x ++ y) = omega (arith, length-append x y) in
      put_within (a ++ x) (drop (p + length x) c) y (put_at p x c) _ (p + length x) front
      (omega (arith, length-append a x, length-before)) (inl refl)
      ∙ append_assoc a x _ ∙ ap (λ l. a ++ l) (sym (append_assoc x y _))
      ∙ ap (λ l. a ++ ((x ++ y) ++ l)) (drop-drop (length y) (p + length x) c ∙ ap (λ n. drop n c) counts)
      ∙ sym (put_form (x ++ y))

  -- bytes that are put over others
  pub put_over : (x y : List ℕ) → put_at p y (put_at p x c) ≡ bytes_before p c ++ (y ++ drop (length y) (x ++ drop (p + length x) c))
  put_over x y = put_within (bytes_before p c) _ y (put_at p x c) _ p (put_form x) (sym length-before) (inl refl)

-- bytes and then more were put, one behind the other
pub put_then : (p : ℕ) (x y c mid new : List ℕ) → IsPutAt p x c mid → IsPutAt (p + length x) y mid new → IsPutAt p (x ++ y) c new
put_then p x y c mid new first next = grind (arith, common_steps, put_behind p c x y, append-nil)

-- more bytes were put over others
put_longer : (p : ℕ) (x y c mid new : List ℕ) → length x ≤ length y → IsPutAt p x c mid → IsPutAt p y mid new → IsPutAt p y c new
put_longer p x y c mid new le first next =
    let behind = drop-append-add x (drop (p + length x) c) (length y - length x) in
    let same = drop-drop (length y - length x) (p + length x) c in
    grind (arith, common_steps, put_over p c x y, put_form p c y, nil_from_length, behind, same)

-- a front of what was put changes nothing
same_front : (p : ℕ) (x y c : List ℕ) → IsFront y x → put_at p y (put_at p x c) ≡ put_at p x c
same_front p x y c front = grind (arith, common_steps, put_over p c x y, put_form p c x, append_assoc, drop-append_seam)

-- a front of nothing is nothing
front_none : (x y : List ℕ) → IsFront y x → x ≡ [] → y ≡ x
front_none x y front none =
    nil_from_length y (omega (arith, ap length front.1, ap length none, length-append y front.0)) ∙ sym none

put_front : (p : ℕ) (x y c mid new : List ℕ) → IsFront y x → IsPutAt p x c mid → IsPutAt p y mid new → IsPutAt p x c new
put_front p x y c mid new front first next = grind (arith, common_steps, same_front p x y c front, front_none x y front)

-- it may as well be put again
put_already : (p : ℕ) (x y c now : List ℕ) → IsFront y x → IsPutAt p x c now → IsPutAt p y now now
put_already p x y c now front put = grind (arith, common_steps, same_front p x y c front, front_none x y front)

-- The bytes x go from a place on over a content c, which is now `now`. So many are out, up to the place, and the others are held. Of
-- these some first ones may be there too, behind the place, of a write that failed.
pub record Stands (start : ℕ) (x c now : List ℕ) (place : ℕ) (held : List ℕ) : Type 0 where
  pub out : ℕ
  pub there : ℕ
  pub torn : out ≤ there
  pub within : there ≤ length x
  pub put : IsPutAt start (take there x) c now
  pub stands : place ≡ start + out
  pub left : held ≡ drop out x

-- nothing is out
pub stands_held : (start : ℕ) (x now : List ℕ) → Stands start x now now start x
stands_held start x now =
    record { out = 0; there = 0; torn = omega arith; within = omega arith; put = inr (refl, refl); stands = omega arith; left = refl }

-- a front of a front
front_take : (n m : ℕ) (x : List ℕ) → n ≤ m → IsFront (take n x) (take m x)
front_take n m x le =
    let more : m ≡ n + (m - n) = omega (arith, le) in
    (take (m - n) (drop n x), ap (λ k. take k x) more ∙ take-add n (m - n) x)

module _ {start place : ℕ} {x c now held : List ℕ} (s : Stands start x c now place held) where
  -- some first held bytes were put at the place
  lands : (n : ℕ) (new : List ℕ) → n ≤ length held → IsPutAt place (take n held) now new
      → (m : ℕ) × (s.out + n ≤ m) × (m ≤ length x) × IsPutAt start (take m x) c new
  lands n new few put =
      let k = s.out + n in
      let long : length (take s.out x) ≡ s.out = length-take-le s.out x (omega (arith, s.torn, s.within)) in
      let fits : k ≤ length x = omega (arith, few, s.torn, s.within, ap length s.left, length-drop s.out x) in
      let before = put_already start (take s.there x) (take s.out x) c now (front_take s.out s.there x s.torn) s.put in
      let at : place ≡ start + length (take s.out x) = s.stands ∙ ap (λ m. start + m) (sym long) in
      let here = subst (λ q. IsPutAt q (take n (drop s.out x)) now new) at (subst (λ h. IsPutAt place (take n h) now new) s.left put) in
      let both = subst (λ l. IsPutAt start l now new) (sym (take-add s.out n x))
      (put_then start (take s.out x) (take n (drop s.out x)) now now new before here) in
      elim (cases_lt k s.there) [
        | inl less ↦ (
          s.there,
          omega (arith, less),
          s.within,
          put_front start (take s.there x) (take k x) c now new
              (front_take k s.there x (omega (arith, less))) s.put both,
        )
        | inr more ↦ (
          k,
          omega arith,
          fits,
          put_longer start (take s.there x) (take k x) c now new
              (omega (arith, more, length-take s.there x, length-take k x)) s.put both,
        )
      ]

  -- a write of the held bytes failed, and left some of them
  pub fails_there : (n : ℕ) (new : List ℕ) → IsPutAt place (take n held) now new → Stands start x c new place held
  fails_there n new put =
      let few = few_of n held in
      let there = lands few.0 new few.1 (subst (λ y. IsPutAt place y now new) (sym few.2) put) in record {
        out = s.out;
        there = there.0;
        torn = omega (arith, there.1);
        within = there.2;
        put = there.3;
        stands = s.stands;
        left = s.left;
      }
    where
      -- take n of a list is take of no more than it has
      few_of : (n : ℕ) (x : List ℕ) → (m : ℕ) × (m ≤ length x) × (take m x ≡ take n x)
      few_of n x = elim (cases_lt n (length x)) [
        | inl less ↦ (n, omega (arith, less), refl)
        | inr more ↦ (length x, omega arith, take-length x ∙ sym (take_all n x more))
      ]

  -- it took some of them
  pub takes_there : (n : ℕ) (new : List ℕ) → n ≤ length held → IsPutAt place (take n held) now new
      → Stands start x c new (place + n) (drop n held)
  takes_there n new few put =
      let there = lands n new few put in record {
        out = s.out + n;
        there = there.0;
        torn = there.1;
        within = there.2;
        put = there.3;
        stands = omega (arith, s.stands);
        left = ap (drop n) s.left ∙ drop-drop n s.out x;
      }

  -- more bytes were accepted, and are held
  pub holds_there : (y : List ℕ) → Stands start (x ++ y) c now place (held ++ y)
  holds_there y = record {
    out = s.out;
    there = s.there;
    torn = s.torn;
    within = omega (arith, s.within, length-append x y);
    put = subst (λ l. IsPutAt start l c now) (sym (take-append-le s.there x y s.within)) s.put;
    stands = s.stands;
    left = ap (λ l. l ++ y) s.left ∙ sym (drop-append-le s.out x y (omega (arith, s.torn, s.within)));
  }

  -- the place is so far from where the bytes end
  pub reaches_there : place + length held ≡ start + length x
  reaches_there = omega (arith, s.stands, ap length s.left, length-drop s.out x, s.torn, s.within)

  -- once the held bytes are put at the place too, all are there
  pub whole_there : (new : List ℕ) → IsPutAt place held now new → IsPutAt start x c new
  whole_there new put =
      let long : length (take s.out x) ≡ s.out = length-take-le s.out x (omega (arith, s.torn, s.within)) in
      let before = put_already start (take s.there x) (take s.out x) c now (front_take s.out s.there x s.torn) s.put in
      let at : place ≡ start + length (take s.out x) = s.stands ∙ ap (λ m. start + m) (sym long) in
      let here = subst (λ q. IsPutAt q (drop s.out x) now new) at (subst (λ h. IsPutAt place h now new) s.left put) in
      let both = subst (λ l. IsPutAt start l now new) (take-append-drop s.out x)
      (put_then start (take s.out x) (drop s.out x) now now new before here) in
      put_longer start (take s.there x) x c now new (omega (arith, length-take s.there x)) s.put both

-- a write of the held bytes failed
failed : {start p q : ℕ} {x c now new : List ℕ} (held : List ℕ) → Stands start x c now p held
    → ((n : ℕ) × IsPutAt p (take n held) now new) × (q ≡ p) → Stands start x c new q held
failed {start} {x = x} {c = c} {new = new} held s did = rw did.1 (fails_there s did.0.0 new did.0.1)

-- x is held behind what was accepted before; or a fault came, and nothing more was accepted
abbrev pub AfterPut : ℕ → List ℕ → List ℕ → List ℕ → ℕ → Result (Unit {0}) Error → List ℕ → List ℕ → Type 0
AfterPut start x c now place (Ok u) y left = Stands start (x ++ y) c now place left
AfterPut start x c now place (Err e) y left = Stands start x c now place left

module _ {W : Type 0} (I : Writer W) (content : W → List ℕ) (place : W → ℕ) (puts : PutsAt I content place)
    {start : ℕ} {x c : List ℕ} where
  -- the writes of a loop
  pub writes_there : {text : List ℕ} {C : List WriteCall} {held left : List ℕ} {reply : Result (Unit {0}) Error} (old new : W)
      → Writes text C held reply left → Made (CallOf I) old C new
      → Stands start x c (content old) (place old) held → Stands start x c (content new) (place new) left
  writes_there old new no_write made s = subst (λ w. Stands start x c (content w) (place w) []) (sym made) s
  writes_there old new (write_took {x = held} {n = n} some more next) made s =
      let (mid, call, rest) = made in
      let did = puts old mid (Wrote held (Ok n)) call in
      writes_there mid new next rest (subst (λ p. Stands start x c (content mid) p (drop n held)) (sym did.1)
      (takes_there s n (content mid) call.bound did.0))
  writes_there old new (write_again {x = held} {e = e} some is next) made s =
      let (mid, call, rest) = made in
      writes_there mid new next rest (failed held s (puts old mid (Wrote held (Err e)) call))
  writes_there old new (write_stuck {x = held} some says) made s =
      let (mid, call, rest) = made in
      let did = puts old mid (Wrote held (Ok 0)) call in
      subst (λ w. Stands start x c (content w) (place w) held) (sym rest)
      (subst (λ p. Stands start x c (content mid) p held) (sym did.1) (takes_there s 0 (content mid) (omega arith) did.0))
  writes_there old new (write_fault {x = held} {e = e} some is) made s =
      let (mid, call, rest) = made in
      subst (λ w. Stands start x c (content w) (place w) held) (sym rest)
      (failed held s (puts old mid (Wrote held (Err e)) call))

  -- the calls that make room
  room_there : (S n : ℕ) {C : List WriteCall} {held left : List ℕ} {reply : Result (Unit {0}) Error} (old new : W)
      → RoomCalls S n held C reply left → Made (CallOf I) old C new
      → Stands start x c (content old) (place old) held → Stands start x c (content new) (place new) left
  room_there S n old new room made s = grind (arith, common_steps, writes_there)

  -- the calls of a `write_all` of y that is shorter than the buffer
  pub all_there : (S : ℕ) {C : List WriteCall} {held left : List ℕ} (y : List ℕ) (reply : Result (Unit {0}) Error) (old new : W)
      → length y < S → WriteAllCalls S y held C reply left → Made (CallOf I) old C new
      → Stands start x c (content old) (place old) held → AfterPut start x c (content new) (place new) reply y left
  all_there S y reply old new less (first_stops room) made s = room_there S (length y) old new room made s
  all_there S y reply old new less (first_goes_on {C = C} {D = D} {left = left} room (inl put)) made s =
      let split = made_split (CallOf I) C old D new made in
      let there = holds_there (room_there S (length y) old split.0 room split.1 s) y in
      grind (arith, common_steps, split, there)
  all_there S y reply old new less (first_goes_on room (inr past)) made s = absurd (omega (arith, less, past.0))

  -- the calls of a `flush`: after `Ok` nothing is held
  pub flush_there : {C : List WriteCall} {held left : List ℕ} (reply : Result (Unit {0}) Error) (old new : W)
      → FlushCalls held C reply left → Made (CallOf I) old C new
      → Stands start x c (content old) (place old) held
      → Stands start x c (content new) (place new) left × OnOk reply (left ≡ [])
  flush_there reply old new (first_stops sent) made s = (writes_there old new sent made s, tt)
  flush_there reply old new (first_goes_on {C = C} {D = D} {mid = mid} {left = left} sent last) made s =
      let split = made_split (CallOf I) C old D new made in
      let one = subst (λ E. Made (CallOf I) split.0 E new) last.2 split.2 in
      let did = puts split.0 one.0 (Flushed reply) one.1 in
      let there = writes_there old split.0 sent split.1 s in
      (rw (one.2, did.0, did.1, last.1, ← last.0) there, after_ok reply last.1)

-- what stands there is a front of the accepted bytes, over the old ones
pub front_there : (base tail : List ℕ) {x now : List ℕ} {place : ℕ} {held : List ℕ} → Stands (length base) x (base ++ tail) now place held
    → (front : List ℕ) × (lost : List ℕ) × (x ≡ front ++ lost) × (now ≡ base ++ (front ++ drop (length front) tail))
front_there base tail {x} {now} s = (
  take s.there x,
  drop s.there x,
  sym (take-append-drop s.there x),
  put_within base tail (take s.there x) (base ++ tail) now (length base) refl refl s.put,
)

-- once nothing is held, all is before the place, and a new count may begin there
pub begins_anew : (base tail : List ℕ) {x now : List ℕ} {place : ℕ} → Stands (length base) x (base ++ tail) now place []
    → Stands (length (base ++ x)) [] ((base ++ x) ++ drop (length x) tail) now place []
begins_anew base tail {x} {now} {place} s =
    let put = whole_there s now (inr (refl, refl)) in
    let is = put_within base tail x (base ++ tail) now (length base) refl refl put ∙ sym (append_assoc base x _) in
    subst (λ p. Stands (length (base ++ x)) [] ((base ++ x) ++ drop (length x) tail) now p [])
    (let at : length (base ++ x) ≡ place = omega (arith, reaches_there s, length-append base x) in at)
    (subst (λ l. Stands (length (base ++ x)) [] l now (length (base ++ x)) []) is (stands_held (length (base ++ x)) [] now))

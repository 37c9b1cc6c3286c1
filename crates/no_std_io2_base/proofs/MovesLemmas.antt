-- How the calls of a writer follow one another, what follows from a list of them, and what they cost.
use Rattle.std.proofs.{lemmas.Grind.{common_steps, flat_map-append}, Common.{◌≡◌, Result, Ok, Err, ℕ, ◌+◌, ◌≤◌, length, Bool, true, subst}}
use Rattle.std.proofs.Common.{List, [], ◌∷◌, ◌++◌, Option, None, Some, refl, sym, ap, ◌∙◌, arith, count_by, append_assoc, append-nil, ◌<◌}
use Rattle.std.proofs.Common.{take, drop, get_or, take-append-drop, flat_map, OnErr, IsOk, codes, length-drop, inl, inr}
use Rattle.std.proofs.lemmas.{List.{Sums.{sum_by-append, sum_by-cons}, take_more, flat_map_more}, Bool.Decides.{nat_tests}}
use Rattle.std.{proofs.lemmas.List.Folds.{concat-append}, specs.{List.{concat}, Result.{OnOk}}}
use Rattle.no_std_io2_base.specs.{declared.error.{ErrorKind.{ErrorKind}, Error.{Error}}, Moves.{WriterState, IsFront, Moves, MovesFront}}
use Rattle.no_std_io2_base.specs.{Moves.{Sends, call_mishap}, inner.{Moves.{HasSpent}, Write.{zero_write, Writes, no_write, write_took}}}
use Rattle.no_std_io2_base.specs.inner.{Write.{write_again, write_stuck, write_fault, AllCalls}, Charges.{calls_for, charges}}
use Rattle.no_std_io2_base.specs.{Calls.{WriteCall, Made, ByCalls, WroteAll}, inner.Kinds.{is_interruption}, Errors.{IsNoInterruption}}
use Rattle.no_std_io2_base.specs.{Writers.{Writer, TakesAll, WriteRestOf}, inner.Writers.{CallOf}, Meter.{IsMeter}}
use Rattle.no_std_io2_base.proofs.CallsLemmas.{writes_whole, law_may}

-- How calls of a writer follow one another.

-- what holds, holds after an `Ok`
pub after_ok : {A E : Type 0} {P : Type 0} (reply : Result A E) → P → OnOk reply P
after_ok reply p = grind (arith, common_steps)

-- a list is a front of itself
pub IsFront-refl : (xs : List ℕ) → IsFront xs xs
IsFront-refl xs = ([], sym (append-nil xs))

-- in two lists joined as many are counted as in the first and in the second together
pub count_by-append : {X : Type 0} (p : X → Bool) (xs ys : List X) → count_by p (xs ++ ys) ≡ count_by p xs + count_by p ys
count_by-append p xs ys = sum_by-append _ xs ys

-- a writer that does nothing has accepted no byte and had no mishap
pub Moves-refl : (a : WriterState) → Moves a [] [] a
Moves-refl a = grind (arith, common_steps)

-- one step after another
pub Moves-trans : {a b c : WriterState} {x y : List ℕ} {k l : List ErrorKind} → Moves a x k b → Moves b y l c → Moves a (x ++ y) (k ++ l) c
Moves-trans {a} {b} {c} {x} {y} {k} {l} f g = grind (arith, common_steps)

-- fewer mishaps need be told
Moves-less : {a c : WriterState} {x : List ℕ} {k l : List ErrorKind} → ((p : ErrorKind → Bool) → count_by p l ≤ count_by p k)
    → Moves a x k c → Moves a x l c
Moves-less {a} {c} {k = k} {l} fewer f = grind (arith, common_steps)

-- some mishaps need not be told
pub Moves-forget : {a c : WriterState} {x : List ℕ} (k : List ErrorKind) {l : List ErrorKind} → Moves a x (k ++ l) c → Moves a x l c
Moves-forget k {l} f = Moves-less (λ p. omega (arith, count_by-append p k l)) f

-- the first step's mishaps are left out
pub Moves-then : {a b c : WriterState} {x y : List ℕ} {k l : List ErrorKind} → Moves a x k b → Moves b y l c → Moves a (x ++ y) l c
Moves-then {k} f g = Moves-forget k (Moves-trans f g)

-- no mishap need be told
pub Moves-quiet : {a c : WriterState} {x : List ℕ} {k : List ErrorKind} → Moves a x k c → Moves a x [] c
Moves-quiet f = Moves-less (λ p. omega arith) f

-- a step that accepts nothing after another
pub Moves-ends : {a b c : WriterState} {x : List ℕ} {k l : List ErrorKind} → Moves a x k b → Moves b [] l c → Moves a x l c
Moves-ends {a} {b} {c} {x} {k} {l} f g = subst (λ s. Moves a s l c) (append-nil x) (Moves-then f g)

-- a writer with no mishap to come has none
pub Moves-steady : {a c : WriterState} {x : List ℕ} {k : ErrorKind} {l : List ErrorKind} → a.mishaps ≡ Some [] → Moves a x (k ∷ l) c → ⊥
Moves-steady {a} {c} {x} {k} {l} e f = spent c.mishaps (subst (λ m. HasSpent m (k ∷ l) c.mishaps) e f.mishaps)
  where
    spent : (m : Option (List ErrorKind)) → HasSpent (Some []) (k ∷ l) m → ⊥
    spent None h = h
    spent (Some new) h = omega (arith, h (λ _. true), sum_by-cons (λ _. 1) k l)

-- a write that took the whole is no mishap
pub zero_write-whole : (xs : List ℕ) → zero_write (length xs) xs ≡ []
zero_write-whole xs = grind (arith, nat_tests)

-- a `write_all` of x that returned `Ok` accepted x, without a mishap
pub MovesFront-whole : {a b : WriterState} (x : List ℕ) (u : Unit {0}) → MovesFront a x (Ok u) b → Moves a x [] b
MovesFront-whole {a} {b} x u f = subst (λ l. Moves a l [] b) f.whole f.moves

-- what was accepted whole, without a mishap, is a `write_all` of it that returned `Ok`
pub MovesFront-all : {a b : WriterState} {x : List ℕ} → Moves a x [] b → MovesFront a x (Ok tt) b
MovesFront-all {x = x} moves = record { accepted = x; front = IsFront-refl x; whole = refl; moves = moves }

-- `write_all(x)?; write_all(y)`, if the first returned `Ok`: some front of both was accepted, all of it after `Ok`
pub MovesFront-join : {a b c : WriterState} (x y : List ℕ) (r : Result (Unit {0}) Error) → MovesFront a x (Ok tt) b
    → MovesFront b y r c → MovesFront a (x ++ y) r c
MovesFront-join x y r f g = record {
  accepted = x ++ g.accepted;
  front = (g.front.0, ap (λ l. x ++ l) g.front.1 ∙ sym (append_assoc x g.accepted g.front.0));
  whole = joined r g.whole;
  moves = Moves-then (MovesFront-whole x tt f) g.moves;
}
  where
    joined : (r : Result (Unit {0}) Error) → OnOk r (g.accepted ≡ y) → OnOk r (x ++ g.accepted ≡ x ++ y)
    joined r e = grind (arith, common_steps)

-- `write_all(x)?; write_all(y)`, if the first failed: the second was not made
pub MovesFront-first : {a b : WriterState} (x y : List ℕ) (e : Error) → MovesFront a x (Err e) b → MovesFront a (x ++ y) (Err e) b
MovesFront-first x y e f = grind (arith, common_steps)

-- if x was accepted whole, and then a call accepted nothing: together they do what a `write_all` of x does, with that call's result
pub MovesFront-ends : {a b c : WriterState} (x : List ℕ) (r : Result (Unit {0}) Error) → Moves a x [] b
    → Moves b [] (call_mishap r) c → MovesFront a x r c
MovesFront-ends x r m n = record { accepted = x; front = IsFront-refl x; whole = after_ok r refl; moves = Moves-ends m n }

-- `write_all(x)?; write_all(y)?; write_all(z)`, if the second failed: the third was not made
pub MovesFront-second : {a b c : WriterState} (x y z : List ℕ) (e : Error) → MovesFront a x (Ok tt) b → MovesFront b y (Err e) c
    → MovesFront a (x ++ (y ++ z)) (Err e) c
MovesFront-second x y z e f g = MovesFront-join x (y ++ z) (Err e) f (MovesFront-first y z e g)

-- `write_all(x)?; flush()`, if the first returned `Ok`
pub MovesFront-flush : {a b c : WriterState} (x : List ℕ) (u : Unit {0}) (r : Result (Unit {0}) Error) → MovesFront a x (Ok u) b
    → Moves b [] (call_mishap r) c → MovesFront a x r c
MovesFront-flush x u r f g = MovesFront-ends x r (MovesFront-whole x u f) g

-- a call that says what is left is a call that accepted some front
pub MovesFront-sends : {a b : WriterState} {r : Result (Unit {0}) Error} (x rest : List ℕ) → Sends a x r b rest
    → OnOk r (rest ≡ []) → MovesFront a x r b
MovesFront-sends {r} x rest f nothing = grind (arith, common_steps)

-- two calls that say what is left, one after the other: nothing went out twice
pub Sends-then : {a b c : WriterState} {r s : Result (Unit {0}) Error} {x rest left : List ℕ} → Sends a x r b rest
    → Sends b rest s c left → Sends a x s c left
Sends-then {left} f g = grind (arith, common_steps)

-- After a `flush` that returned `Ok`, a device behind a new buffer has all of the text.
pub device_empty : {a b : WriterState} {text : List ℕ} {k : List ErrorKind} → Moves a text k b → a.held ≡ [] → b.held ≡ []
    → b.out ≡ a.out ++ text
device_empty {a} {b} {text} moves empty flushed = grind (arith, common_steps)

-- A loop that passes pieces on has passed one more.
pub Moves-piece : {a b c : WriterState} {line piece : List ℕ} {u : Unit {0}} (ps : List (List ℕ)) → Moves a (concat ps) [] b
    → MovesFront b line (Ok u) c → line ≡ piece → Moves a (concat (ps ++ piece ∷ [])) [] c
Moves-piece {a} {b} {c} {line} {piece} {u} ps so_far next same =
    rw (concat-append ps (piece ∷ []), append-nil piece)
    (Moves-trans so_far (subst (λ l. Moves b l [] c) same (MovesFront-whole line u next)))

-- A loop writes the text of each element of a list.
module _ {X : Type 0} (text : X → List ℕ) (xs : List X) (i : ℕ) (d : X) (within : i < length xs) where
  text_more : flat_map text (take (i + 1) xs) ≡ flat_map text (take i xs) ++ text (get_or xs i d)
  text_more = ap (flat_map text) (take_more xs i d within) ∙ sym (flat_map_more text [] (take i xs) (get_or xs i d))

  text_all : flat_map text xs ≡ (flat_map text (take i xs) ++ text (get_or xs i d)) ++ flat_map text (drop (i + 1) xs)
  text_all = grind (arith, take-append-drop (i + 1) xs, flat_map-append, text_more)

  -- a loop that writes the text of each element has written one more
  pub MovesFront-next : {a b c : WriterState} {u v : Unit {0}} → MovesFront a (flat_map text (take i xs)) (Ok u) b
      → MovesFront b (text (get_or xs i d)) (Ok v) c → MovesFront a (flat_map text (take (i + 1) xs)) (Ok tt) c
  MovesFront-next {a} {c = c} f g =
      subst (λ l. MovesFront a l (Ok tt) c) (sym text_more) (MovesFront-join (flat_map text (take i xs)) (text (get_or xs i d)) (Ok tt) f g)

  -- a loop that writes the text of each element met an error: some front of all texts was written
  pub MovesFront-stop : {a b c : WriterState} {u : Unit {0}} {e : Error} → MovesFront a (flat_map text (take i xs)) (Ok u) b
      → MovesFront b (text (get_or xs i d)) (Err e) c → MovesFront a (flat_map text xs) (Err e) c
  MovesFront-stop {a} {c = c} {e = e} f g =
      subst (λ l. MovesFront a l (Err e) c) (sym text_all)
      (MovesFront-first (flat_map text (take i xs) ++ text (get_or xs i d)) (flat_map text (drop (i + 1) xs)) e
      (MovesFront-join (flat_map text (take i xs)) (text (get_or xs i d)) (Err e) f g))

-- What follows from the calls that were made.

one_write : (x : List ℕ) → 0 < length x → calls_for x ≡ 1
one_write x some = grind (arith, nat_tests)

no_call : (x : List ℕ) → length x ≡ 0 → calls_for x ≡ 0
no_call x empty = grind (arith, nat_tests)

took_whole : {n m : ℕ} → ◌≡◌ {A = Result ℕ Error} (Ok n) (Ok m) → n ≡ m
took_whole is = cc

no_error : {T : Type 0} {e : Error} {n : ℕ} → ◌≡◌ {A = Result ℕ Error} (Err e) (Ok n) → T
no_error is = absurd (let no : ⊥ = cc in no)

-- the result is no interruption
pub writes_fault : {text : List ℕ} {C : List WriteCall} {x left : List ℕ} {reply : Result (Unit {0}) Error}
    → Writes text C x reply left → IsNoInterruption reply
writes_fault no_write = tt
writes_fault (write_took some more w) = writes_fault w
writes_fault (write_again some interrupted w) = writes_fault w
writes_fault (write_stuck some says) = ap is_interruption says.0
writes_fault (write_fault some is) = is

-- after an error some is left
pub writes_left : {text : List ℕ} {C : List WriteCall} {x left : List ℕ} {reply : Result (Unit {0}) Error}
    → Writes text C x reply left → OnErr reply (0 < length left)
writes_left no_write = tt
writes_left (write_took some more w) = writes_left w
writes_left (write_again some interrupted w) = writes_left w
writes_left (write_stuck some says) = some
writes_left (write_fault some is) = some

-- for no bytes there is no call
pub writes_idle : {text : List ℕ} {C : List WriteCall} {x left : List ℕ} {reply : Result (Unit {0}) Error}
    → Writes text C x reply left → x ≡ [] → (C ≡ []) × IsOk reply
writes_idle writes empty = grind (arith, common_steps)

module _ {X : Type 0} (I : Writer X) where
  -- what was accepted
  pub writes_sends : {text : List ℕ} {C : List WriteCall} {x left : List ℕ} {reply : Result (Unit {0}) Error}
      → Writes text C x reply left → (a b : X) → Made (CallOf I) a C b → Sends (I.told a) x reply (I.told b) left
  writes_sends no_write a b made = grind (arith, common_steps)
  writes_sends (write_took {x = x} {left = left} {n = n} some more w) a b made =
      let rest = writes_sends w made.0 b made.2 in
      record {
        sent = take n x ++ rest.sent;
        split = sym (take-append-drop n x) ∙ ap (λ l. take n x ++ l) rest.split ∙ sym (append_assoc (take n x) rest.sent left);
        moves = Moves-then made.1.moves rest.moves;
      }
  writes_sends (write_again some interrupted w) a b made =
      let rest = writes_sends w made.0 b made.2 in
      record { sent = rest.sent; split = rest.split; moves = Moves-then made.1.moves rest.moves }
  writes_sends (write_stuck {x = x} {e = e} some says) a b made = grind (arith, common_steps)
  writes_sends (write_fault {e = e} some is) a b made = grind (arith, common_steps)

  -- a writer that takes all does so in one call, which is counted
  pub writes_all : {text : List ℕ} {C : List WriteCall} {x left : List ℕ} {reply : Result (Unit {0}) Error}
      → Writes text C x reply left → (a b : X) → Made (CallOf I) a C b → TakesAll I a → TakesAll I b × IsOk reply × (length C ≡ calls_for x)
  writes_all no_write a b made takes = (subst (TakesAll I) (sym made) takes, refl, refl)
  writes_all (write_took {x = x} {n = n} some more w) a b made takes =
      let took = made.1.all takes in
      let rest = writes_all w made.0 b made.2 took.0 in
      let empty : length (drop n x) ≡ 0 = omega (arith, took_whole took.1, length-drop n x) in (
        rest.0,
        rest.1,
        omega (arith, rest.2, no_call (drop n x) empty, one_write x some),
      )
  writes_all (write_again some interrupted w) a b made takes = no_error (made.1.all takes).1
  writes_all (write_stuck {x = x} some says) a b made takes = absurd (omega (arith, some, took_whole (made.1.all takes).1))
  writes_all (write_fault some is) a b made takes = no_error (made.1.all takes).1

  -- the law of `write_rest` follows from its writes
  pub writes_law : {x left : List ℕ} {reply : Result (Unit {0}) Error} {a b : X}
      → ByCalls (CallOf I) a (λ C. Writes (codes "failed to write whole buffer") C x reply left) b → WriteRestOf I a x reply b left
  writes_law {x} {left} {reply} {a} {b} calls = grind (arith, common_steps, writes_fault, writes_sends, writes_whole, writes_all)

-- The law of `write_all` follows from the calls that were made, if each call kept its law.

-- a call of a writer with no mishap to come returns `Ok`
pub call_steady : {a c : WriterState} {x : List ℕ} (reply : Result (Unit {0}) Error) → a.mishaps ≡ Some [] → Moves a x (call_mishap reply) c
    → IsOk reply
call_steady reply e f = grind (arith, common_steps, Moves-steady)

module _ {X : Type 0} (I : Writer X) where
  -- what a writer that takes all does: it still takes all, and returns `Ok`
  abbrev TookAll : List ℕ → Result (Unit {0}) Error → X → X → Type 0
  TookAll x reply a b = TakesAll I a → TakesAll I b × IsOk reply

  -- `write_all`
  pub all_calls : {C : List WriteCall} {x : List ℕ} {reply : Result (Unit {0}) Error} → AllCalls C x reply
      → (a b : X) → Made (CallOf I) a C b → IsNoInterruption reply × MovesFront (I.told a) x reply (I.told b) × TookAll x reply a b
  all_calls {C} {x} {reply} calls a b made = elim calls [
    | inl own ↦
        let one = subst (λ K. Made (CallOf I) a K b) own made in
        let law = subst (λ w. CallOf I a (WroteAll x reply) w) (sym one.2) one.1 in
        (law.1, law.2, λ t. (law.3 t, call_steady reply t.1 law.2.moves))
    | inr rest ↦
        let law = writes_law I (record { calls = C; made = made; are = rest.1 }) in
        (law.never_interrupted, MovesFront-sends x rest.0 law.sends law.done, law.all)
  ]

-- What calls of a writer cost, and how many calls the calls of the trait's loops count as.

-- calls and then others count as both
pub charges-append : (C D : List WriteCall) → charges (C ++ D) ≡ charges C + charges D
charges-append [] D = omega arith
charges-append (call ∷ C) D = omega (arith, charges-append C D)

-- what calls cost, by a number that counts them
pub meter_made : {W : Type 0} (I : Writer W) (cost : W → ℕ) → IsMeter I.may cost → (C : List WriteCall) (a b : W) → Made (CallOf I) a C b
    → cost b ≡ cost a + charges C
meter_made I cost meter [] a b made = omega (arith, ap cost made)
meter_made I cost meter (call ∷ C) a b made =
    let one = meter a made.0 call (law_may I a made.0 call made.1) in
    omega (arith, one, meter_made I cost meter C made.0 b made.2)

-- each write of a loop counts as one
writes_charge : {text : List ℕ} {C : List WriteCall} {x left : List ℕ} {reply : Result (Unit {0}) Error}
    → Writes text C x reply left → charges C ≡ length C
writes_charge no_write = omega arith
writes_charge (write_took some more w) = omega (arith, writes_charge w)
writes_charge (write_again some interrupted w) = omega (arith, writes_charge w)
writes_charge (write_stuck some says) = omega arith
writes_charge (write_fault some is) = omega arith

module _ {W : Type 0} (I : Writer W) where
  -- over a writer that takes all, a loop of writes counts as one, or none for no bytes
  pub writes_count : {text : List ℕ} {C : List WriteCall} {x left : List ℕ} {reply : Result (Unit {0}) Error} → Writes text C x reply left
      → (a b : W) → Made (CallOf I) a C b → TakesAll I a → TakesAll I b × IsOk reply × (charges C ≡ calls_for x)
  writes_count w a b made takes = grind (arith, common_steps, writes_all, writes_charge)

  -- and so does a `write_all`
  pub all_count : {C : List WriteCall} {x : List ℕ} {reply : Result (Unit {0}) Error} → AllCalls C x reply → (a b : W)
      → Made (CallOf I) a C b → TakesAll I a → TakesAll I b × IsOk reply × (charges C ≡ calls_for x)
  all_count {C} {x} calls a b made takes =
      let all = (all_calls I calls a b made).2 takes in (
        all.0,
        all.1,
        elim calls [ inl own ↦ ap charges own ∙ omega arith | inr writes ↦ (writes_count writes.1 a b made takes).2 ],
      )

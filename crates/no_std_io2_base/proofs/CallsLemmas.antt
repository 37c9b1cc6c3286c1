-- Calls one after another, also those of the reads.
use Rattle.std.proofs.Common.{arith, ◌≡◌, ℕ, List, [], ◌∷◌, ◌++◌, Result, OnOk, refl, ap, subst, append_assoc, inl, ◌+◌, ◌%◌, length, sym}
use Rattle.std.proofs.{Common.{◌∙◌, Ok, Err, length-append, append-nil, inr}, Math.Nat.{mod-add-mod}, lemmas.Grind.{common_steps}}
use Rattle.no_std_io2_base.specs.{Calls.{WriteCall, Made, ByCalls, WroteAll, ReadCall, Gave, GaveExactly, GaveAll}, Moves.{WriterState}}
use Rattle.no_std_io2_base.specs.{Write.{CallLaw, WriteAllLaw}, Writers.{Writer}, declared.error.Error.{Error}, inner.Read.{gave_whole}}
use Rattle.no_std_io2_base.specs.inner.Read.{Gathers, no_read, and_gave, and_again, GathersUntil, IsRoom, ToEndCalls, ExactCalls}
use Rattle.no_std_io2_base.specs.inner.{Write.{Writes, no_write, write_took, write_again, write_stuck, write_fault}, Writers.{CallOf}}

-- Calls one after another.

-- one call more
pub made_more : {W A : Type 0} (may : W → A → W → Type 0) (C : List A) (a : W) {b c : W} {call : A}
    → Made may a C b → may b call c → Made may a (C ++ call ∷ []) c
made_more may [] a {c = c} {call = call} made last = (c, subst (λ w. may w call c) made last, refl)
made_more may (x ∷ C) a made last = (made.0, made.1, made_more may C made.0 made.2 last)

-- calls and then others
pub made_then : {W A : Type 0} (may : W → A → W → Type 0) (C : List A) (a : W) (D : List A) (b c : W)
    → Made may a C b → Made may b D c → Made may a (C ++ D) c
made_then may [] a D b c made more = subst (λ w. Made may w D c) made more
made_then may (x ∷ C) a D b c made more = (made.0, made.1, made_then may C made.0 D b c made.2 more)

-- calls of a part are calls of the whole
pub made_map : {W V A : Type 0} (may : W → A → W → Type 0) (may' : V → A → V → Type 0) (put : W → V)
    → ((a b : W) (call : A) → may a call b → may' (put a) call (put b))
    → (C : List A) (a b : W) → Made may a C b → Made may' (put a) C (put b)
made_map may may' put each [] a b made = ap put made
made_map may may' put each (call ∷ C) a b made = (put made.0, each _ _ _ made.1, made_map may may' put each C made.0 b made.2)

-- what each call keeps, the calls keep
pub made_keeps : {W V A : Type 0} (may : W → A → W → Type 0) (of : W → V) → ((a b : W) (call : A) → may a call b → of b ≡ of a)
    → (C : List A) (a b : W) → Made may a C b → of b ≡ of a
made_keeps may of each [] a b made = ap of made
made_keeps may of each (call ∷ C) a b made = made_keeps may of each C made.0 b made.2 ∙ each a made.0 call made.1

-- some of them and then the others
pub made_split : {W A : Type 0} (may : W → A → W → Type 0) (C : List A) (a : W) (D : List A) (c : W)
    → Made may a (C ++ D) c → (b : W) × Made may a C b × Made may b D c
made_split may [] a D c made = (a, refl, made)
made_split may (call ∷ C) a D c made = let rest = made_split may C made.0 D c made.2 in (rest.0, (made.0, made.1, rest.1), rest.2)

module _ {X A : Type 0} {may : X → A → X → Type 0} {a b : X} {P : List A → Type 0} where
  -- one call
  pub by_call : (call : A) → may a call b → P (call ∷ []) → ByCalls may a P b
  by_call call did is = record { calls = call ∷ []; made = (b, did, refl); are = is }

  -- two calls
  pub by_two : (mid : X) (c d : A) → may a c mid → may mid d b → P (c ∷ d ∷ []) → ByCalls may a P b
  by_two mid c d first next is = record { calls = c ∷ d ∷ []; made = (mid, first, (b, next, refl)); are = is }

  -- three calls
  pub by_three : (mid end : X) (c d e : A) → may a c mid → may mid d end → may end e b → P (c ∷ d ∷ e ∷ []) → ByCalls may a P b
  by_three mid end c d e first second last is = grind (arith, common_steps)

  -- calls of a part are calls of the whole
  pub by_map : {V : Type 0} {may' : V → A → V → Type 0} (put : X → V) → ((x y : X) (call : A) → may x call y → may' (put x) call (put y))
      → ByCalls may a P b → ByCalls may' (put a) P (put b)
  by_map {may' = may'} put each first = grind (arith, common_steps, made_map)

  module _ (first : ByCalls may a P b) where
    -- more is known of the calls that were made
    pub by_are : {Q : List A → Type 0} → ((C : List A) → P C → Q C) → ByCalls may a Q b
    by_are each = record { calls = first.calls; made = first.made; are = each first.calls first.are }

    -- calls were made, and then one more
    pub by_more : {c : X} {Q : List A → Type 0} (call : A) → may b call c → ((C : List A) → P C → Q (C ++ call ∷ [])) → ByCalls may a Q c
    by_more {c} call did more = grind (arith, common_steps, made_more)

    -- calls were made, and then others
    pub by_then : {c : X} {Q R : List A → Type 0} → ByCalls may b Q c → ((C D : List A) → P C → Q D → R (C ++ D)) → ByCalls may a R c
    by_then {c} next both = grind (arith, common_steps, made_then)

-- If each call raises a number by one, modulo m, the number counts the calls.
pub made_counts : {W A : Type 0} (may : W → A → W → Type 0) (count : W → ℕ) (m : ℕ)
    → ((a b : W) (call : A) → may a call b → count b % m ≡ (count a + 1) % m)
    → (C : List A) (a b : W) → Made may a C b → count b % m ≡ (count a + length C) % m
made_counts may count m each [] a b made = ap (λ w. count w % m) made ∙ ap (λ n. n % m) (omega arith)
made_counts may count m each (call ∷ C) a b made =
    grind (arith, each, made_counts may count m each C, mod-add-mod (count made.0) m (length C), mod-add-mod (count a + 1) m (length C))

-- after an `Ok` nothing is left
pub writes_whole : {text : List ℕ} {C : List WriteCall} {x left : List ℕ} {reply : Result (Unit {0}) Error}
    → Writes text C x reply left → OnOk reply (left ≡ [])
writes_whole no_write = refl
writes_whole (write_took some more w) = writes_whole w
writes_whole (write_again some interrupted w) = writes_whole w
writes_whole (write_stuck some says) = tt
writes_whole (write_fault some is) = tt

-- a call as its law says is one that the writer may make
pub law_may : {W : Type 0} (I : Writer W) (old new : W) (call : WriteCall) → CallOf I old call new → I.may old call new
law_may I old new call law = grind (arith, common_steps)

-- the `write_all` of a type that has a body of its own for it is one call, with that call's law
pub own_law : {W : Type 0} {told : W → WriterState} {takes_all : W → Type 0} {may : W → WriteCall → W → Type 0} {a b : W} {x : List ℕ}
    {reply : Result (Unit {0}) Error} → CallLaw told takes_all may a (WroteAll x reply) b → WriteAllLaw told takes_all may a x reply b
own_law {x = x} {reply} own = record {
  never_interrupted = own.1;
  moves = own.2;
  all = own.3;
  calls = by_call (WroteAll x reply) own (inl refl);
}

-- So far the calls C were made to write `start`: with those that write `left` they write all of it.
abbrev WritesOn : List ℕ → List WriteCall → List ℕ → List ℕ → Type 0
WritesOn text C start left = (D : List WriteCall) (reply : Result (Unit {0}) Error) (end : List ℕ)
    → Writes text D left reply end → Writes text (C ++ D) start reply end

-- The calls that were made so far are such calls.
abbrev pub CallsSoFar : {W : Type 0} → (W → WriteCall → W → Type 0) → List ℕ → W → List ℕ → List ℕ → W → Type 0
CallsSoFar may text old start left now = ByCalls may old (λ C. WritesOn text C start left) now

-- no call yet
pub calls_none : {W : Type 0} {may : W → WriteCall → W → Type 0} {text : List ℕ} {old : W} {start : List ℕ}
    → CallsSoFar may text old start start old
calls_none = record { calls = []; made = refl; are = λ D r e w. w }

module _ {W : Type 0} {may : W → WriteCall → W → Type 0} {text : List ℕ} {old now : W} {start left : List ℕ} where
  module _ (before : CallsSoFar may text old start left now) where
    -- one more
    pub calls_more : {new : W} {call : WriteCall} {rest : List ℕ} → may now call new
        → ((D : List WriteCall) (reply : Result (Unit {0}) Error) (end : List ℕ) → Writes text D rest reply end
        → Writes text (call ∷ D) left reply end) → CallsSoFar may text old start rest new
    calls_more {call = call} {rest} last on = by_more before call last (λ C before D r e w.
        subst (λ l. Writes text l start r e) (sym (append_assoc C (call ∷ []) D)) (before (call ∷ D) r e (on D r e w)))

    -- and these were the last ones
    pub calls_end : {new : W} (reply : Result (Unit {0}) Error) (end : List ℕ) (D : List WriteCall) → Made may now D new
        → Writes text D left reply end → ByCalls may old (λ C. Writes text C start reply end) new
    calls_end {new} reply end D made writes = grind (arith, common_steps, made_then)

-- The calls of a reader, one after another.

-- the `read_exact` of a type that has a body of its own for it is one call
pub exact_own : {X : Type 0} {may : X → ReadCall → X → Type 0} {old new : X} (reply : Result (Unit {0}) Error) (buf : List ℕ)
    → may old (GaveExactly (length buf) (gave_whole reply buf)) new → ByCalls may old (λ C. ExactCalls C reply buf) new
exact_own reply buf own = by_call (GaveExactly (length buf) (gave_whole reply buf)) own (inl refl)

-- and so may a `read_to_end` be
pub to_end_own : {X : Type 0} {may : X → ReadCall → X → Type 0} {old new : X} {x y : List ℕ} {answer : Result (Unit {0}) Error}
    → may old (GaveAll x answer) new → y ≡ x → ByCalls may old (λ C. ToEndCalls C y answer) new
to_end_own {x = x} {answer = answer} own is = by_call (GaveAll x answer) own (inl ([], [], x, no_read, is, refl))

module _ {asks : ℕ → ℕ → Type 0} {C : List ReadCall} {x : List ℕ} (first : Gathers asks C x) where
  -- reads and then others
  pub gathers_then : {D : List ReadCall} {y : List ℕ} → Gathers (λ at room. asks (length x + at) room) D y → Gathers asks (C ++ D) (x ++ y)
  gathers_then no_read = subst (λ l. Gathers asks l (x ++ [])) (sym (append-nil C)) (subst (Gathers asks C) (sym (append-nil x)) first)
  gathers_then (and_gave D y z room so_far into some) =
      subst (λ l. Gathers asks l (x ++ (y ++ z))) (append_assoc C D (Gave room (Ok z) ∷ []))
      (subst (Gathers asks ((C ++ D) ++ Gave room (Ok z) ∷ [])) (append_assoc x y z)
      (and_gave (C ++ D) (x ++ y) z room (gathers_then so_far) (subst (λ n. asks n room) (sym (length-append x y)) into) some))
  gathers_then (and_again D y room e so_far into waited) =
      subst (λ l. Gathers asks l (x ++ y)) (append_assoc C D (Gave room (Err e) ∷ []))
      (and_again (C ++ D) (x ++ y) room e (gathers_then so_far) (subst (λ n. asks n room) (sym (length-append x y)) into) waited)

  -- and until one ends them
  pub until_then : {D : List ReadCall} {y : List ℕ} {answer : Result (List ℕ) Error}
      → GathersUntil (λ at room. asks (length x + at) room) D y answer → GathersUntil asks (C ++ D) (x ++ y) answer
  until_then {y = y} {answer = answer} (E, room, so_far, into, is) = (
    C ++ E,
    room,
    gathers_then so_far,
    subst (λ n. asks n room) (sym (length-append x y)) into,
    ap (λ l. C ++ l) is ∙ sym (append_assoc C E (Gave room answer ∷ [])),
  )

-- and then a `read_to_end`
pub to_end_then : {C D : List ReadCall} {x y : List ℕ} (answer : Result (Unit {0}) Error) → Gathers IsRoom C x → ToEndCalls D y answer
    → ToEndCalls (C ++ D) (x ++ y) answer
to_end_then {C} {x = x} answer first (inl own) = inl (
  C ++ own.0,
  x ++ own.1,
  own.2,
  gathers_then first own.3,
  ap (λ l. x ++ l) own.4 ∙ sym (append_assoc x own.1 own.2),
  ap (λ d. C ++ d) own.5 ∙ sym (append_assoc C own.0 (GaveAll own.2 answer ∷ [])),
)
to_end_then (Ok u) first (inr reads) = inr (until_then first reads)
to_end_then (Err e) first (inr (inl met)) = inr (inl (met.0, until_then first met.1))
to_end_then (Err e) first (inr (inr refused)) = inr (inr (refused.0, gathers_then first refused.1))

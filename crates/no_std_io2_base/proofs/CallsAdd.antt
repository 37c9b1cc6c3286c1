-- What many calls add to a state of one's own, by what each of them adds; and the laws of a wrapper with such a state.
use Rattle.std.proofs.{lemmas.Grind.{common_steps}, Common.{arith, ℕ, List, [], ◌++◌, Result, Ok, Err, refl, sym, ap, subst, ◌∙◌, take}}
use Rattle.std.proofs.Common.{append_assoc, append-nil, take-append-drop, ◌≡◌, ◌+◌, ◌%◌, ◌∷◌, OnOk, IfOk, ◌≤◌, length, le_refl, inl, inr}
use Rattle.std.proofs.{Common.{false, count_by}, Math.Nat.{mod-add-mod}, lemmas.{List.{take_all}, Bool.Decides.{nat_tests}}}
use Rattle.no_std_io2_base.specs.{declared.error.Error.{Error}, Calls.{WriteCall, Wrote, WroteAll, Made, ByCalls, ReadCall, Gave}}
use Rattle.no_std_io2_base.specs.{Calls.{GaveExactly, GaveAll, Filled, Consumed}, Write.{CallAdds, RestAdds, WriteLaw, FlushLaw}}
use Rattle.no_std_io2_base.specs.{Write.{accepted_of, write_mishap}, inner.Write.{Writes, no_write, write_took, write_again, write_stuck}}
use Rattle.no_std_io2_base.specs.inner.{Write.{write_fault, AllCalls, zero_write, told_over, SpendsMishaps}, Read.{Gathers, no_read}}
use Rattle.no_std_io2_base.specs.inner.Read.{and_gave, and_again, bytes_given, gave_whole, FillCalls, GathersUntil, ExactCalls, ToEndCalls}
use Rattle.no_std_io2_base.specs.{Moves.{WriterState, IsFront, Moves, call_mishap}, inner.Pieces.{PartCalls, no_part, and_part}}
use Rattle.no_std_io2_base.specs.{inner.{Pieces.{part_interrupted, PieceCalls}, Lines.{AnswersLine}}, declared.error.ErrorKind.{ErrorKind}}
use Rattle.no_std_io2_base.{specs.inner.Kinds.{is_interruption}, proofs.{CallsLemmas.{made_split}, MovesLemmas.{after_ok}}}

-- What each call adds to a writer's own state, the calls of a `write_all` or a `write_rest` add together.

-- No bytes add nothing, and bytes that were added one after another were added joined.
pub record Joins {W : Type 0} (Adds : W → List ℕ → W → Type 0) : Type 0 where
  pub none : (a : W) → Adds a [] a
  pub more : (a b c : W) (x y : List ℕ) → Adds a x b → Adds b y c → Adds a (x ++ y) c

-- A total modulo m joins, if bytes and then others weigh what both weigh: `sum`, or `length`.
pub joins_modulo : {W : Type 0} (total : W → ℕ) (weight : List ℕ → ℕ) (m : ℕ) → weight [] ≡ 0
    → ((x y : List ℕ) → weight (x ++ y) ≡ weight x + weight y) → Joins {W = W} (λ a x b. total b % m ≡ (total a + weight x) % m)
joins_modulo total weight m nothing both = record {
  none = λ a. ap (λ n. n % m) (omega (arith, nothing));
  more = λ a b c x y first next. grind (arith, mod-add-mod (total b) m (weight y), mod-add-mod (total a + weight x) m (weight y), both);
}

module _ {W : Type 0} {may : W → WriteCall → W → Type 0} {Adds : W → List ℕ → W → Type 0} (joins : Joins Adds) where
  module _ (each : (a b : W) (call : WriteCall) → may a call b → CallAdds Adds a call b) where
    -- the writes of a loop: what is gone from x was added, after an error too
    pub writes_add : {text : List ℕ} {C : List WriteCall} {x left : List ℕ} {reply : Result (Unit {0}) Error}
        → Writes text C x reply left → (a b : W) → Made may a C b → RestAdds Adds a x reply b left
    writes_add no_write a b made = ([], refl, refl, subst (Adds a []) (sym made) (joins.none a))
    writes_add (write_took {x = x} {n = n} some more w) a b made =
        let rest = writes_add w made.0 b made.2 in (
          take n x ++ rest.0,
          sym (take-append-drop n x) ∙ ap (λ l. take n x ++ l) rest.1 ∙ sym (append_assoc (take n x) rest.0 _),
          rest.2,
          joins.more a made.0 b (take n x) rest.0 (each a made.0 (Wrote x (Ok n)) made.1) rest.3,
        )
    writes_add (write_again {x = x} {e = e} some interrupted w) a b made =
        let rest = writes_add w made.0 b made.2 in
        (rest.0, rest.1, rest.2, joins.more a made.0 b [] rest.0 (each a made.0 (Wrote x (Err e)) made.1) rest.3)
    writes_add (write_stuck {x = x} some says) a b made =
        ([], refl, tt, subst (Adds a []) (sym made.2) (each a made.0 (Wrote x (Ok 0)) made.1))
    writes_add (write_fault {x = x} {e = e} some is) a b made =
        ([], refl, tt, subst (Adds a []) (sym made.2) (each a made.0 (Wrote x (Err e)) made.1))

    -- the calls of a `write_all`: all of x was added after `Ok`, and some front of x after an error
    pub all_adds : (C : List WriteCall) (x : List ℕ) (reply : Result (Unit {0}) Error) (a b : W)
        → Made may a C b → AllCalls C x reply → CallAdds Adds a (WroteAll x reply) b
    all_adds C x reply a b made calls = grind (arith, common_steps, writes_add, append-nil)

-- If each call adds something to a reader's own state, the calls of a loop add it together.

-- Each call adds the bytes that it gave. A failed `read_exact`, of a type with a body of its own for it, may have taken bytes that it does
-- not show.
pub record EachAdds {R : Type 0} (may : R → ReadCall → R → Type 0) (Adds : R → List ℕ → R → Type 0) : Type 0 where
  pub joins : Joins Adds
  pub gave : (a b : R) (room : ℕ) (answer : Result (List ℕ) Error) → may a (Gave room answer) b → Adds a (bytes_given answer) b
  pub exactly : (a b : R) (room : ℕ) (answer : Result (List ℕ) Error) → may a (GaveExactly room answer) b
      → (x : List ℕ) × IfOk answer (λ all. x ≡ all) × Adds a x b
  pub all : (a b : R) (x : List ℕ) (answer : Result (Unit {0}) Error) → may a (GaveAll x answer) b → Adds a x b
  pub lent : (a b : R) (answer : Result (List ℕ) Error) → may a (Filled answer) b → Adds a [] b
  pub took : (a b c : R) (x : List ℕ) (n : ℕ) → may a (Filled (Ok x)) b → may b (Consumed n) c → n ≤ length x → Adds a (take n x) c

-- after `Ok` a line was appended
pub line_appended : (old old' line : List ℕ) (reply read : Result ℕ Error)
    → AnswersLine line read reply old old' → OnOk reply (old' ≡ old ++ line)
line_appended old old' line reply read answers = grind (arith, common_steps)

module _ {R : Type 0} {may : R → ReadCall → R → Type 0} {Adds : R → List ℕ → R → Type 0} (each : EachAdds may Adds) where
  -- calls, and one more
  and_last : (C : List ReadCall) {x y : List ℕ} (call : ReadCall) (a b : R) → ((mid : R) → Made may a C mid → Adds a x mid)
      → ((c d : R) → may c call d → Adds c y d) → Made may a (C ++ call ∷ []) b → Adds a (x ++ y) b
  and_last C {x} {y} call a b before adds made = grind (arith, common_steps, made_split)

  -- calls, and then a `fill_buf` and a `consume`
  then_took : (C : List ReadCall) {x : List ℕ} (lent : List ℕ) (n : ℕ) (a b : R) → ((mid : R) → Made may a C mid → Adds a x mid)
      → n ≤ length lent → Made may a (C ++ Filled (Ok lent) ∷ Consumed n ∷ []) b → Adds a (x ++ take n lent) b
  then_took C {x} lent n a b before within made = grind (arith, common_steps, made_split)

  -- reads in a row
  pub gathers_add : {asks : ℕ → ℕ → Type 0} {C : List ReadCall} {x : List ℕ} → Gathers asks C x → (a b : R) → Made may a C b → Adds a x b
  gathers_add no_read a b made = subst (Adds a []) (sym made) (each.joins.none a)
  gathers_add (and_gave C x y room before into some) a b made =
      and_last C (Gave room (Ok y)) a b (λ mid m. gathers_add before a mid m) (λ c d call. each.gave c d room (Ok y) call) made
  gathers_add (and_again C x room e before into interrupted) a b made =
      subst (λ l. Adds a l b) (append-nil x)
      (and_last C (Gave room (Err e)) a b (λ mid m. gathers_add before a mid m) (λ c d call. each.gave c d room (Err e) call) made)

  -- and a last one that ended them and gave nothing
  until_add : {asks : ℕ → ℕ → Type 0} {C : List ReadCall} {x : List ℕ} (answer : Result (List ℕ) Error) → bytes_given answer ≡ []
      → GathersUntil asks C x answer → (a b : R) → Made may a C b → Adds a x b
  until_add {x = x} answer nothing until a b made =
      subst (λ l. Adds a l b) (append-nil x) (and_last until.0 (Gave until.1 answer) a b (λ mid m. gathers_add until.2 a mid m)
      (λ c d call. subst (λ l. Adds c l d) nothing (each.gave c d until.1 answer call)) (subst (λ K. Made may a K b) until.4 made))

  -- one `read_exact` of a type with a body of its own for it
  exactly_adds : (buf : List ℕ) (reply : Result (Unit {0}) Error) (a b : R) → may a (GaveExactly (length buf) (gave_whole reply buf)) b
      → (x : List ℕ) × OnOk reply (x ≡ buf) × Adds a x b
  exactly_adds buf reply a b call = grind (arith, common_steps)

  -- the reads of a `read_exact`
  fill_adds : (C : List ReadCall) (buf : List ℕ) (reply : Result (Unit {0}) Error) (a b : R) → FillCalls C reply buf → Made may a C b
      → (x : List ℕ) × OnOk reply (x ≡ buf) × Adds a x b
  fill_adds C buf (Ok u) a b reads made = (buf, refl, gathers_add reads a b made)
  fill_adds C buf (Err e) a b (x, front, inl end) made = (x, tt, until_add (Ok []) refl end.1 a b made)
  fill_adds C buf (Err e) a b (x, front, inr met) made = (x, tt, until_add (Err e) refl met.1 a b made)

  -- what the calls of a `read_exact` add: all of the buffer after `Ok`, and the bytes that were taken after an error
  pub exact_adds : (buf : List ℕ) (reply : Result (Unit {0}) Error) (a b : R) → ByCalls may a (λ C. ExactCalls C reply buf) b
      → (x : List ℕ) × OnOk reply (x ≡ buf) × Adds a x b
  exact_adds buf reply a b m = grind (arith, common_steps, exactly_adds, fill_adds)

  -- those of a `read_to_end`
  calls_add : {C : List ReadCall} {x : List ℕ} (answer : Result (Unit {0}) Error) → ToEndCalls C x answer → (a b : R) → Made may a C b
      → Adds a x b
  calls_add answer (inl own) a b made = grind (arith, common_steps, and_last, gathers_add)
  calls_add (Ok u) (inr until) a b made = until_add (Ok []) refl until a b made
  calls_add (Err e) (inr (inl met)) a b made = until_add (Err e) refl met.1 a b made
  calls_add (Err e) (inr (inr refused)) a b made = gathers_add refused.1 a b made

  -- what the calls of a `read_to_end` add, also before an error: x was given
  pub to_end_adds : {x : List ℕ} (answer : Result (Unit {0}) Error) (a b : R) → ByCalls may a (λ C. ToEndCalls C x answer) b → Adds a x b
  to_end_adds answer a b m = calls_add answer m.are a b m.made

  -- a loop that has found no end of its piece yet
  parts_add : {d : ℕ} {C : List ReadCall} {x : List ℕ} → PartCalls d C x → (a b : R) → Made may a C b → Adds a x b
  parts_add no_part a b made = subst (Adds a []) (sym made) (each.joins.none a)
  parts_add (and_part C x lent before some lacks) a b made =
      subst (λ l. Adds a (x ++ l) b) (take_all (length lent) lent (le_refl _))
      (then_took C lent (length lent) a b (λ mid m. parts_add before a mid m) (le_refl _) made)
  parts_add (part_interrupted C x e before waited) a b made =
      subst (λ l. Adds a l b) (append-nil x)
      (and_last C (Filled (Err e)) a b (λ mid m. parts_add before a mid m) (λ c d call. each.lent c d (Err e) call) made)

  -- what the calls of a `read_until` or a `skip_until` add, also before an error: x was taken
  pub piece_adds : (may_refuse : Type 0) (d : ℕ) {x : List ℕ} (reply : Result ℕ Error) (a b : R)
      → ByCalls may a (λ C. PieceCalls may_refuse d C x reply) b → Adds a x b
  piece_adds may_refuse d (Ok n) a b m = grind (arith, common_steps, then_took, parts_add)
  piece_adds may_refuse d {x} (Err e) a b m =
      let are = m.are in
      let last : (answer : Result (List ℕ) Error) × (m.calls ≡ are.0 ++ Filled answer ∷ []) =
      elim are.2 [ inl met ↦ (Err e, met.1) | inr refused ↦ (Ok refused.2, refused.4) ] in
      subst (λ l. Adds a l b) (append-nil x)
      (and_last are.0 (Filled last.0) a b (λ mid c. parts_add are.1 a mid c) (λ c d call. each.lent c d last.0 call)
      (subst (λ K. Made may a K b) last.1 m.made))

-- The laws of `write` and `flush` of a wrapper with a state of its own: from what was accepted, the turns that are left, and what
-- was added.

-- a `write` of no byte is no interruption
pub zero_none : (n : ℕ) (x : List ℕ) → count_by is_interruption (zero_write n x) ≡ 0
zero_none n x = grind (arith, common_steps, nat_tests)

-- an error that is no interruption spends no turn
pub err_turns : (t : ℕ) (k : ErrorKind) → is_interruption k ≡ false → t + count_by is_interruption (k ∷ []) ≤ t
err_turns t k other = grind (arith, common_steps)

-- what a wrapper tells after it accepted x: what was out stays out, and x comes last
pub moves_over : (out held out' held' : List ℕ) (a b : WriterState) {x : List ℕ} {happened : List ErrorKind} → IsFront out out'
    → out' ++ held' ≡ out ++ held ++ x → SpendsMishaps a happened b → Moves (told_over out held a) x happened (told_over out' held' b)
moves_over out held out' held' a b front bytes spent = record { front = front; bytes = bytes; mishaps = spent.0; turns = spent.1 }

-- the same of a wrapper that holds nothing
pub moves_out : (out out' : List ℕ) (a b : WriterState) {x : List ℕ} {happened : List ErrorKind} → out' ≡ out ++ x
    → SpendsMishaps a happened b → Moves (told_over out [] a) x happened (told_over out' [] b)
moves_out out out' a b {x} more spent = moves_over out [] out' [] a b {x = x} (x, more) (rw (append-nil out', append-nil out) more) spent

module _ {W : Type 0} {Adds : W → List ℕ → W → Type 0} where
  module _ {told : W → WriterState} {a b : W} where
    -- `write(x)` of a wrapper that never tells that it takes all
    pub write_law_by : {x : List ℕ} {reply : Result ℕ Error} → IfOk reply (λ n. n ≤ length x) → Moves (told a) (accepted_of reply x)
        (write_mishap reply x) (told b) → Adds a (accepted_of reply x) b → WriteLaw told (λ _. ⊥) (CallAdds Adds) a x reply b
    write_law_by bound moves adds = record { bound = bound; moves = moves; all = λ both. absurd both.0; call = adds }

    -- its `flush()`
    pub flush_law_by : {reply : Result (Unit {0}) Error} → OnOk reply ((told b).held ≡ [])
        → Moves (told a) [] (call_mishap reply) (told b) → Adds a [] b → FlushLaw told (λ _. ⊥) (CallAdds Adds) a reply b
    flush_law_by empty moves adds = record { empty = empty; moves = moves; all = λ both. absurd both.0; call = adds }

  -- A wrapper that counts every accepted byte as out, also one that waits in its state, over a writer that tells `below`.
  module _ (accepted : W → List ℕ) (below : W → WriterState) {a b : W} where
    -- its `write(x)`
    pub write_law : {x : List ℕ} {reply : Result ℕ Error} → IfOk reply (λ n. n ≤ length x) → accepted b ≡ accepted a ++ accepted_of reply x
        → SpendsMishaps (below a) (write_mishap reply x) (below b) → Adds a (accepted_of reply x) b
        → WriteLaw (λ w. told_over (accepted w) [] (below w)) (λ _. ⊥) (CallAdds Adds) a x reply b
    write_law bound more spent adds = write_law_by bound (moves_out (accepted a) (accepted b) (below a) (below b) more spent) adds

    -- its `flush()`
    pub flush_law : {reply : Result (Unit {0}) Error} → accepted b ≡ accepted a → SpendsMishaps (below a) (call_mishap reply) (below b)
        → Adds a [] b → FlushLaw (λ w. told_over (accepted w) [] (below w)) (λ _. ⊥) (CallAdds Adds) a reply b
    flush_law {reply} same spent adds =
        let moves = moves_out (accepted a) (accepted b) (below a) (below b) (same ∙ sym (append-nil (accepted a))) spent in
        flush_law_by (after_ok reply refl) moves adds

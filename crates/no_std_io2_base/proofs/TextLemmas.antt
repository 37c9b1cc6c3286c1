-- The loop of a `write_rest`, tries of it, and texts that are printed piece by piece.
use Rattle.std.proofs.Common.{◌≡◌, ℕ, ◌+◌, ◌-◌, ◌<◌, ◌≤◌, ◌==◌, Bool, true, false, eqb-true, codes, List, [], ◌∷◌, Result, Ok, Err, length}
use Rattle.std.proofs.Common.{take, drop, refl, sym, ap, subst, ◌∙◌, arith, take_all, length-drop, drop_of_length-le, Option, count_by}
use Rattle.std.proofs.Common.{◌++◌, None, Some, OnOk, OnErr, IsOk, is_ok, IfSome, ◌⊎◌, true≢false, IsErrAnd, append-nil, inl, inr, ⊎_elim}
use Rattle.std.proofs.{Common.{is_err}, Math.{Logic.{∥∥₁_elim, ∥∥₁_map}, Seq.{drop-append_seam}}, Props.{props}, lemmas.Fn.{chained_keeps}}
use Rattle.std.{proofs.lemmas.{Grind.{common_steps}, List.{Folds.{concat-append}, Recursion.{is_count_by}}}, specs.Coded.{le_prop, Π_prop}}
use Rattle.std.specs.{Coded.{Unit-prop}, Fmt.{WritesInCalls, WritesText}, List.{concat}, declared.fmt.Error.{Error as FormatError}}
use Rattle.no_std_io2_base.specs.{declared.error.{Error.{Error}, ErrorKind.TheVariants.{WriteZero}}, Errors.{IsInterruption, IsFault}}
use Rattle.no_std_io2_base.specs.{Errors.{SaysError, IsNoInterruption, IsTextError}, Calls.{Wrote}, inner.Write.{Writes, no_write}}
use Rattle.no_std_io2_base.specs.{inner.Write.{write_took, write_again, write_stuck, write_fault}, Moves.{WriterState, Moves, MovesFront}}
use Rattle.no_std_io2_base.specs.{Moves.{call_mishap}, inner.Moves.{HasSpent, HasSpentTries}, Writers.{Writer, TakesAll, WriteOf}}
use Rattle.no_std_io2_base.specs.{Writers.{WriteRestOf, WriteAllOf}, inner.Writers.{CallOf, PrintsOf, WriteFmtOf}}
use Rattle.no_std_io2_base.specs.{declared.error.ErrorKind.{ErrorKind}, Retries.{HasAtMost, Tries, next_try}, inner.Text.{none_printed}}
use Rattle.no_std_io2_base.specs.{inner.Text.{printed_piece, silent, FailsText, HasText, PrintsShort, PrintsOrRefuses}, Text.{MovesText}}
use Rattle.no_std_io2_base.proofs.{CallsLemmas.{CallsSoFar, calls_more, calls_end}, MovesLemmas.{writes_law, Moves-refl, after_ok}}
use Rattle.no_std_io2_base.proofs.MovesLemmas.{IsFront-refl, MovesFront-join, MovesFront-first, MovesFront-flush}
use mathlib.Core.HLevel.{⊥_prop}

-- What each exit of a loop of writes says.

-- what the test `is_empty` says of a slice if it is false
pub not_empty : (b : Bool) (left : List ℕ) → b ≡ (length left == 0) → b ≡ false → 0 < length left
not_empty b left is h = grind (arith, common_steps)

-- what the test `is_empty` says of a slice if it is true
pub is_empty : (b : Bool) (left : List ℕ) → b ≡ (length left == 0) → b ≡ true → left ≡ []
is_empty b left is h = drop_of_length-le left {i = 0} (omega (arith, eqb-true (length left) 0 (sym is ∙ h)))

-- the rest of a slice from n on is its end
pub rest_is : (n : ℕ) (left : List ℕ) → take (length left - n) (drop n left) ≡ drop n left
rest_is n left = take_all (length left - n) (drop n left) (omega (arith, length-drop n left))

-- some bytes fewer are left, or a turn fewer is
pub fewer_left : (n : ℕ) {turns : ℕ} (turns' k : ℕ) (left : List ℕ) → (n ≡ 0 → ⊥) → n ≤ length left → turns' + k ≤ turns
    → turns' + length (take (length left - n) (drop n left)) < turns + length left
fewer_left n turns' k left some fits spent = omega (arith, some, fits, spent, ap length (rest_is n left), length-drop n left)

module _ {X : Type 0} {I : Writer X} {old now : X} {start left : List ℕ} where
  module _ (before : CallsSoFar (CallOf I) (codes "failed to write whole buffer") old start left now) where
    -- all was sent
    pub writes_done : left ≡ [] → WriteRestOf I old start (Ok tt) now left
    writes_done empty =
        writes_law I (calls_end before (Ok tt) left [] refl
        (subst (λ l. Writes (codes "failed to write whole buffer") [] l (Ok tt) l) (sym empty) no_write))

    module _ {new : X} where
      -- n bytes more were sent
      pub writes_more : {n : ℕ} → WriteOf I now left (Ok n) new → 0 < length left → 0 < n → CallsSoFar (CallOf I)
          (codes "failed to write whole buffer") old start (take (length left - n) (drop n left)) new
      writes_more {n} wrote some more = calls_more before wrote
          (λ D r e w. write_took some more (subst (λ l. Writes (codes "failed to write whole buffer") D l r e) (rest_is n left) w))

      -- an interruption is ignored
      pub writes_interruption : {e : Error} → WriteOf I now left (Err e) new → 0 < length left → IsInterruption e
          → CallsSoFar (CallOf I) (codes "failed to write whole buffer") old start left new
      writes_interruption wrote some interrupted = calls_more before wrote (λ D r e w. write_again some interrupted w)

      -- a fault stopped it
      pub writes_stopped : {e : Error} → WriteOf I now left (Err e) new → IsFault e → 0 < length left
          → WriteRestOf I old start (Err e) new left
      writes_stopped {e} wrote is_fault some =
          writes_law I (calls_end before (Err e) left (Wrote left (Err e) ∷ []) (new, wrote, refl) (write_fault some is_fault))

      -- no byte was taken of some
      pub writes_zero : {reply : Result ℕ Error} {n : ℕ} {e : Error} → WriteOf I now left reply new → reply ≡ Ok n → n ≡ 0 → 0 < length left
          → SaysError WriteZero (codes "failed to write whole buffer") e → WriteRestOf I old start (Err e) new left
      writes_zero {e = e} wrote is none some says =
          let took = subst (λ r. WriteOf I now left r new) (is ∙ ap Ok none) wrote in
          writes_law I (calls_end before (Err e) left (Wrote left (Ok 0) ∷ []) (new, took, refl) (write_stuck some says))

-- How tries follow one another.

-- what was left out of a list of kinds, counted
count_all : (xs : List ErrorKind) → length xs ≡ count_by (λ _. true) xs
count_all = is_count_by length (λ _. true) refl (λ x xs. omega arith)

-- a mishap more was spent
pub spent_more : (n left less : ℕ) (old mid new : Option (List ErrorKind)) (k : ErrorKind)
    → HasSpentTries n left old mid → HasSpent mid (k ∷ []) new → left ≡ less + 1 → HasSpentTries n less old new
spent_more = grind (arith, common_steps, count_all)

-- no more mishaps than were told
pub spent_all : (n : ℕ) (old mid new : Option (List ErrorKind)) (k : ErrorKind) → HasSpentTries n 0 old mid
    → HasSpent mid (k ∷ []) new → HasAtMost n old → ⊥
spent_all = grind (arith, common_steps, count_all)

-- a try that failed, and then the others, one fewer
pub tries_again : {W : Type 0} (law : W → List ℕ → Result (Unit {0}) Error → W → List ℕ → Type 0) (retries less : ℕ) {old mid new : W}
    {x rest left : List ℕ} {e : Error} {reply : Result (Unit {0}) Error} → retries ≡ less + 1 → law old x (Err e) mid rest
    → Tries law less mid rest reply new left → Tries law retries old x reply new left
tries_again law retries less is failed tries = grind (arith, common_steps, next_try)

-- How the calls that print a text follow one another, and what is known after any formatter.

module _ {X : Type 0} {I : Writer X} {old : X} where
  -- a piece more, if the test says that no error was met
  pub prints_next : (b : Bool) {met : Result (Unit {0}) Error} → b ≡ is_ok met → b ≡ true
      → {text bytes x : List ℕ} {reply : Result (Unit {0}) Error} {mid new : X} → WriteAllOf I mid bytes reply new → bytes ≡ x
      → PrintsOf I old text met mid → PrintsOf I old (text ++ x) reply new
  prints_next b {met = Ok u} is had {text = text} {bytes = bytes} {reply = reply} {new = new} wrote same so_far =
      subst (λ l. PrintsOf I old (text ++ l) reply new) same (printed_piece bytes so_far wrote)
  prints_next b {met = Err e} is had wrote same so_far = absurd (true≢false (sym had ∙ is))

  -- no call, if it says that one was
  pub prints_after : (b : Bool) {met : Result (Unit {0}) Error} → b ≡ is_ok met → b ≡ false → {text : List ℕ} (x : List ℕ) {now : X}
      → PrintsOf I old text met now → PrintsOf I old (text ++ x) met now
  prints_after b is had x so_far = grind (arith, common_steps, silent)

  -- some front was accepted
  prints_moves : {text : List ℕ} {reply : Result (Unit {0}) Error} {new : X}
      → PrintsOf I old text reply new → MovesFront (I.told old) text reply (I.told new)
  prints_moves none_printed = record { accepted = []; front = IsFront-refl []; whole = refl; moves = Moves-refl (I.told old) }
  prints_moves (printed_piece {text = text} x {reply = reply} so_far wrote) = MovesFront-join text x reply (prints_moves so_far) wrote.moves
  prints_moves (silent {text = text} x {e = e} so_far) = MovesFront-first text x e (prints_moves so_far)

  -- and no interruption is returned
  prints_fault : {text : List ℕ} {reply : Result (Unit {0}) Error} {new : X} → PrintsOf I old text reply new → IsNoInterruption reply
  prints_fault none_printed = tt
  prints_fault (printed_piece x so_far wrote) = wrote.never_interrupted
  prints_fault (silent x so_far) = prints_fault so_far

  -- a writer that takes all still takes all
  prints_all : {text : List ℕ} {reply : Result (Unit {0}) Error} {new : X} → PrintsOf I old text reply new → TakesAll I old → TakesAll I new
  prints_all none_printed all = all
  prints_all (printed_piece x so_far wrote) all = wrote.all (prints_all so_far all)
  prints_all (silent x so_far) all = prints_all so_far all

-- a formatter's calls, one after another, print what they print together
module _ {W X : Type 0} (prints : X → List ℕ → W → Type 0) where
  abbrev PrintsNext : W → List ℕ → W → Type 0
  PrintsNext s bs t = (old : X) (text : List ℕ) → prints old text s → prints old (text ++ bs) t

  prints_calls : (s : W) {bs : List ℕ} (t : W) (old : X) → WritesInCalls PrintsNext s bs t → prints old [] s → prints old bs t
  prints_calls s t old w start = rw (← w.whole) (chained_keeps PrintsNext (λ xs q. prints old (concat xs) q)
      (λ xs q x v so_far next. rw (concat-append, append-nil) (next old (concat xs) so_far)) w.parts s t start w.calls)

  -- a text was printed by a writer for formatters: whatever its `fmt` did, and its output if that is specified
  pub prints_through : {s t : W} {old : X} (output : Option (List ℕ)) (formatted : Result (Unit {0}) FormatError)
      → OnOk formatted (WritesText PrintsNext s output t) → prints old [] s → ∥ ((old : X) × (text : List ℕ) × prints old text t) ∥₁
      → ∥ ((old : X) × (text : List ℕ) × prints old text t × (IsOk formatted → IfSome output (λ bs. text ≡ bs))) ∥₁
  prints_through None formatted writes start had = ∥∥₁_map had (λ p. (p.0, p.1, p.2, λ ok. tt))
  prints_through (Some bs) (Err e) writes start had = ∥∥₁_map had (λ p. (p.0, p.1, p.2, λ ok. absurd (true≢false (sym ok))))
  prints_through {s = s} {t = t} {old = old} (Some bs) (Ok u) writes start had =
      ∣ (old, bs, prints_calls s t old writes start, λ ok. refl) ∣₁

-- ---- what is known behind any formatter

-- what stands after a front
rest_behind : (xs ys zs : List ℕ) → ys ≡ xs ++ zs → ys ≡ xs ++ drop (length xs) ys
rest_behind xs ys zs e = e ∙ ap (λ l. xs ++ l) (sym (ap (drop (length xs)) e ∙ drop-append_seam xs zs))

HasSpent-prop : (a : Option (List ErrorKind)) (k : List ErrorKind) (c : Option (List ErrorKind)) → IsProp (HasSpent a k c)
HasSpent-prop None k c = Unit-prop
HasSpent-prop (Some a) k None = ⊥_prop
HasSpent-prop (Some a) k (Some c) = Π_prop (λ p. le_prop)

-- the bytes that were accepted from a to b
abbrev since : WriterState → WriterState → List ℕ
since a b = drop (length (a.out ++ a.held)) (b.out ++ b.held)

-- whatever was accepted, it is those
since-is : {a b : WriterState} {x : List ℕ} {k : List ErrorKind} → Moves a x k b → x ≡ since a b
since-is {a} {b} {x} m = sym (ap (drop (length (a.out ++ a.held))) m.bytes ∙ drop-append_seam (a.out ++ a.held) x)

Moves-had : {a b : WriterState} {k : List ErrorKind} → ∥ ((x : List ℕ) × Moves a x k b) ∥₁ → Moves a (since a b) k b
Moves-had {a} {b} {k} had = record {
  front = (drop (length a.out) b.out, ∥∥₁_elim had (Prim.hlevel props) (λ m. rest_behind a.out b.out m.1.front.0 m.1.front.1));
  bytes = ∥∥₁_elim had (Prim.hlevel props) (λ m. rest_behind (a.out ++ a.held) (b.out ++ b.held) m.0 m.1.bytes);
  mishaps = ∥∥₁_elim had (HasSpent-prop a.mishaps k b.mishaps) (λ m. m.1.mishaps);
  turns = ∥∥₁_elim had le_prop (λ m. m.1.turns);
}

OnOk-prop : (r : Result (Unit {0}) Error) (xs ys : List ℕ) → IsProp (OnOk r (xs ≡ ys))
OnOk-prop (Ok u) xs ys = Prim.hlevel props
OnOk-prop (Err e) xs ys = Unit-prop

-- of a known text the front that was accepted is known
MovesFront-had : {a b : WriterState} {text : List ℕ} {r : Result (Unit {0}) Error} → ∥ MovesFront a text r b ∥₁ → MovesFront a text r b
MovesFront-had {a} {b} {text} {r} had = record {
  accepted = since a b;
  front = (
    drop (length (since a b)) text,
    ∥∥₁_elim had (Prim.hlevel props)
        (λ m. rest_behind (since a b) text m.front.0 (m.front.1 ∙ ap (λ l. l ++ m.front.0) (since-is m.moves))),
  );
  whole = ∥∥₁_elim had (OnOk-prop r _ _) (λ m. is_whole r text (since-is m.moves) m.whole);
  moves = Moves-had (∥∥₁_map had (λ m. (m.accepted, m.moves)));
}
  where
    is_whole : (r : Result (Unit {0}) Error) {x y : List ℕ} (z : List ℕ) → x ≡ y → OnOk r (x ≡ z) → OnOk r (y ≡ z)
    is_whole r z is whole = grind (arith, common_steps)

-- of any text some bytes were accepted
MovesFront-some : {a b : WriterState} {r : Result (Unit {0}) Error} → ∥ ((text : List ℕ) × MovesFront a text r b) ∥₁
    → MovesFront a (since a b) r b
MovesFront-some {a} {b} {r} had = record {
  accepted = since a b;
  front = IsFront-refl (since a b);
  whole = after_ok r refl;
  moves = Moves-had (∥∥₁_map had (λ m. (m.1.accepted, m.1.moves)));
}

-- what was printed of a text whose `fmt` returned `Ok`
moves_text : {a b : WriterState} (output : Option (List ℕ)) {met : Result (Unit {0}) Error}
    → ∥ ((text : List ℕ) × MovesFront a text met b × IfSome output (λ bs. text ≡ bs)) ∥₁ → MovesText a output met b
moves_text {a} {b} None {met} had = record {
  text = since a b;
  met = met;
  moves = MovesFront-some (∥∥₁_map had (λ m. (m.0, m.1)));
  answers = inl (tt, refl);
}
moves_text {a} {b} (Some bs) {met} had = record {
  text = bs;
  met = met;
  moves = MovesFront-had (∥∥₁_map had (λ m. subst (λ l. MovesFront a l met b) m.2 m.1));
  answers = inl (refl, refl);
}

IsNoInterruption-prop : (r : Result (Unit {0}) Error) → IsProp (IsNoInterruption r)
IsNoInterruption-prop (Ok u) = Unit-prop
IsNoInterruption-prop (Err e) = Prim.hlevel props

-- an error that keeps the kind of a fault is a fault
text_fault : (met r : Result (Unit {0}) Error) → FailsText met r → IsNoInterruption met → IsNoInterruption r
text_fault met r why fault = grind (arith, common_steps)

-- the name of the loan is what it was
pub name_kept : {X : Type 0} {at : X → Type 0} {name was : ℕ} {R : X → List ℕ → Type 0} {Q : List ℕ → Type 0}
    → ∥ ((x : X) × (text : List ℕ) × ((at x × (name ≡ was)) × R x text) × Q text) ∥₁ → name ≡ was
name_kept had = ∥∥₁_elim had (Prim.hlevel props) (λ p. p.2.0.1)

module _ {X : Type 0} {I : Writer X} {old new : X} {name was : ℕ} {output : Option (List ℕ)} {met : Result (Unit {0}) Error} where
  -- what is known of a text that was printed, from the result
  pub law_shown : (formatted : Result (Unit {0}) FormatError) (reply : Result (Unit {0}) Error)
      → ∥ ((x : X) × (text : List ℕ) × (((x ≡ old) × (name ≡ was)) × PrintsOf I x text met new)
      × (IsOk formatted → IfSome output (λ bs. text ≡ bs))) ∥₁ → OnOk formatted (reply ≡ met) → OnErr formatted (FailsText met reply)
      → WriteFmtOf I old output reply new
  law_shown (Ok u) reply had same why =
      let prints : ∥ ((text : List ℕ) × PrintsOf I old text met new × IfSome output (λ bs. text ≡ bs)) ∥₁ =
      ∥∥₁_map had (λ p. (p.1, subst (λ x. PrintsOf I x p.1 met new) p.2.0.0 p.2.1, p.3 refl)) in
      subst (λ r. WriteFmtOf I old output r new) (sym same) (record {
        never_interrupted = ∥∥₁_elim prints (IsNoInterruption-prop met) (λ p. prints_fault p.1);
        moves = moves_text output (∥∥₁_map prints (λ p. (p.0, prints_moves p.1, p.2)));
        all = λ all. ∥∥₁_map prints (λ p. prints_all p.1 all);
        calls = ∥∥₁_map prints (λ p. (p.0, met, p.1, inl (p.2, refl)));
      })
  law_shown (Err f) reply had same why =
      let prints : ∥ ((text : List ℕ) × PrintsOf I old text met new) ∥₁ =
      ∥∥₁_map had (λ p. (p.1, subst (λ x. PrintsOf I x p.1 met new) p.2.0.0 p.2.1)) in
      record {
        never_interrupted = text_fault met reply why (∥∥₁_elim prints (IsNoInterruption-prop met) (λ p. prints_fault p.1));
        moves = record {
          text = since (I.told old) (I.told new);
          met = met;
          moves = MovesFront-some (∥∥₁_map prints (λ p. (p.0, prints_moves p.1)));
          answers = inr why;
        };
        all = λ all. ∥∥₁_map prints (λ p. prints_all p.1 all);
        calls = ∥∥₁_map prints (λ p. (p.0, met, p.1, inr why));
      }

-- a result that is known behind a `∥ ∥₁` is known, as that of a `write` after a `write!` to a writer that takes all
pub ok_had : {n : ℕ} (reply : Result ℕ Error) → ∥ reply ≡ Ok n ∥₁ → reply ≡ Ok n
ok_had (Ok k) had = ap Ok (∥∥₁_elim had (Prim.hlevel props) (λ same. cc))
ok_had (Err e) had = absurd (∥∥₁_elim had ⊥_prop (λ same. cc))

-- A `write!` of a text whose output is specified: a front of it was accepted, or its own `fmt` failed.
pub MovesFront-text : {a b : WriterState} {bs : List ℕ} {r : Result (Unit {0}) Error} → MovesText a (Some bs) r b
    → MovesFront a bs r b ⊎ IsErrAnd r IsTextError
MovesFront-text {a} {b} {bs} {r} f = grind (arith, common_steps)

-- `write!(..)?; flush()`, if the `write!` returned `Ok`
pub MovesFront-text_flush : {a b c : WriterState} {text : List ℕ} {u : Unit {0}} (r : Result (Unit {0}) Error)
    → MovesText a (Some text) (Ok u) b → Moves b [] (call_mishap r) c → MovesFront a text r c
MovesFront-text_flush {text = text} {u} r f g = ⊎_elim (λ front. MovesFront-flush text u r front g) (λ no. absurd no) (MovesFront-text f)

-- What a page has after a text was printed to it, and what is known of a text that was printed by it.

-- what stands under an `Ok`, if the result is no error
pub when_ok : {E X : Type 0} (r : Result (Unit {0}) E) → false ≡ is_err r → OnOk r X → X
when_ok r is x = grind (arith, common_steps)

-- an unused page has no text
pub page_none : (N : ℕ) (bytes : List ℕ) → HasText N bytes 0 false []
page_none N bytes = grind (arith, common_steps)

module _ {P : Type 0} (has : List ℕ → P → Type 0) where
  abbrev PageGives : P → List ℕ → P → Type 0
  PageGives s bs t = (text : List ℕ) → has text s → has (text ++ bs) t

  -- a page that had no text has the specified one
  pub page_has : (s t : P) (output : Option (List ℕ)) → WritesText PageGives s output t → has [] s → IfSome output (λ bs. has bs t)
  page_has s t None writes start = tt
  page_has s t (Some bs) writes start = subst (λ l. has l t) writes.whole (chained_keeps PageGives (λ xs q. has (concat xs) q)
      (λ xs q x v so_far next. subst (λ l. has l v)
      (sym (concat-append xs (x ∷ []) ∙ ap (λ l. concat xs ++ l) (append-nil x))) (next (concat xs) so_far))
      writes.parts s t start writes.calls)

-- the specified text does not fit
pub page_over : (N : ℕ) (output : Option (List ℕ)) (bytes : List ℕ) (len : ℕ) {is_over : Bool} → is_over ≡ true
    → IfSome output (HasText N bytes len is_over) → IfSome output (λ bs. N < length bs)
page_over N output bytes len is has = grind (arith, common_steps)

-- or these bytes are it
pub page_text : (N : ℕ) (output : Option (List ℕ)) (bytes : List ℕ) (len : ℕ) {text : List ℕ} {is_over : Bool} → is_over ≡ false
    → text ≡ take len bytes → IfSome output (HasText N bytes len is_over) → IfSome output (λ bs. text ≡ bs)
page_text N output bytes len is same has = grind (arith, common_steps)

-- a text that was printed is one of the two results
pub short_prints : (N : ℕ) {old new : WriterState} {output : Option (List ℕ)} (reply : Result (Unit {0}) Error)
    → PrintsShort N old output reply new → PrintsOrRefuses N old output reply new
short_prints N reply prints = grind (arith, common_steps)

-- A text of at most N bytes was accepted, or a front of it; or its own `fmt` failed, and the writer got no call.
pub prints_fitting : (N : ℕ) {a b : WriterState} {bs : List ℕ} (r : Result (Unit {0}) Error) → PrintsOrRefuses N a (Some bs) r b
    → length bs ≤ N → MovesFront a bs r b ⊎ IsErrAnd r (λ e. IsTextError e × (b ≡ a))
prints_fitting N {a} {b} (Ok u) prints fits = inl (subst (λ l. MovesFront a l (Ok u) b) prints.is prints.moves)
prints_fitting N {a} {b} (Err e) (inl prints) fits = inl (subst (λ l. MovesFront a l (Err e) b) prints.is prints.moves)
prints_fitting N (Err e) (inr (inl unwritten, same)) fits = absurd (omega (arith, unwritten.1))
prints_fitting N (Err e) (inr (inr failed, same)) fits = inr (failed.1, same)

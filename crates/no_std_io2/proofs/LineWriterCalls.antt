-- What the calls of a line writer tell and count, by the calls of its inner writer. For `LineWriter`, and for counts of calls.
use Rattle.no_std_io2.proofs.Words.{TakesAll, CallOf, Writer, WriteCall, Wrote, Made, calls_for, IsLineState, lines_of, lines_len}
use Rattle.no_std_io2.proofs.Words.{unfinished_line, charges, [], ◌≡◌, ◌+◌, ℕ, ◌<◌, ◌≤◌, ◌==◌, List, ◌++◌, length, take, Result, Ok, Err}
use Rattle.no_std_io2.proofs.Words.{OnOk, IsOk, IfOk, refl, subst, arith, if◌then◌else◌, inl, inr, common_steps, nat_lt, nat_tests}
use Rattle.no_std_io2.proofs.Words.{first_stops, first_goes_on, with_buffer, Stepped, SendCalls, WriteCalls, WriteAllCalls, buffer_after}
use Rattle.no_std_io2.proofs.Words.{writing_calls, SendLinesCalls, LineWriteCalls, LineWriteAllCalls, Then}
use Rattle.no_std_io2.specs.inner.LineWriter.{SendLineCalls, HoldsTail, LinesCalls, line_buffer_after, line_buffer_filled}
use Rattle.no_std_io2.proofs.BufWriterLemmas.{no_ok, then_does, effect_by, Always, Exactly, Emptied, Sending, StepsJoin, Moves-buffered}
use Rattle.no_std_io2.proofs.{BufWriterLemmas.{Moves-emptied, MovesFront-emptied}, LineWriterStates.{line_left, line_left-is, tail_whole}}
use Rattle.no_std_io2.proofs.{LineWriterStates.{took_tail, tail_fits}, BufWriterCalls.{one_inner_call, send_does, kept_does, write_does}}
use Rattle.no_std_io2.proofs.BufWriterCalls.{write_all_does, write_bound, Writing, WritingAll, writing_joins, writing_all_joins}
use Rattle.no_std_io2.proofs.BufWriterCalls.{writing_all_calls}
use Rattle.no_std_io2_base.{specs.declared.error.Error.{Error}, proofs.{CallsLemmas.{made_split}, MovesLemmas.{all_calls, all_count}}}
use Rattle.no_std_io2_base.proofs.MovesLemmas.{MovesFront-ends, MovesFront-whole, MovesFront-join, MovesFront-first, after_ok}
use Rattle.no_std_io2_base.proofs.LineLemmas.{lines_some, lines_none, lines_split, take_lines, lines_bound, unfinished_all}
use lib.Seq.{take-take}
use Rattle.std.proofs.lemmas.Result.{on_ok_weaker}

-- a sent line is one call at most
abbrev line_calls : List ℕ → ℕ
line_calls held = if lines_len held == 0 then 0 else calls_for held

-- how many calls pass lines on: one, or those of a `write_all` and a sending
abbrev lines_calls : ℕ → List ℕ → List ℕ → ℕ
lines_calls S y held = if nat_lt 0 (length held) then writing_all_calls S y held + calls_for (buffer_after S held y) else calls_for y

-- a `write` makes three at most: for a text without a newline,
line_write_few : (S : ℕ) (held x : List ℕ) → line_calls held + writing_calls S (line_left held) x ≤ 3
line_write_few S held x = grind (arith, nat_tests)

-- and for one with lines;
lines_few : (held : List ℕ) → calls_for held + 1 ≤ 3
lines_few held = grind (arith, nat_tests)

-- a `write_all` too: for a text without a newline,
line_write_all_few : (S : ℕ) (held x : List ℕ) → line_calls held + writing_all_calls S x (line_left held) ≤ 3
line_write_all_few S held x = grind (arith, nat_tests)

-- and for one with lines
all_lines_few : (S : ℕ) (held y x : List ℕ) → lines_calls S y held + writing_all_calls S x [] ≤ 3
all_lines_few S held y x = grind (arith, common_steps)

-- what holds after `Ok` holds for a result that is `Ok`
at_ok : {A : Type 0} {P : Type 0} (r : Result A Error) → IsOk r → OnOk r P → P
at_ok = grind (arith, common_steps)

-- lines that go through a buffer, and then a sending
behind_joins : (y : List ℕ) → StepsJoin (WritingAll y) Sending (WritingAll y)
behind_joins y = record {
  first_fails = λ s t e f. f;
  joins = λ s m t reply f g. (g.0, MovesFront-ends y reply (MovesFront-whole y tt f.1) g.1);
}

-- the lines of x, and then the bytes after them
lines_joins : (x : List ℕ) → StepsJoin (WritingAll (lines_of x)) (WritingAll (unfinished_line x)) (WritingAll x)
lines_joins x = record {
  first_fails = λ s t e f. subst (λ l. WritingAll l s (Err e) t) (lines_split x)
      (f.0, MovesFront-first (lines_of x) (unfinished_line x) e f.1);
  joins = λ s m t reply f g. subst (λ l. WritingAll l s reply t) (lines_split x)
      (g.0, MovesFront-join (lines_of x) (unfinished_line x) reply f.1 g.1);
}

-- What a `write` does: it accepts the bytes that its result reports, and over an inner writer that takes all it makes three calls at most.
pub record LineWrites {W : Type 0} (I : Writer W) (S : ℕ) (x : List ℕ) (a : W) (held : List ℕ) (C : List WriteCall) (reply : Result ℕ Error)
    (left : List ℕ) (b : W) : Type 0 where
  pub told : Writing x (with_buffer (I.told a) held) reply (with_buffer (I.told b) left)
  pub keeps : TakesAll I a → TakesAll I b × IsOk reply × (charges C ≤ 3)
  -- then this is held, if a line state was
  pub filled : IsLineState held → TakesAll I a → left ≡ line_buffer_filled S held x

-- What a `write_all` does: it accepts some front of x, all of it after `Ok`, and makes three calls at most too.
pub record LineWritesAll {W : Type 0} (I : Writer W) (S : ℕ) (x : List ℕ) (a : W) (held : List ℕ) (C : List WriteCall)
    (reply : Result (Unit {0}) Error) (left : List ℕ) (b : W) : Type 0 where
  pub told : WritingAll x (with_buffer (I.told a) held) reply (with_buffer (I.told b) left)
  pub keeps : TakesAll I a → TakesAll I b × IsOk reply × (charges C ≤ 3)
  -- this is held after an `Ok`, if a line state was
  pub leaves : IsLineState held → OnOk reply (left ≡ line_buffer_after S held x)

module _ {W : Type 0} (I : Writer W) where
  -- what the sending of a held line does,
  send_line_does : Always I SendLineCalls Sending (Exactly line_left) line_calls
  send_line_does a b held left C reply (inl kept) made =
      kept_does I (Exactly line_left) line_calls a b kept.1 kept.2 kept.3 (grind (arith, nat_tests, lines_none held kept.0))
      (grind (arith, nat_tests, lines_none held kept.0)) made
  send_line_does a b held left C reply (inr sent) made =
      let sends = effect_by (send_does I) sent.1 made in
      let some = lines_some held sent.0 in record {
        told = sends.told;
        leaves = grind (arith, common_steps, on_ok_weaker, sends.leaves, some);
        counts = λ t. grind (arith, common_steps, sends.counts t, some);
      }

  -- and of lines that are passed on by a `write_all`
  send_lines_does : (S : ℕ) (y : List ℕ) → Always I (SendLinesCalls S y) (WritingAll y) Emptied (lines_calls S y)
  send_lines_does S y a b held left C reply (inl past) made =
      let all = all_calls I past.2 a b made in record {
        told = (all.0, MovesFront-emptied past.0 past.1 all.1);
        leaves = after_ok reply past.1;
        counts = λ t. grind (arith, common_steps, all_count I past.2 a b made t, past.0);
      }
  send_lines_does S y a b held left C reply (inr behind) made =
      let both = effect_by (then_does (WriteAllCalls S y) SendCalls (behind_joins y) (write_all_does I S y) (send_does I)) behind.1 made in
      record { told = both.told; leaves = both.leaves; counts = λ t. grind (arith, common_steps, both.counts t, behind.0) }

  module _ (S : ℕ) (x : List ℕ) where
    -- one write of lines took n bytes, and then the next bytes t are held
    put_tells : 0 < lines_len x → (n : ℕ) (t : List ℕ) → take (n + length t) x ≡ take n x ++ t → (n ≡ 0 → t ≡ []) → (a b : W)
        → CallOf I a (Wrote (lines_of x) (Ok n)) b → Writing x (with_buffer (I.told a) []) (Ok (n + length t)) (with_buffer (I.told b) t)
    put_tells some n t whole zero a b call = grind (arith, common_steps, Moves-emptied, Moves-buffered, take-take, take_lines x refl)

    -- the write had this answer, and the tail of x is held
    tail_tells : 0 < lines_len x → (answer reply : Result ℕ Error) (held left : List ℕ) → held ≡ [] → HoldsTail S x answer reply left
        → (a b : W) → CallOf I a (Wrote (lines_of x) answer) b → Writing x (with_buffer (I.told a) held) reply (with_buffer (I.told b) left)
    tail_tells some answer reply held left none tail a b call = grind (arith, common_steps, put_tells, took_tail, Moves-emptied)

    -- one write of lines
    lines_do : 0 < lines_len x → Always I (LinesCalls S x) (Writing x) (λ _ _. Unit {0}) (λ _. 1)
    lines_do some a b held left C reply lines made = grind (arith, common_steps, one_inner_call, tail_tells, after_ok, tail_whole, charges)

    -- what is taken and held is no more than x
    tail_bound : (answer reply : Result ℕ Error) (left : List ℕ) → HoldsTail S x answer reply left
        → IfOk answer (λ n. n ≤ length (lines_of x)) → IfOk reply (λ n. n ≤ length x)
    tail_bound answer reply left tail few = grind (arith, common_steps, tail_fits S x, lines_bound x)

    -- over an inner writer that takes all, this is held after it
    tail_filled : {held left : List ℕ} {C : List WriteCall} {reply : Result ℕ Error} → Then SendCalls (LinesCalls S x) held C reply left
        → 0 < lines_len x → (a b : W) → Made (CallOf I) a C b → TakesAll I a → left ≡ take S (unfinished_line x)
    tail_filled (first_stops p) some a b made takes = no_ok ((effect_by (send_does I) p made).counts takes).1
    tail_filled (first_goes_on {C = C} {D = D} {left = left} {reply = reply} p q) some a b made takes =
        let parts = made_split (CallOf I) C a D b made in
        let law = one_inner_call I parts.0 b q.2 parts.2 in
        (tail_whole S x q.1 reply left (law.all ((effect_by (send_does I) p parts.1).counts takes).0).1 some q.3).1

  module _ {a b : W} {held left : List ℕ} where
    -- the calls of a `write` do that,
    pub line_write_does : (S : ℕ) {x : List ℕ} {reply : Result ℕ Error} (p : Stepped I (LineWriteCalls S x) a held reply left b)
        → LineWrites I S x a held p.calls reply left b
    line_write_does S {x} {reply} p = elim p.are [
      | inl plain ↦
          let both = effect_by
          (then_does SendLineCalls (WriteCalls S x) (writing_joins x) send_line_does (write_does I S x)) plain.1 p.made in
          record {
            told = both.told;
            keeps = λ t. let c = both.counts t in (c.0, c.1, omega (arith, c.2, line_write_few S held x));
            filled = λ line t.
                let after = at_ok reply (both.counts t).1 both.leaves in
                grind (arith, nat_tests, after, line_left-is held line, lines_none x plain.0);
          }
      | inr lines ↦
          let some = lines_some x lines.0 in
          let both = effect_by (then_does SendCalls (LinesCalls S x) (writing_joins x) (send_does I) (lines_do S x some)) lines.1 p.made in
          record {
            told = both.told;
            keeps = λ t. let c = both.counts t in (c.0, c.1, omega (arith, c.2, lines_few held));
            filled = λ line t. grind (arith, nat_tests, tail_filled S x lines.1 some a b p.made t, some);
          }
    ]

    -- and no more than it was given
    pub line_write_bound : (S : ℕ) {x : List ℕ} {reply : Result ℕ Error} → Stepped I (LineWriteCalls S x) a held reply left b
        → IfOk reply (λ n. n ≤ length x)
    line_write_bound S p = grind (arith, nat_tests, made_split, write_bound, tail_bound, one_inner_call)

    -- and those of a `write_all` that
    pub line_write_all_does : (S : ℕ) {x : List ℕ} {reply : Result (Unit {0}) Error}
        (p : Stepped I (LineWriteAllCalls S x) a held reply left b) → LineWritesAll I S x a held p.calls reply left b
    line_write_all_does S {x} {reply} p = elim p.are [
      | inl plain ↦
          let both = effect_by (then_does SendLineCalls (WriteAllCalls S x) (writing_all_joins x) send_line_does (write_all_does I S x))
          plain.1 p.made in
          record {
            told = both.told;
            keeps = λ t. let c = both.counts t in (c.0, c.1, omega (arith, c.2, line_write_all_few S held x));
            leaves = λ line. on_ok_weaker reply
                (λ e. grind (arith, nat_tests, e, line_left-is held line, lines_none x plain.0, unfinished_all x plain.0)) both.leaves;
          }
      | inr lines ↦
          let both = effect_by (then_does (SendLinesCalls S (lines_of x)) (WriteAllCalls S (unfinished_line x)) (lines_joins x)
          (send_lines_does S (lines_of x)) (write_all_does I S (unfinished_line x))) lines.1 p.made in
          record {
            told = both.told;
            keeps = λ t. let c = both.counts t in (c.0, c.1, omega (arith, c.2, all_lines_few S held (lines_of x) (unfinished_line x)));
            leaves = λ line. on_ok_weaker reply (λ e. grind (arith, nat_tests, e, lines_some x lines.0)) both.leaves;
          }
    ]

-- The newline is the last byte; or there is none in a short text; or it is found, or not: each by what the lines are then.
use Rattle.no_std_io2.proofs.Words.{common_steps, ◌≡◌, ◌+◌, ◌∷◌, ◌++◌, length, drop, take, arith, ap, sym, ◌∙◌, length-drop, length-append}
use Rattle.no_std_io2.proofs.Words.{newline, lines_len, lines_of, unfinished_line, ◌-◌, ◌≢◌, [], List, ℕ, true, false, true≢false, inl, inr}
use Rattle.no_std_io2.proofs.Words.{nil_from_length, cases_lt, rules}
use Rattle.std.specs.{List.{AllWithin}, Prelude.{Contains}, Io.BufRead.{ends_with_byte}}
use Rattle.no_std_io2_base.proofs.LineLemmas.{lines_are, lines_none, lines_split, unfinished_none, contains_lacks}
use Rattle.no_std_io2_base.proofs.PieceLemmas.{ends_with_byte-append}
use Rattle.no_std_io2.proofs.buffered.line_writer.steps.lines_len.Goals as goal

pub returns-in-Some-clause-lines : goal.returns-in-Some-clause-lines
returns-in-Some-clause-lines g c =
    let x = c.args.x.now in
    let at = c.in-Some.at in
    let last = c.in-Some.ensures in
    let plain = contains_lacks newline (drop (at + 1) x) (λ has. last.0.after (at + 1 + has.0) (omega arith)
    (omega (arith, has.1, length-drop (at + 1) x)) (grind (arith, common_steps, has.2))) in
    let whole : x ≡ take at x ++ newline ∷ drop (at + 1) x = grind (arith, common_steps, last.0.high, last.1) in
    grind (arith, common_steps, ap lines_len whole, lines_are (take at x) (drop (at + 1) x) plain)

pub returns-in-None-clause-lines : goal.returns-in-None-clause-lines
returns-in-None-clause-lines g c =
    ap length (sym (lines_none c.args.x.now (contains_lacks newline c.args.x.now (λ has.
    c.in-None.ensures has.0 (omega arith) has.1 (grind (arith, common_steps, has.2))))))

-- neither the bytes before the last nor the last are newlines
lacks_all : (x : List ℕ) → ends_with_byte newline x ≡ false → AllWithin (λ b. b ≢ newline) x 0 (length x - 1) → Contains x newline → ⊥
lacks_all x other before has = elim (cases_lt has.0 (length x - 1)) [
  | inl less ↦ before has.0 0 (omega arith) less (grind (arith, common_steps, has.2))
  | inr last ↦
      let at = has.0 in
      let whole : x ≡ take at x ++ newline ∷ drop (at + 1) x = grind (arith, common_steps, has.1, has.2) in
      let none : drop (at + 1) x ≡ [] = nil_from_length _ (omega (arith, last, has.1, length-drop (at + 1) x)) in
      let ends : ends_with_byte newline x ≡ true = ap (ends_with_byte newline) (whole ∙ ap (λ l. take at x ++ newline ∷ l) none)
      ∙ ends_with_byte-append newline (take at x) (newline ∷ []) (omega arith) in
      true≢false (sym ends ∙ other)
]

pub returns-then-lacks_before_last-clause-lines : goal.returns-then-lacks_before_last-clause-lines
returns-then-lacks_before_last-clause-lines g c =
    let x = c.args.x.now in
    let other = sym c.ends_in_newline.ensures ∙ c.if-ends_in_newline.false in
    ap length (sym (lines_none x (contains_lacks newline x (lacks_all x other (search rules)))))

pub returns-then-ends_in_newline-clause-lines : goal.returns-then-ends_in_newline-clause-lines
returns-then-ends_in_newline-clause-lines g c =
    let x = c.args.x.now in
    let none = unfinished_none x (sym c.ends_in_newline.ensures ∙ c.if-ends_in_newline.true) in
    omega (arith, ap length (lines_split x), length-append (lines_of x) (unfinished_line x), ap length none)

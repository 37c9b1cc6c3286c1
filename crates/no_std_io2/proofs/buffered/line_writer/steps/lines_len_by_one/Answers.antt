-- A newline is found, or there is none: each by what the lines are then.
use Rattle.no_std_io2.proofs.Words.{common_steps, ◌≡◌, ◌+◌, ◌-◌, ◌∷◌, ◌++◌, length, drop, take, arith, ap, sym, length-drop}
use Rattle.no_std_io2.proofs.Words.{newline, lines_len}
use Rattle.no_std_io2_base.proofs.LineLemmas.{lines_are, lines_none, contains_lacks}
use Rattle.no_std_io2.proofs.buffered.line_writer.steps.lines_len_by_one.Goals as goal

pub returns-then-x-at-eq10-clause-lines : goal.returns-then-x-at-eq10-clause-lines
returns-then-x-at-eq10-clause-lines c =
    let x = c.args.x.now in
    let at = c.bytes.at - 1 in
    let plain = contains_lacks newline (drop (at + 1) x) (λ has. c.bytes.invariant.1 (at + 1 + has.0) 0 (omega arith)
    (omega (arith, c.bytes-test.true, has.1, length-drop (at + 1) x)) (grind (arith, common_steps, has.2))) in
    let whole : x ≡ take at x ++ newline ∷ drop (at + 1) x =
    grind (arith, common_steps, c.bytes-test.true, c.bytes.invariant.0, c.if-x-at-eq10.true) in
    grind (arith, common_steps, ap lines_len whole, lines_are (take at x) (drop (at + 1) x) plain)

pub returns-clause-lines : goal.returns-clause-lines
returns-clause-lines c =
    ap length (sym (lines_none c.args.x.now (contains_lacks newline c.args.x.now (λ has.
    c.bytes.invariant.1 has.0 0 (omega (arith, c.bytes-test.false)) has.1 (grind (arith, common_steps, has.2))))))

-- A failed sending, a failed write, no byte taken, and a tail: the search does not join the calls of these ends.
use Rattle.no_std_io2.proofs.Words.{common_steps, ◌≡◌, ◌+◌, ◌-◌, ◌++◌, Ok, length, arith, ◌∙◌, sym, refl, ap, inr, length-take, length-drop}
use Rattle.no_std_io2.proofs.Words.{drop, rules, err_from_is_err_and, sender_buffer}
use Rattle.std.specs.List.{slice_range}
use Rattle.no_std_io2_base.proofs.{CallsLemmas.{by_are, writes_whole}, LineLemmas.{contains_lines}}
use Rattle.no_std_io2.proofs.{BufWriterLemmas.{then_stops, then_goes_on}, LineWriterStates.{wrote_lines, tail_none}}
use Rattle.no_std_io2.proofs.buffered.line_writer.steps.write_lines.Goals as goal

pub returns-in_err-send_held : goal.returns-in_err-send_held
returns-in_err-send_held g c =
    let p = err_from_is_err_and c.from_residual.result c.from_residual.ensures.1 in
    let stopped = then_stops c.in_err-send_held.ensures.calls in
    rw (p.1, p.2) (by_are stopped (λ C calls. inr (contains_lines _ c.requires.lines c.requires.some, calls)))

-- the write of the lines failed
pub returns-in_err-n : goal.returns-in_err-n
returns-in_err-n g c =
    let p = err_from_is_err_and c.from_residual-in_err-n.result c.from_residual-in_err-n.ensures.1 in
    let none = writes_whole c.in_ok-send_held.ensures.calls.are in
    let went = then_goes_on _ c.in_ok-send_held.ensures.calls
    (wrote_lines g.row.S _ c.requires.lines (rw c.get_mut.ensures.value at c.in_err-n.ensures.law) none (none, refl)) in
    rw (p.1, p.2) (by_are went (λ C calls. inr (contains_lines _ c.requires.lines c.requires.some, calls)))

-- none of them were taken, or all bytes were
pub returns-then-n-eq0 : goal.returns-then-n-eq0
returns-then-n-eq0 g c =
    let x = c.args.x.now in
    let none = writes_whole c.in_ok-send_held.ensures.calls.are in
    let empty = none ∙ sym (tail_none g.row.S x c.in_ok-n.n (search rules)) in
    let count = ap Ok
    (let sum : c.in_ok-n.n ≡ c.in_ok-n.n + length (sender_buffer c.send_held.new.self) = omega (arith, ap length none) in sum) in
    let went = then_goes_on _ c.in_ok-send_held.ensures.calls
    (wrote_lines g.row.S _ c.requires.lines (rw c.get_mut.ensures.value at c.in_ok-n.ensures.law) none (empty, count)) in
    by_are went (λ C calls. inr (contains_lines _ c.requires.lines c.requires.some, calls))

pub hold-requires : goal.hold-requires
hold-requires g c = grind (arith, common_steps, writes_whole, length-take)

-- some were, and the tail is held
pub returns : goal.returns
returns g c =
    let x = c.args.x.now in
    let n = c.in_ok-n.n in
    let end = c.tail_end-end.result in
    let none = writes_whole c.in_ok-send_held.ensures.calls.are in
    let held = c.hold.ensures.buffer ∙ ap (λ l. l ++ slice_range x n end) none in
    let tail = c.tail_end-end.ensures in
    let count : end ≡ n + length (sender_buffer c.hold.new.self) =
    omega (arith, ap length held, length-take (end - n) (drop n x), length-drop n x, tail.after, tail.within) in
    let law = rw (sym c.hold.ensures.same) at (rw c.get_mut.ensures.value at c.in_ok-n.ensures.law) in
    let went = then_goes_on _ c.in_ok-send_held.ensures.calls
    (wrote_lines g.row.S _ c.requires.lines law none (held ∙ tail.tail, ap Ok count)) in
    by_are went (λ C calls. inr (contains_lines _ c.requires.lines c.requires.some, calls))

-- With a newline and without one it is another case of the step: the search does not join the two calls of either.
use Rattle.no_std_io2.proofs.Words.{◌≡◌, ◌∙◌, sym, [], Ok, Stepped, arith, inl, inr, length-drop, unfinished_line}
use Rattle.no_std_io2.proofs.Words.{err_from_is_err_and, nil_from_length, sender_buffer, sender_inner, SendLinesCalls, WriteAllCalls}
use Rattle.no_std_io2.proofs.{BufWriterLemmas.{then_stops, then_goes_on}, BufWriterCalls.{nothing_put}}
use Rattle.no_std_io2.proofs.LineWriterStates.{send_lines_leaves}
use Rattle.std.proofs.lemmas.List.{take_rest}
use Rattle.no_std_io2_base.proofs.{CallsLemmas.{by_are}, LineLemmas.{take_lines, drop_lines, contains_lines, lacks_lines}}
use Rattle.no_std_io2.proofs.buffered.line_writer.steps.write_all_parts.Goals as goal

-- no newline: a held line was not sent
pub returns-in_err-send_line : goal.returns-in_err-send_line
returns-in_err-send_line g c =
    let p = err_from_is_err_and c.from_residual.result c.from_residual.ensures.1 in
    let plain = lacks_lines c.args.x.now (omega (arith, c.lines_len-len.ensures.lines, c.if-len-eq0.true)) in
    rw (p.1, p.2) (by_are (then_stops c.in_err-send_line.ensures) (λ C stopped. inl (plain, stopped)))

-- or there was none, or it was sent
pub returns-then-len-eq0 : goal.returns-then-len-eq0
returns-then-len-eq0 g c =
    let plain = lacks_lines c.args.x.now (omega (arith, c.lines_len-len.ensures.lines, c.if-len-eq0.true)) in
    by_are (then_goes_on _ c.in_ok-send_line.ensures c.write_all.ensures) (λ C went. inl (plain, went))

pub returns-in_err-send_lines : goal.returns-in_err-send_lines
returns-in_err-send_lines g c =
    let p = err_from_is_err_and c.from_residual-in_err-send_lines.result c.from_residual-in_err-send_lines.ensures.1 in
    let x = c.args.x.now in
    let is = c.lines_len-len.ensures.lines in
    let sent = rw (take_lines x is) at c.in_err-send_lines.ensures in
    rw (p.1, p.2) (by_are (then_stops sent) (λ C calls. inr (contains_lines x is (omega (arith, c.if-len-eq0.false)), calls)))

-- no byte follows the lines
pub returns-then-len-x : goal.returns-then-len-x
returns-then-len-x g c =
    let x = c.args.x.now in
    let len = c.lines_len-len.result in
    let is = c.lines_len-len.ensures.lines in
    let S = g.row.S in
    let sent = c.in_ok-send_lines.ensures in
    let none = send_lines_leaves S _ sent.are in
    let rest : unfinished_line x ≡ [] = sym (drop_lines x is) ∙ nil_from_length _ (omega (arith, length-drop len x, c.if-len-x.true)) in
    let w = c.send_lines.new.w in
    let nothing : Stepped g.W.Write (WriteAllCalls S (unfinished_line x)) (sender_inner w) (sender_buffer w) (Ok tt) (sender_buffer w)
    (sender_inner w) = rw (none, rest) (nothing_put {I = g.W.Write} S (sender_inner w)) in
    let went = then_goes_on {first = SendLinesCalls S _} {next = WriteAllCalls S _} _ (rw (take_lines x is) at sent) nothing in
    by_are went (λ C calls. inr (contains_lines x is (omega (arith, c.if-len-eq0.false)), calls))

pub returns : goal.returns
returns g c =
    let x = c.args.x.now in
    let is = c.lines_len-len.ensures.lines in
    let rest = take_rest x c.lines_len-len.result ∙ drop_lines x is in
    let S = g.row.S in
    let went = then_goes_on {first = SendLinesCalls S _} {next = WriteAllCalls S _} _ c.in_ok-send_lines.ensures c.write_all-2.ensures in
    let all = rw (take_lines x is, rest) at went in
    by_are all (λ C calls. inr (contains_lines x is (omega (arith, c.if-len-eq0.false)), calls))

-- A text without a newline is the first case of the step: the search does not join its two calls.
use Rattle.no_std_io2.proofs.{Words.{arith, inl, err_from_is_err_and}, BufWriterLemmas.{then_stops, then_goes_on}}
use Rattle.no_std_io2_base.proofs.{CallsLemmas.{by_are}, LineLemmas.{lacks_lines}}
use Rattle.no_std_io2.proofs.buffered.line_writer.steps.write.Goals as goal

pub returns-in_err-send_line : goal.returns-in_err-send_line
returns-in_err-send_line g c =
    let p = err_from_is_err_and c.from_residual.result c.from_residual.ensures.1 in
    let plain = lacks_lines c.args.x.now (omega (arith, c.lines_len-len.ensures.lines)) in
    rw (p.1, p.2) (by_are (then_stops c.in_err-send_line.ensures) (λ C stopped. inl (plain, stopped)))

pub returns : goal.returns
returns g c =
    let plain = lacks_lines c.args.x.now (omega (arith, c.lines_len-len.ensures.lines)) in
    by_are (then_goes_on _ c.in_ok-send_line.ensures c.write.ensures) (λ C went. inl (plain, went))

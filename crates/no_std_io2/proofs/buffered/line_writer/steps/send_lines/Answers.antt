-- Through the buffer, and then a sending: the search does not join the two calls.
use Rattle.no_std_io2.proofs.{Words.{◌<◌, length, rules, inr, err_from_is_err_and, sender_buffer}, BufWriterLemmas.{then_stops}}
use Rattle.no_std_io2.proofs.BufWriterLemmas.{then_goes_on}
use Rattle.no_std_io2_base.proofs.CallsLemmas.{by_are}
use Rattle.no_std_io2.proofs.buffered.line_writer.steps.send_lines.Goals as goal

pub returns-in_err-write_all : goal.returns-in_err-write_all
returns-in_err-write_all g c =
    let p = err_from_is_err_and c.from_residual.result c.from_residual.ensures.1 in
    let some : 0 < length (sender_buffer c.args.w.now) = search rules in
    rw (p.1, p.2) (by_are (then_stops c.in_err-write_all.ensures) (λ C stopped. inr (some, stopped)))

pub returns : goal.returns
returns g c =
    let some : 0 < length (sender_buffer c.args.w.now) = search rules in
    by_are (then_goes_on _ c.in_ok-write_all.ensures c.send.ensures.calls) (λ C went. inr (some, went))

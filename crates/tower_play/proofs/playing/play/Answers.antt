-- The prover does not find the run that was shown (`shows_at`), nor how a failed write ended (`write_failed`, `flush_failed`).
use Rattle.no_std_io2.proofs.{Words.{subst, inl, inr, err_from_is_err_and, to_come, tells, newline}, TakesLemmas.{reader}}
use Rattle.std.proofs.Common.{IfSome}
use Rattle.tower_play.{specs.{Play.{IsPlay}, Reading.{IsRead}}, proofs.PlayLemmas.{shows_at, writes_text, write_failed, flush_failed}}
use Rattle.tower_play.proofs.playing.play.Goals as goal

pub returns : goal.returns
returns g c =
    let R = reader g.R.Stored g.R.Read in
    let script = c.in_ok-acts.field-0 in
    let all = rw (c.split.ensures.reader, c.split.ensures.delim) at (c.in_ok-acts.ensures.read c.split.ensures.fresh) in
    let is : IsPlay _ c.args.shape (to_come (tells R c.args.input)) c.in_ok-report.report.items = record {
      script = script;
      read = subst (λ E. IfSome E (λ l. IsRead newline l script)) c.new-reader.ensures.events all;
      ops = c.in_ok-ops.ops.items;
      calls = c.in_ok-ops.ensures.calls;
      shows = shows_at c.deref.ensures.value c.in_ok-report.ensures.ok;
    } in
    let wrote = c.in_ok-write_all.ensures.law.moves in
    record {
      ok = writes_text is c.deref-2.ensures.value wrote c.in_ok-flush.ensures.law.moves c.in_ok-flush.ensures.law.empty;
      first = tt;
      other = tt;
    }

pub returns-in_err-write_all-clause-other : goal.returns-in_err-write_all-clause-other
returns-in_err-write_all-clause-other g c =
    let left = c.from_residual-in_err-write_all in
    let p = err_from_is_err_and left.result left.ensures.1 in
    rw (p.1, p.2) (inl (inr (write_failed c.in_err-write_all.ensures.law.moves)))

pub returns-in_err-flush-clause-other : goal.returns-in_err-flush-clause-other
returns-in_err-flush-clause-other g c =
    let left = c.from_residual-in_err-flush in
    let p = err_from_is_err_and left.result left.ensures.1 in
    rw (p.1, p.2) (inl (inr (flush_failed c.in_ok-write_all.ensures.law.moves c.in_err-flush.ensures.law.moves)))

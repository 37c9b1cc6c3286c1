-- One answer for each end: no position, no end, no way back, and the two ends that return a length.
use Rattle.std.proofs.{Common.{rules}, lemmas.Result.{err_from_is_err_and}}
use Rattle.no_std_io2_base.{specs.inner.Seek.{no_position, no_end, went_back, no_way_back}, proofs.CallsLemmas.{by_call, by_two, by_three}}
use Rattle.no_std_io2_base.proofs.{CursorLemmas.{len_at_end}, traits.seek.Seek.stream_len.Goals.{then-old-end+in_ok-seek, else-old-end}}
use Rattle.no_std_io2_base.proofs.traits.seek.Seek.stream_len.Goals as goal

pub returns-in_err-old : goal.returns-in_err-old
returns-in_err-old g c =
    let p = err_from_is_err_and c.from_residual.result c.from_residual.ensures.1 in
    let call = c.in_err-old.ensures.law.call in
    rw (p.1, p.2) (record { law = record { store = search rules; sound = search rules; calls = by_call _ call no_position } })

pub returns-in_err-end : goal.returns-in_err-end
returns-in_err-end g c =
    let p = err_from_is_err_and c.from_residual-in_err-end.result c.from_residual-in_err-end.ensures.1 in
    let first = c.in_ok-old.ensures.law.call in
    let call = c.in_err-end.ensures.law.call in
    rw (p.1, p.2) (record { law = record { store = search rules; sound = search rules; calls = by_two _ _ _ first call no_end } })

pub returns-in_err-seek : goal.returns-in_err-seek
returns-in_err-seek g c =
    let p = err_from_is_err_and c.from_residual-in_err-seek.result c.from_residual-in_err-seek.ensures.1 in
    let first = c.in_ok-old.ensures.law.call in
    let second = c.in_ok-end.ensures.law.call in
    let call = c.in_err-seek.ensures.law.call in
    rw (p.1, p.2) (record {
      law = record {
        store = search rules;
        sound = search rules;
        calls = by_three _ _ _ _ _ first second call (no_way_back c.if-old-end.true);
      };
    })

pub returns : goal.returns
returns g c =
    let first = c.in_ok-old.ensures.law.call in
    let second = c.in_ok-end.ensures.law.call in
    elim c.if-old-end.branch [
      | then-old-end+in_ok-seek w ↦
          let call = w.in_ok-seek.ensures.law.call in
          rw w.self-is (record {
            law = record {
              store = search rules;
              sound = search rules;
              calls = by_three _ _ _ _ _ first second call (went_back w.if-old-end.true);
            };
          })
      | else-old-end w ↦
          let calls = len_at_end g.Self.Seek.may first second w.if-old-end.false in
          rw w.self-is (record { law = record { store = search rules; sound = search rules; calls = calls } })
    ]

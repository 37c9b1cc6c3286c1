-- The prover does not find the bytes up to the next escape, as two branches have them (`run_on`, `run_ends`).
use Rattle.no_std_io2.proofs.Words.{◌+◌, ◌-◌, ◌++◌, take, drop, sym, ap, ◌∙◌, arith}
use Rattle.std.proofs.lemmas.List.{drop-take}
use Rattle.tower_play.proofs.{Escapes.{run_on, run_ends}, report.push_escaped.Goals.{in-Some+in_ok-push-in-Some+in_ok-push-in-Some-2}}
use Rattle.tower_play.proofs.report.push_escaped.Goals.{in-None}
use Rattle.tower_play.proofs.report.push_escaped.Goals as goal

pub bytes-preserved : goal.bytes-preserved
bytes-preserved g c =
    let bytes = c.args.bytes.now in
    let i = c.bytes.i in
    let start = c.bytes.start in
    let in' = c.bytes-test.true in
    let so = c.bytes.invariant in
    elim c.match-escape_of.branch [
      | in-Some+in_ok-push-in-Some+in_ok-push-in-Some-2 w ↦ (
        omega (arith, w.start-is),
        ap (λ s. c.match-escape_of.text.items ++ drop s (take (i + 1) bytes)) w.start-is
            ∙ ap (λ t. t.items ++ drop (i + 1) (take (i + 1) bytes)) w.text-is
            ∙ run_ends c.args.text.now.items c.bytes.text.items w.push.new.text.items _
            (take (i - start) (drop start bytes)) w.in-Some.shown.now bytes start i so.0 in'
            (sym (drop-take start (i - start) bytes) ∙ ap (λ m. drop start (take m bytes)) (omega (arith, so.0)))
            w.in-Some.ensures.some w.in_ok-push-in-Some.ensures.ok w.in_ok-push-in-Some-2.ensures.ok so.1,
      )
      | in-None w ↦ (
        omega (arith, w.start-is, so.0),
        ap (λ s. c.match-escape_of.text.items ++ drop s (take (i + 1) bytes)) w.start-is
            ∙ ap (λ t. t.items ++ drop start (take (i + 1) bytes)) w.text-is
            ∙ run_on c.args.text.now.items c.bytes.text.items bytes start i so.0 in' w.in-None.ensures.none so.1,
      )
    ]

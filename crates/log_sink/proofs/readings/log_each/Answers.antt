-- One reading more; the search does not join it to those before.
use Rattle.no_std_io2.proofs.Words.{◌≡◌, sym, subst, rules, true, false, inl, inr}
use Rattle.std.proofs.{Common.{get_or}, lemmas.List.{take_more}}
use Rattle.log_sink.{specs.Readings.{LogsReadings}, proofs.EachLemmas.{each_none, each_more, kept_count}}
use Rattle.log_sink.proofs.readings.log_each.Goals.{then-not-is_logged, else-not-is_logged}
use Rattle.log_sink.proofs.readings.log_each.Goals as goal

pub readings-init : goal.readings-init
readings-init g c = each_none g.W.Write c.args.sensor.now

pub readings-preserved : goal.readings-preserved
readings-preserved g c =
    let n = get_or c.args.readings.now c.readings.reading-index 0 in
    let logged = c.is_logged.result in
    let count = kept_count logged n c.readings.lost c.if-not-is_logged.lost (elim c.if-not-is_logged.branch [
      | then-not-is_logged w ↦ inl (let no : logged ≡ false = search rules in no, w.lost-is)
      | else-not-is_logged w ↦ inr (let yes : logged ≡ true = search rules in yes, w.lost-is)
    ]) in
    subst (λ l. LogsReadings g.W.Write c.args.sensor.now c.args.lines.now l c.if-not-is_logged.lost c.is_logged.new.lines)
    (sym (take_more c.args.readings.now c.readings.reading-index 0 c.readings-test.true))
    (each_more g.W.Write c.args.sensor.now n c.readings.lost c.if-not-is_logged.lost c.is_logged.result count c.readings.invariant
    c.is_logged.ensures.tries c.is_logged.ensures.adds)

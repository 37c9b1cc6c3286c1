-- The search does not join two tries (`tries_again`, `adds_again`).
use Rattle.log_sink.proofs.EachLemmas.{tries_again, adds_again}
use Rattle.log_sink.proofs.readings.is_logged.Goals as goal

pub returns-in-Err-clause-tries : goal.returns-in-Err-clause-tries
returns-in-Err-clause-tries g c =
    tries_again c.args.sensor.now c.args.reading c.args.lines.now c.log_reading.new.lines c.log_reading-in-Err.new.lines
    c.log_reading-in-Err.result c.is_ok.result g.W.Write c.in-Err.ensures.logs c.log_reading-in-Err.ensures.logs c.is_ok.ensures.value

pub returns-in-Err-clause-adds : goal.returns-in-Err-clause-adds
returns-in-Err-clause-adds g c =
    adds_again c.args.sensor.now c.args.reading c.args.lines.now c.log_reading.new.lines c.log_reading-in-Err.new.lines
    c.log_reading-in-Err.result c.is_ok.result g.W.Write.told c.in-Err.ensures.adds.err c.log_reading-in-Err.ensures.adds
    c.is_ok.ensures.value

-- The prover does not find the text that was printed (`text_logged`).
use Rattle.line_log.proofs.TextLemmas.{text_logged}
use Rattle.line_log.proofs.LineLog.print_line.Goals as goal

pub returns : goal.returns
returns g c = record {
  logs = text_logged g.W.Write _ c.print_text-printed.result c.log_bytes.result c.print_text-printed.ensures c.if-printed.false
      c.if-not-printed.false c.as_slice.ensures c.log_bytes.ensures.logs;
}

-- The prover does not find the text, which no argument names.
use Rattle.no_std_io2.proofs.Words.{None}
use Rattle.frame_lines.proofs.SentLemmas.{line_sent, line_flushed}
use Rattle.frame_lines.proofs.print_line.Goals as goal

pub returns-then-is_behind : goal.returns-then-is_behind
returns-then-is_behind g c = line_flushed None _ c.flush.result c.in_ok-log_text.ensures.logs c.if-is_behind.ensures c.flush.ensures.law
    c.flush.ensures.law.moves c.flush.ensures.law.empty

pub returns : goal.returns
returns g c = line_sent None c.in_ok-log_text.ensures.logs c.if-is_behind.ensures

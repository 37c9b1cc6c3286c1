-- The line state and the law, by lemmas about the inner calls: the search does not apply these to a whole step.
use Rattle.no_std_io2.proofs.{BufWriterLemmas.{buffer_none, effect_of}, BufWriterCalls.{flush_empty, flush_does}}
use Rattle.no_std_io2.proofs.LineWriterStates.{flush_state}
use Rattle.no_std_io2.proofs.buffered.line_writer.LineWriterWrite.flush.Goals as goal

pub invariant_of-self : goal.invariant_of-self
invariant_of-self g c = record { line = flush_state c.flush.ensures.are c.args.self.now.sender.line }

pub returns : goal.returns
returns g c =
    let calls = c.flush.ensures in
    let empty = flush_empty g.W.Write calls in
    record {
      law = record { empty = empty; moves = (effect_of (flush_does g.W.Write) calls).told; all = λ no. absurd no.0; call = calls };
      unheld = buffer_none _ _ _ empty;
    }

-- The line state and the clauses, by lemmas about the inner calls: the search does not apply these to a whole step.
use Rattle.no_std_io2.proofs.LineWriterStates.{line_write_state, line_write_short, line_write_fits}
use Rattle.no_std_io2.proofs.LineWriterCalls.{line_write_does, line_write_bound}
use Rattle.no_std_io2.proofs.buffered.line_writer.LineWriterWrite.write.Goals as goal

pub invariant_of-self : goal.invariant_of-self
invariant_of-self g c = record { line = line_write_state g.row.S c.write.ensures.are c.args.self.now.sender.line }

pub returns : goal.returns
returns g c =
    let S = g.row.S in
    let calls = c.write.ensures in
    let done = line_write_does g.W.Write S calls in
    record {
      law = record { bound = line_write_bound g.W.Write S calls; moves = done.told; all = λ no. absurd no.0; call = calls };
      short = line_write_short S calls.are;
      fits = λ short plain room.
          let fits = line_write_fits S calls.are short plain room in
          (fits.1, rw fits.0 at calls.made, fits.2);
      held = done.filled c.args.self.now.sender.line;
      inner = λ t. let k = done.keeps t in (k.0, k.1);
    }

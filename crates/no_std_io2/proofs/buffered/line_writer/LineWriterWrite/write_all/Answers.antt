-- The line state and the clauses, by lemmas about the inner calls: the search does not apply these to a whole step.
use Rattle.no_std_io2.proofs.{LineWriterStates.{line_write_all_state, line_write_all_fits}, LineWriterCalls.{line_write_all_does}}
use Rattle.no_std_io2_base.proofs.CallsLemmas.{own_law}
use Rattle.no_std_io2.proofs.buffered.line_writer.LineWriterWrite.write_all.Goals as goal

pub invariant_of-self : goal.invariant_of-self
invariant_of-self g c = record { line = (line_write_all_state g.row.S c.write_all.ensures.are c.args.self.now.sender.line).0 }

pub returns : goal.returns
returns g c =
    let S = g.row.S in
    let calls = c.write_all.ensures in
    let done = line_write_all_does g.W.Write S calls in
    record {
      law = own_law (calls, done.told.0, done.told.1, λ no. absurd no.0);
      calls = calls;
      no_newline_held = (line_write_all_state S calls.are c.args.self.now.sender.line).1;
      held = done.leaves c.args.self.now.sender.line;
      fits = λ short plain room.
          let fits = line_write_all_fits S calls.are short plain room in
          (fits.1, rw fits.0 at calls.made, fits.2);
      inner = λ t. let k = done.keeps t in (k.0, k.1);
    }

-- The account of the tries so far, which the search does not build.
use Rattle.no_std_io2.proofs.Words.{arith}
use Rattle.no_std_io2_base.proofs.{MovesLemmas.{Sends-then, Moves-quiet}, TextLemmas.{spent_more, spent_all, tries_again}}
use Rattle.no_std_io2_base.specs.Retries.{last_try}
use Rattle.no_std_io2.proofs.util.retries.write_with_retries.Goals as goal

pub tries-preserved : goal.tries-preserved
tries-preserved g c =
    let tried = rw c.in-Err-2.is at c.write_and_flush.ensures.sends in
    let went = Sends-then c.tries.invariant.sends tried in
    record {
      sends = record { sent = went.sent; split = went.split; moves = Moves-quiet went.moves };
      spent = spent_more c.args.retries c.tries.left _ _ _ _ _ c.tries.invariant.spent tried.moves.mishaps (omega arith);
      so_far = λ reply new left tries. c.tries.invariant.so_far reply new left
          (tries_again _ c.tries.left _ (omega arith) (rw c.in-Err-2.is at c.write_and_flush.ensures.calls) tries);
    }

pub returns-in-Err-clause-enough : goal.returns-in-Err-clause-enough
returns-in-Err-clause-enough g c = λ most.
    let tried = rw c.in-Err.is at c.write_and_flush.ensures.sends in
    let last = rw c.if-left-eq0.true at c.tries.invariant.spent in
    absurd (spent_all c.args.retries _ _ _ _ last tried.moves.mishaps most)

pub returns-in-Ok-clause-calls : goal.returns-in-Ok-clause-calls
returns-in-Ok-clause-calls g c = c.tries.invariant.so_far _ _ _ (last_try (rw c.in-Ok.is at c.write_and_flush.ensures.calls) tt)

pub returns-in-Err-clause-calls : goal.returns-in-Err-clause-calls
returns-in-Err-clause-calls g c =
    c.tries.invariant.so_far _ _ _ (last_try (rw c.in-Err.is at c.write_and_flush.ensures.calls) c.if-left-eq0.true)

pub returns-in-Err-clause-sends : goal.returns-in-Err-clause-sends
returns-in-Err-clause-sends g c = Sends-then c.tries.invariant.sends (rw c.in-Err.is at c.write_and_flush.ensures.sends)

pub returns-in-Ok-clause-sends : goal.returns-in-Ok-clause-sends
returns-in-Ok-clause-sends g c = Sends-then c.tries.invariant.sends (rw c.in-Ok.is at c.write_and_flush.ensures.sends)

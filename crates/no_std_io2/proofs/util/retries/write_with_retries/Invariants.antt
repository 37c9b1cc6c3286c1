-- The bytes that are gone were accepted, and each try except the first has used up a mishap, if mishaps are told.
use Rattle.no_std_io2.proofs.Words.{Ok, Result, List, ℕ}
use Rattle.no_std_io2_base.specs.{declared.error.Error.{Error}, Moves.{Sends}, inner.Moves.{HasSpentTries}, Retries.{RestFlushLaw, Tries}}
use Rattle.no_std_io2.proofs.util.retries.write_with_retries.Given as goal

abbrev pub invariant-tries : goal.invariant-tries
invariant-tries g l =
    let told = g.W.Write.told in
    record {
      sends : Sends (told l.initial.writer) l.initial.rest.now (Ok tt) (told l.writer) l.rest.now;
      spent : HasSpentTries l.fn.retries l.left (told l.initial.writer).mishaps (told l.writer).mishaps;
      so_far : (reply : Result (Unit {0}) Error) (new : _) (left : List ℕ)
          → Tries (RestFlushLaw g.W.Write) l.left l.writer l.rest.now reply new left
          → Tries (RestFlushLaw g.W.Write) l.fn.retries l.initial.writer l.initial.rest.now reply new left;
    }

abbrev pub decreases-tries : goal.decreases-tries
decreases-tries g l = l.left

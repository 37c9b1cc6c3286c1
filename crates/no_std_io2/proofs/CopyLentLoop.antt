-- The loop of `copy_lent`: it passes on what a reader lends, piece by piece.
use Rattle.no_std_io2.proofs.Words.{common_steps, ◌≡◌, ℕ, ◌+◌, ◌-◌, ◌^◌, ◌<◌, ◌≤◌, min, List, [], ◌∷◌, ◌++◌, Result, Ok, Err, true, length}
use Rattle.no_std_io2.proofs.Words.{take, refl, ap, ◌∙◌, arith, append_assoc, length-append, IsInterruption, IsFault, ReadCall, Filled}
use Rattle.no_std_io2.proofs.Words.{Consumed, Reader, ReadCallLaw, tells, WriteCall, Made, Moves, Writer, CallOf, TakesAll}
use Rattle.no_std_io2.{proofs.CopyLoop.{Took-last}, specs.inner.Copy.{counted, HandsLent, lends_none, lends_fault, again_lent, piece_lent}}
use Rattle.no_std_io2.specs.{inner.Copy.{lends_refused}, Copy.{LentCopied}, declared.util.sides.CopyError.{TheVariants.{Read}, CopyError}}
use Rattle.no_std_io2.specs.declared.util.sides.CopyError.TheVariants.{Write}
use Rattle.no_std_io2_base.specs.{declared.error.Error.{Error}, inner.Read.{FilledLaw}, Read.{ConsumeLaw}, Reads.{Took}}
use Rattle.no_std_io2_base.{specs.Writers.{WriteAllOf}, proofs.{CallsLemmas.{made_then}, MovesLemmas.{Moves-refl, Moves-then}}}
use Rattle.no_std_io2_base.proofs.{ReadsLemmas.{Took-none, Took-bytes, Took-again, Took-end, Took-fault}, TakesLemmas.{Took-then}}
use Rattle.std.proofs.Common.{take_all}

module _ {R W : Type 0} (K : Reader R) (I : Writer W) (from : R) (old : W) where
  -- These calls were made. Whatever calls follow, they follow these.
  pub record LentCalls (mid : R) (now : W) : Type 0 where
    pub lends : List ReadCall
    pub writes : List WriteCall
    pub asked : Made (ReadCallLaw K) from lends mid
    pub made : Made (CallOf I) old writes now
    pub goes_on : (C : List ReadCall) (D : List WriteCall) (reply : Result ℕ CopyError) → HandsLent C D reply
        → HandsLent (lends ++ C) (writes ++ D) reply

  -- So far these bytes were taken, and passed on; `copied` counts them.
  pub record LentSoFar (copied : ℕ) (mid : R) (now : W) : Type 0 where
    pub x : List ℕ
    pub took : Took (tells K from) x (Ok true) (tells K mid)
    pub moves : Moves (I.told old) x [] (I.told now)
    pub count : copied ≡ counted x
    pub all : TakesAll I old → TakesAll I now
    pub calls : LentCalls mid now

module _ {R W : Type 0} {K : Reader R} {I : Writer W} {from : R} {old : W} where
  -- before the first call
  pub lent_nothing : LentSoFar K I from old 0 from old
  lent_nothing = record {
    x = [];
    took = Took-none (tells K from);
    moves = Moves-refl (I.told old);
    count = refl;
    all = λ t. t;
    calls = record { lends = []; writes = []; asked = refl; made = refl; goes_on = λ C D reply h. h };
  }

  module _ {mid after : R} {now new : W} (before : LentCalls K I from old mid now) (asks : List ReadCall) (calls : List WriteCall) where
    -- some calls more
    calls_more : Made (ReadCallLaw K) mid asks after → Made (CallOf I) now calls new
        → ((C : List ReadCall) (D : List WriteCall) (reply : Result ℕ CopyError) → HandsLent C D reply
        → HandsLent (asks ++ C) (calls ++ D) reply) → LentCalls K I from old after new
    calls_more asked made on = grind (arith, common_steps, made_then, append_assoc)

    -- the last calls
    calls_end : {reply : Result ℕ CopyError} → Made (ReadCallLaw K) mid asks after → Made (CallOf I) now calls new
        → HandsLent asks calls reply
        → (C : List ReadCall) × (D : List WriteCall) × Made (ReadCallLaw K) from C after × Made (CallOf I) old D new × HandsLent C D reply
    calls_end {reply} asked made last = grind (arith, common_steps, made_then)

  module _ {copied : ℕ} {mid : R} {now : W} (before : LentSoFar K I from old copied mid now) {after : R} where
    -- the reader's interruption is ignored
    pub lent_again : {e : Error} → FilledLaw K mid (Err e) after → IsInterruption e → LentSoFar K I from old copied after now
    lent_again {e} filled again = record {
      x = before.x;
      took = Took-last before.took (Took-again filled.takes again);
      moves = before.moves;
      count = before.count;
      all = before.all;
      calls = calls_more before.calls (Filled (Err e) ∷ []) [] (after, filled, refl) refl (λ C D reply h. again_lent again h);
    }

    -- its fault ends the loop
    pub lent_faulted : {e : Error} → FilledLaw K mid (Err e) after → IsFault e → LentCopied K I from old (Err (Read e)) after now
    lent_faulted {e} filled fault =
        let took = Took-last before.took (Took-fault filled.takes fault) in
        record {
          taken = took.taken;
          takes = took.takes;
          ends = record { fault = took.ends; moves = rw took.are before.moves };
          all = before.all;
          calls = calls_end before.calls (Filled (Err e) ∷ []) [] (after, filled, refl) refl lends_fault;
        }

    -- and so does its end
    pub lent_ended : FilledLaw K mid (Ok []) after → LentCopied K I from old (Ok copied) after now
    lent_ended filled =
        let took = Took-last before.took (Took-end filled.takes (filled.end refl)) in
        record {
          taken = took.taken;
          takes = took.takes;
          ends = record {
            no_fault = took.ends.0;
            at_end = λ some. took.ends.1;
            count = rw took.are before.count;
            moves = rw took.are before.moves;
          };
          all = before.all;
          calls = calls_end before.calls (Filled (Ok []) ∷ []) [] (after, filled, refl) refl lends_none;
        }

    module _ {x : List ℕ} (filled : FilledLaw K mid (Ok x) after) (some : 0 < length x) where
      -- up to the loan
      lent : Took (tells K from) before.x (Ok true) (tells K after)
      lent = Took-last before.took (Took-bytes [] filled.takes)

      -- the writer's fault ends the loop; the piece stays with the reader
      pub lent_refused : {new : W} {e : Error} → WriteAllOf I now x (Err e) new → LentCopied K I from old (Err (Write e)) after new
      lent_refused {new} {e} wrote =
          let record { calls = calls; made = made; are = are } = wrote.calls in
          record {
            taken = lent.taken;
            takes = lent.takes;
            ends = record {
              no_fault = lent.ends;
              fault = wrote.never_interrupted;
              accepted = wrote.moves.accepted;
              front = (wrote.moves.front.0, filled.lends ∙ wrote.moves.front.1);
              moves = rw lent.are (Moves-then before.moves wrote.moves.moves);
            };
            all = λ t. wrote.all (before.all t);
            calls = calls_end before.calls (Filled (Ok x) ∷ []) calls (after, filled, refl) made (lends_refused some are);
          }

      -- the piece was passed on, and taken
      pub lent_more : {new : W} {k n : ℕ} {next : R} {done : Unit {0}} → n ≡ length x → ConsumeLaw K after n next
          → WriteAllOf I now x (Ok done) new → k ≡ min (copied + n) (2 ^ 64 - 1) → LentSoFar K I from old k next new
      lent_more {new} {n = n} {next} whole dropped wrote is =
          let record { calls = calls; made = made; are = are } = wrote.calls in
          let piece : take n (K.held after) ≡ x = ap (take n) filled.lends ∙ take_all n x (omega (arith, whole)) in
          let fits : n ≤ length (K.held after) = omega (arith, whole, ap length filled.lends) in
          record {
            x = before.x ++ x;
            took = Took-then lent (Took-bytes x (rw piece at dropped.takes));
            moves = Moves-then before.moves (rw wrote.moves.whole at wrote.moves.moves);
            count = omega (arith, is, before.count, whole, length-append before.x x);
            all = λ t. wrote.all (before.all t);
            calls = calls_more before.calls (Filled (Ok x) ∷ Consumed n ∷ []) calls (after, filled, (next, (fits, dropped), refl)) made
                (λ C D reply h. rw whole (piece_lent some are h));
          }

-- The loop of a copy, and what follows from its law.
use Rattle.no_std_io2.proofs.Words.{common_steps, ◌≡◌, ℕ, ◌+◌, ◌-◌, ◌^◌, ◌<◌, min, List, [], ◌∷◌, ◌++◌, Result, Ok, Err, true, length, take}
use Rattle.no_std_io2.proofs.Words.{refl, sym, ap, subst, ◌∙◌, arith, append_assoc, append-nil, length-append, length-take-le, concat}
use Rattle.no_std_io2.proofs.Words.{IsInterruption, IsFault, event_bytes, ReaderState, Bool, Reader, Gave, ReadLaw, GaveLaw, ReadCallLaw}
use Rattle.no_std_io2.proofs.Words.{tells, no_read, and_gave, and_again, WriteCall, Made, Moves, Writer, CallOf, TakesAll, Option, None}
use Rattle.no_std_io2.proofs.Words.{Some, Event, byte, fails, HasNoFault, ReadCall, Takes, to_come, IsAtEnd, WriterState, Copied}
use Rattle.no_std_io2.specs.{inner.Copy.{Handed, handed_none, handed_piece, HandsOn, counted, CopyEnds, side_error}, Copy.{SidesCopied}}
use Rattle.no_std_io2.specs.declared.util.sides.CopyError.{TheVariants.{Read, Write}, CopyError}
use Rattle.std.proofs.lemmas.List.{Folds.{concat-append}, Sums.{sum_by-cons}}
use Rattle.no_std_io2_base.specs.{declared.error.{Error.{Error}, ErrorKind.{ErrorKind}}, Takes.{gave_front}, Reads.{Took}}
use Rattle.no_std_io2_base.{specs.{Writers.{WriteAllOf}, inner.{Events.{EndsInFault}, Moves.{HasSpent}}}, proofs.CallsLemmas.{made_more}}
use Rattle.no_std_io2_base.proofs.{CallsLemmas.{made_then}, TakesLemmas.{length-events_of, read_law, nothing_read, HasNoFault-front}}
use Rattle.no_std_io2_base.proofs.{TakesLemmas.{left_of, Took-then}, MovesLemmas.{Moves-refl, Moves-then, Moves-steady}}
use Rattle.no_std_io2_base.proofs.{ReadLoops.{some_bytes}, ReadsLemmas.{Took-none, Took-bytes, Took-again, Took-fault}}

-- The loop of `copy_with`, and so of `copy_sided` and `copy`: it passes on what it reads, piece by piece.

-- the joined bytes with one piece more
joined_more : (xs : List (List ℕ)) (x : List ℕ) → concat xs ++ x ≡ concat (xs ++ x ∷ [])
joined_more xs x = ap (λ l. concat xs ++ l) (sym (append-nil x)) ∙ sym (concat-append xs (x ∷ []))

-- bytes that were taken, and then a call that took none, or met the end or a fault
pub Took-last : {a b c : ReaderState} {x : List ℕ} {how : Result Bool Error} → Took a x (Ok true) b → Took b [] how c → Took a x how c
Took-last {a} {c = c} {x} {how} first last = subst (λ l. Took a l how c) (append-nil x) (Took-then first last)

-- So far the pieces were passed on whole; `copied` counts their bytes.
pub record CopySoFar {R W : Type 0} (K : Reader R) (I : Writer W) (S : ℕ) (from : R) (old : W) (copied : ℕ) (buf : List ℕ) (mid : R)
    (now : W) : Type 0 where
  pub long : length buf ≡ S
  pub hands : HandsOn K I S [] from old (Ok tt) mid now
  pub took : Took (tells K from) (concat hands.pieces) (Ok true) (tells K mid)
  pub moves : Moves (I.told old) (concat hands.pieces) [] (I.told now)
  pub count : copied ≡ counted (concat hands.pieces)
  pub all : TakesAll I old → TakesAll I now

module _ {R W : Type 0} {K : Reader R} {I : Writer W} {S : ℕ} {from : R} {old : W} where
  module _ {mid mid' : R} {now : W} (before : HandsOn K I S [] from old (Ok tt) mid now) where
    asked_more : {answer : Result (List ℕ) Error} → GaveLaw K mid S answer mid'
        → Made (ReadCallLaw K) from (before.reads ++ Gave S answer ∷ []) mid'
    asked_more law = made_more (ReadCallLaw K) before.reads from (rw append-nil at before.asked) law

    -- the pieces so far were passed on, and then came a last read
    hands_last : (answer : Result (List ℕ) Error) → GaveLaw K mid S answer mid'
        → HandsOn K I S (Gave S answer ∷ []) from old (Ok tt) mid' now
    hands_last answer law = grind (arith, common_steps, asked_more)

    -- or a read that was interrupted
    hands_again : {e : Error} → GaveLaw K mid S (Err e) mid' → IsInterruption e → HandsOn K I S [] from old (Ok tt) mid' now
    hands_again {e} law again = record {
      pieces = before.pieces;
      calls = before.calls;
      handed = before.handed;
      made = before.made;
      reads = before.reads ++ Gave S (Err e) ∷ [];
      gathered = and_again before.reads (concat before.pieces) S e before.gathered refl again;
      asked = rw append-nil (asked_more law);
      turns = omega (arith, before.turns, law.takes.turns);
    }

    -- or one piece more, which was passed on as far as this says
    hands_more : (x : List ℕ) {new : W} (reply : Result (Unit {0}) Error) → GaveLaw K mid S (Ok x) mid' → 0 < length x
        → WriteAllOf I now x reply new → HandsOn K I S [] from old reply mid' new
    hands_more x {new} reply law some wrote = record {
      pieces = before.pieces ++ x ∷ [];
      calls = before.calls ++ wrote.calls.calls;
      handed = handed_piece before.handed some law.bound wrote.calls.are;
      made = made_then (CallOf I) before.calls old wrote.calls.calls now new before.made wrote.calls.made;
      reads = before.reads ++ Gave S (Ok x) ∷ [];
      gathered = rw (← joined_more before.pieces x) (and_gave before.reads (concat before.pieces) x S before.gathered refl some);
      asked = rw append-nil (asked_more law);
      turns = omega (arith, before.turns, law.takes.turns, length-events_of x, some, length-append before.pieces (x ∷ []));
    }

  -- before the first read
  pub copy_none : {buf : List ℕ} → length buf ≡ S → CopySoFar K I S from old 0 buf from old
  copy_none long = record {
    long = long;
    hands = record {
      pieces = [];
      calls = [];
      handed = handed_none;
      made = refl;
      reads = [];
      gathered = no_read;
      asked = refl;
      turns = omega arith;
    };
    took = Took-none (tells K from);
    moves = Moves-refl (I.told old);
    count = omega arith;
    all = λ t. t;
  }

  module _ {copied : ℕ} {buf part ys : List ℕ} {mid mid' : R} {now : W} (before : CopySoFar K I S from old copied buf mid now) where
    law : length ys ≡ S → (reply : Result ℕ Error) → ReadLaw K mid part reply ys mid' → GaveLaw K mid S (gave_front reply ys) mid'
    law long reply read = subst (λ n. GaveLaw K mid n (gave_front reply ys) mid') long (read_law reply read)

    -- the reader's interruption is ignored
    pub copy_again : {e : Error} → length ys ≡ S → ReadLaw K mid part (Err e) ys mid' → IsInterruption e
        → CopySoFar K I S from old copied ys mid' now
    unfolding hands_again
    copy_again {e} long read again = record {
      long = long;
      hands = hands_again before.hands (law long (Err e) read) again;
      took = Took-last before.took (Took-again read.takes again);
      moves = before.moves;
      count = before.count;
      all = before.all;
    }

    -- its fault ends the loop
    pub copy_faulted : {e : Error} → length ys ≡ S → ReadLaw K mid part (Err e) ys mid' → IsFault e
        → SidesCopied K I S from old (Err (Read e)) mid' now
    copy_faulted {e} long read fault =
        let took = Took-last before.took (Took-fault read.takes fault) in
        record {
          taken = took.taken;
          takes = took.takes;
          ends = record { fault = took.ends; moves = rw took.are before.moves };
          all = before.all;
          calls = hands_last before.hands (Err e) (law long (Err e) read);
        }

    -- and so does its end
    pub copy_ended : {reply : Result ℕ Error} {n : ℕ} → length ys ≡ S → ReadLaw K mid part reply ys mid' → reply ≡ Ok n → n ≡ 0
        → SidesCopied K I S from old (Ok copied) mid' now
    copy_ended long read is none =
        let last = subst (λ n. GaveLaw K mid n (Ok []) mid') long (nothing_read read is none) in
        let took = Took-last before.took (Took-bytes [] last.takes) in
        record {
          taken = took.taken;
          takes = took.takes;
          ends = record {
            no_fault = took.ends;
            at_end = λ room. last.end refl room;
            count = rw took.are before.count;
            moves = rw took.are before.moves;
          };
          all = before.all;
          calls = hands_last before.hands (Ok []) last;
        }

    module _ {n : ℕ} (long : length ys ≡ S) (read : ReadLaw K mid part (Ok n) ys mid') (some : n ≡ 0 → ⊥) where
      abbrev x : List ℕ
      x = take n ys

      size : length x ≡ n
      size = length-take-le n ys read.bound

      hands : {new : W} (reply : Result (Unit {0}) Error) → WriteAllOf I now x reply new → HandsOn K I S [] from old reply mid' new
      hands reply wrote = grind (arith, common_steps, hands_more, law, size, some_bytes)

      took : Took (tells K from) (concat before.hands.pieces ++ x) (Ok true) (tells K mid')
      took = Took-then before.took (Took-bytes x read.takes)

      -- a piece was passed on
      pub copy_more : {new : W} {k : ℕ} {done : Unit {0}} → WriteAllOf I now x (Ok done) new → k ≡ min (copied + n) (2 ^ 64 - 1)
          → CopySoFar K I S from old k ys mid' new
      unfolding hands hands_more
      copy_more wrote is =
          let joined = joined_more before.hands.pieces x in
          record {
            long = long;
            hands = hands (Ok tt) wrote;
            took = rw (← joined) took;
            moves = rw (← joined) (Moves-then before.moves (rw wrote.moves.whole at wrote.moves.moves));
            count = omega (arith, is, before.count, size, ap length joined, length-append (concat before.hands.pieces) x);
            all = λ t. wrote.all (before.all t);
          }

      -- the writer's fault ends the loop, in the middle of a piece
      pub copy_refused : {new : W} {e : Error} → WriteAllOf I now x (Err e) new → SidesCopied K I S from old (Err (Write e)) mid' new
      copy_refused {e = e} wrote =
          let start = concat before.hands.pieces in
          let accepted = wrote.moves.accepted in
          let lost = wrote.moves.front.0 in
          let whole : event_bytes took.taken ≡ (start ++ accepted) ++ lost =
          took.are ∙ ap (λ l. start ++ l) wrote.moves.front.1 ∙ sym (append_assoc start accepted lost) in
          let rest = ap length wrote.moves.front.1 ∙ length-append accepted lost in
          let fits = ap length whole ∙ length-append (start ++ accepted) lost in
          record {
            taken = took.taken;
            takes = took.takes;
            ends = record {
              no_fault = took.ends;
              some_room = omega (arith, some_bytes n some, read.bound, long);
              fault = wrote.never_interrupted;
              accepted = start ++ accepted;
              nearly = record { front = (lost, whole); lost = omega (arith, fits, rest, size, read.bound, long) };
              moves = Moves-then before.moves wrote.moves.moves;
            };
            all = λ t. wrote.all (before.all t);
            calls = hands (Err e) wrote;
          }

-- What follows of a copy, if its reader tells its events or its writer its mishaps.

-- events without a fault do not end in one
pub no_fault_at_end : (P : List Event) (e : Error) → HasNoFault P → EndsInFault P e → ⊥
no_fault_at_end P e none fault = by fault.0 (subst HasNoFault fault.1 none)
  where
    by : (Q : List Event) → HasNoFault (Q ++ fails e ∷ []) → ⊥
    by [] h =
        let again : IsInterruption e = h.0 in
        let is : IsFault e = fault.3 in cc
    by (byte b ∷ Q) h = by Q h
    by (fails f ∷ Q) h = by Q h.1

-- what was taken up to the end is all that was told
pub took_told : {a b : ReaderState} {P E : List Event} → Takes a P b → to_come a ≡ Some E → IsAtEnd b → (P ≡ E) × (to_come b ≡ Some [])
took_told {b = b} {P} takes told end = grind (arith, common_steps, append-nil, left_of)

-- a copy fails for a fault of the reader, or a mishap of the writer
pub copies_steadily : (room : ℕ) {a b : ReaderState} {P E : List Event} (side : CopyError) (old new : WriterState) → Takes a P b
    → to_come a ≡ Some E → HasNoFault E → CopyEnds room (Err side) P b old new → old.mishaps ≡ Some [] → ⊥
copies_steadily room {P = P} (Read e) old new takes told none ends steady =
    let left = left_of takes told in no_fault_at_end P e (HasNoFault-front P left.0 (subst HasNoFault left.2 none)) ends.fault
copies_steadily room (Write e) old new takes told none ends steady = Moves-steady steady ends.moves

module _ {R W : Type 0} {K : Reader R} {I : Writer W} {S : ℕ} {from from' : R} {old new : W} where
  -- a `copy` that returned `Ok` is a `copy_sided` that did
  pub copied_ok : {n : ℕ} → Copied K I S from old (Ok n) from' new → SidesCopied K I S from old (Ok n) from' new
  copied_ok copied = grind (arith, common_steps)

  -- and one that failed is a `copy_sided` of which one side failed
  pub copied_err : {e : Error} → Copied K I S from old (Err e) from' new
      → (side : CopyError) × (side_error side ≡ e) × SidesCopied K I S from old (Err side) from' new
  copied_err copied = grind (arith, common_steps)

-- a steady writer is steady afterwards
pub stays_steady : {a c : WriterState} {x : List ℕ} → a.mishaps ≡ Some [] → Moves a x [] c → c.mishaps ≡ Some []
stays_steady {a} {c} {x} steady m = none_left c.mishaps (subst (λ k. HasSpent k [] c.mishaps) steady m.mishaps)
  where
    none_left : (left : Option (List ErrorKind)) → HasSpent (Some []) [] left → left ≡ Some []
    none_left None h = absurd h
    none_left (Some []) h = refl
    none_left (Some (k ∷ ks)) h = absurd (omega (arith, h (λ _. true), sum_by-cons (λ _. 1) k ks))

-- what is out after a flush
pub out_after_flush : (a : WriterState) {b c : WriterState} {x : List ℕ}
    → Moves a x [] b → Moves b [] [] c → c.held ≡ [] → c.out ≡ a.out ++ a.held ++ x
out_after_flush a {b = b} {c = c} m n empty = grind (arith, common_steps)

-- no piece fits an empty buffer, so nothing was passed on
none_handed : {xs : List (List ℕ)} {C : List WriteCall} {reply : Result (Unit {0}) Error} → Handed 0 xs C reply → C ≡ []
none_handed handed = grind (arith, common_steps)

module _ {R W : Type 0} {K : Reader R} {I : Writer W} where
  hands_none : {last : List ReadCall} {from from' : R} {old new : W} {reply : Result (Unit {0}) Error}
      → HandsOn K I 0 last from old reply from' new → new ≡ old
  hands_none {old = old} {new} hands = subst (λ C. Made (CallOf I) old C new) (none_handed hands.handed) hands.made

  -- a `copy_with` through an empty buffer, and a `copy_sided` with S = 0, leave the writer as it was,
  pub sides_none : {from from' : R} {old new : W} (reply : Result ℕ CopyError) → SidesCopied K I 0 from old reply from' new → new ≡ old
  sides_none reply copied = grind (arith, common_steps, hands_none)

  -- and so does a `copy` with S = 0
  pub copied_none : {from from' : R} {old new : W} (reply : Result ℕ Error) → Copied K I 0 from old reply from' new → new ≡ old
  copied_none reply (sided, same, copied) = sides_none sided copied

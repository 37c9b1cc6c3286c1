-- What a sending leaves, and the text of one value more.
use Rattle.no_std_io2.proofs.Words.{common_steps, ◌≡◌, ℕ, ◌+◌, ◌-◌, ◌<◌, ◌⊎◌, List, [], ◌++◌, length, drop, Result, OnOk, sym, ap, ◌∙◌}
use Rattle.no_std_io2.proofs.Words.{subst, arith, append_assoc, length-append, min, take, ◌∷◌, WriteCall, Made, Writes, CallOf, zero, suc}
use Rattle.no_std_io2.proofs.Words.{Ok, Err, inl, inr, WriterState, Moves, MovesFront, call_mishap}
use Rattle.no_std_io2.proofs.MovesLemmas.{writes_left, Moves-then, Moves-ends, MovesFront-whole}
use Rattle.std.proofs.{lemmas.List.{length-take}, Common.{slice_index, IsErrAnd}}
use Rattle.no_std_io2.specs.{declared.io.Error.{Error}, Writers.{WriteRestOf}, Errors.{IsTextError}}
use Rattle.bare.specs.{declared.queue.Queue.{Queue}, Queue.{waiting, queue_capacity}, Status.{status_done, status_kept}, Log.{line}}
use Rattle.bare.specs.{Kept.{Resumes, resume_status}, Report.{texts_from}}
use Rattle.bare.proofs.QueueLemmas.{queue, blocked}

-- What a sending leaves.

-- the status says how it ended
ends : (r : Result (Unit {0}) Error) {text : List ℕ} {C : List WriteCall} {x left : List ℕ} (a b : Queue) → OnOk r (left ≡ [])
    → Made (CallOf queue) a C b → Writes text C x r left
    → ((resume_status r ≡ status_done) × (left ≡ []))
    ⊎ ((resume_status r ≡ status_kept) × (0 < length left) × (length (waiting b) ≡ queue_capacity))
ends r a b whole made calls = grind (arith, common_steps, blocked, writes_left)

-- the bytes that the port took are no longer kept
pub resumed : (r : Result (Unit {0}) Error) {a b : Queue} (before left after : List ℕ) → WriteRestOf queue a before r b left
    → after ≡ drop (length before - length left) before → Resumes before (waiting a) (resume_status r) after (waiting b)
resumed r {a = a} {b = b} before left after law gone =
    let rest : after ≡ left = grind (arith, common_steps, law.sends.split, gone) in
    subst (λ l. Resumes before (waiting a) (resume_status r) l (waiting b)) (sym rest) (record {
      front = law.sends.moves.front;
      order = grind (arith, common_steps, law.sends.split, law.sends.moves.bytes);
      ends = ends r a b law.done law.calls.made law.calls.are;
    })

-- more bytes are kept between two sendings
pub resumed_more : {s r : ℕ} (old mid new before port after more : List ℕ) → Resumes before old s port mid
    → Resumes (port ++ more) mid r after new
    → Resumes (before ++ more) old r after new
resumed_more old mid new before port after more first next = record {
  front = (
    first.front.0 ++ next.front.0,
    next.front.1 ∙ ap (λ l. l ++ next.front.0) first.front.1 ∙ append_assoc old first.front.0 next.front.0,
  );
  order = grind (arith, common_steps, first.order, next.order, append_assoc);
  ends = next.ends;
}

-- a line that fits is put whole
pub line_put : (before mid after text : List ℕ) (n m : ℕ) → length before + length text < queue_capacity
    → n ≡ min (length text) (queue_capacity - length before) → mid ≡ before ++ take n text
    → m ≡ min 1 (queue_capacity - length mid) → after ≡ mid ++ take m (10 ∷ []) → after ≡ before ++ line text
line_put before mid after text n m fits first text_put second newline_put =
    grind (arith, common_steps, length-append, length-take, append_assoc)

-- The text of one value more.

pub texts_more : (text : ℕ → ℕ → List ℕ) (i : ℕ) (xs : List ℕ) (k j : ℕ) → k < length xs → j ≡ i + k
    → texts_from text i (take (k + 1) xs) ≡ texts_from text i (take k xs) ++ text j (slice_index xs k)
texts_more text i (x ∷ xs) zero j within at = grind (arith, common_steps)
texts_more text i (x ∷ xs) (suc k) j within at =
    let rest = texts_more text (i + 1) xs k j (omega (arith, within)) (omega (arith, at)) in
    ap (λ n. texts_from text i (take n (x ∷ xs))) (let one : suc k + 1 ≡ suc (k + 1) = omega arith in one)
    ∙ ap (λ l. text i x ++ l) rest ∙ sym (append_assoc (text i x) (texts_from text (i + 1) (take k xs)) _)
texts_more text i _ k j within at = grind arith

-- a front of the texts was printed, and then the next text
pub printed_more : (text : ℕ → ℕ → List ℕ) (xs : List ℕ) (k : ℕ) {a b c : WriterState} {r : Result (Unit {0}) Error} {u : Unit {0}}
    → k < length xs
    → r ≡ Ok u → Moves a (texts_from text 0 (take k xs)) [] b
    → MovesFront b (text k (slice_index xs k)) r c ⊎ IsErrAnd r IsTextError → Moves a (texts_from text 0 (take (k + 1) xs)) [] c
printed_more text xs k {u = u} within is so_far (inl next) =
    rw (texts_more text 0 xs k k within (omega arith)) (Moves-then so_far (MovesFront-whole (text k (slice_index xs k)) u (rw is at next)))
printed_more text xs k within is so_far (inr failed) = absurd (rw is at failed)

-- all texts were printed, and then the writer was flushed
pub printed_all : (text : ℕ → ℕ → List ℕ) (xs : List ℕ) (k : ℕ) {a b c : WriterState} (r : Result (Unit {0}) Error) → take k xs ≡ xs
    → Moves a (texts_from text 0 (take k xs)) [] b → Moves b [] (call_mishap r) c → OnOk r (Moves a (texts_from text 0 xs) [] c)
printed_all text xs k {a = a} {b = b} (Ok u) whole so_far flushed =
    Moves-ends (subst (λ l. Moves a (texts_from text 0 l) [] b) whole so_far) flushed
printed_all text xs k (Err e) whole so_far flushed = tt

-- A queue: what waits in it, what does not fit, and what copies and frames put into it.
use Rattle.no_std_io2.proofs.Words.{◌≡◌, ℕ, ◌-◌, ◌≤◌, List, min, length, take, drop, arith, common_steps, ◌+◌, ◌<◌, [], ◌++◌, Result, Ok}
use Rattle.no_std_io2.proofs.Words.{Err, sym, ap, subst, true≢false, length-append, inl, inr, refl, ◌∙◌, WriterState, WriteCall, Made}
use Rattle.no_std_io2.proofs.Words.{Moves, Writes, write_took, write_again, write_stuck, write_fault, AllCalls, told_out, Writer, CallOf}
use Rattle.no_std_io2.proofs.Words.{writer_inner, writer_buffer, writer_told, BufferMay, InnerCalls, Buffered, FlushCalls, SendCalls, Step}
use Rattle.no_std_io2.proofs.Words.{TakesStep, first_stops, first_goes_on, Some, events_of, event_bytes, HasNoFault, to_come, Reader, tells}
use Rattle.no_std_io2.proofs.{Words.{Copied}, CallsLemmas.{made_split}, MovesLemmas.{writes_left}}
use Rattle.no_std_io2.proofs.CopyLoop.{out_after_flush as out_after, copied_ok, took_told, no_fault_at_end}
use Rattle.no_std_io2.proofs.TakesLemmas.{bytes-append, bytes-events_of, HasNoFault-events_of, HasNoFault-front, left_of}
use Rattle.std.specs.{List.{copy_within}, Prelude.{MatchResult, OnOk, OnErr}, Int.{w32, to_le_bytes}}
use Rattle.std.proofs.lemmas.List.{drop-take, length-drop, take_min, drop_min, Edits.{take-paste}}
use Rattle.no_std_io2.specs.{declared.io.{Error.{Error}, BufWriter.{BufWriter}, ErrorKind.{ErrorKind}}, Writers.{FlushOf}}
use Rattle.no_std_io2.specs.{inner.Copy.{Handed, handed_piece}, declared.util.sides.CopyError.TheVariants.{Read, Write}}
use Rattle.bare.specs.{declared.queue.Queue.{Queue}, Queue.{waiting, queue_capacity, QueueMay}}
use Rattle.framing.specs.{Frames.{frame}, Sending.{frame_writer, SendsFrame}, declared.writer.FrameWriter.{FrameWriter}}

-- What waits once the first bytes are removed.

-- a window that is moved to the front
moved : (bs : List ℕ) (s e : ℕ) → s ≤ e → e ≤ length bs → take (e - s) (copy_within bs s e 0) ≡ drop s (take e bs)
moved bs s e le within =
    let pasted = take-paste bs 0 (drop s bs) (e - s) (omega arith) (omega (arith, length-drop s bs)) in
    let cut = drop-take s (e - s) bs in
    grind (arith, pasted, cut)

-- the bytes behind the first n are moved to the front
pub take_moved : (bs : List ℕ) (n len : ℕ) → length bs ≡ 64
    → take (min len 64 - min n (min len 64)) (copy_within bs (min n (min len 64)) (min len 64) 0) ≡ drop n (take len bs)
take_moved bs n len all = grind (arith, common_steps, drop_min, moved, take_min)

-- If a call through a buffer in front of a queue fails, there are more bytes than a queue has room for.

-- a queue as a writer
abbrev pub queue : Writer Queue
queue = record { told = λ q. told_out (waiting q); takes_all = λ _. ⊥; may = QueueMay }

-- if writes to a queue end in an error, it is full
pub blocked : {text : List ℕ} {C : List WriteCall} {x left : List ℕ} {e : Error} → Writes text C x (Err e) left
    → (a b : Queue) → Made (CallOf queue) a C b → length (waiting b) ≡ queue_capacity
blocked (write_took some more w) a b made = blocked w made.0 b made.2
blocked (write_again some interrupted w) a b made = blocked w made.0 b made.2
blocked (write_stuck some says) a b made = absurd (let none = made.1.call.1 some in omega (arith, none))
blocked (write_fault some is) a b made =
    subst (λ q. length (waiting q) ≡ queue_capacity) (sym made.2) (ap length made.1.call.1 ∙ made.1.call.0)

-- how many bytes are out and held
abbrev pub size : WriterState → ℕ
size t = length t.out + length t.held

-- accepted bytes are counted
pub size-moves : {a b : WriterState} {x : List ℕ} {k : List ErrorKind} → Moves a x k b → size b ≡ size a + length x
size-moves m = omega (arith, simp length-append at (ap length m.bytes))

module _ {S : ℕ} where
  -- a buffer of S bytes in front of a queue
  abbrev pub buffered : Writer (BufWriter Queue S)
  buffered = record {
    told = writer_told queue.told;
    takes_all = λ _. ⊥;
    may = BufferMay queue (InnerCalls S) writer_inner writer_buffer;
  }

  -- more bytes wait in the queue, and are held in front of it, than a queue has room for
  abbrev pub IsOverfull : BufWriter Queue S → Type 0
  IsOverfull w = queue_capacity < size (buffered.told w)

  -- this step was taken
  abbrev Taken : {A : Type 0} → Step A → BufWriter Queue S → Result A Error → BufWriter Queue S → Type 0
  Taken = TakesStep queue writer_inner writer_buffer

  -- the held bytes were sent, and that failed
  send_failed : {C : List WriteCall} {e : Error} (a b : BufWriter Queue S) → Made (CallOf queue) (writer_inner a) C (writer_inner b)
      → SendCalls (writer_buffer a) C (Err e) (writer_buffer b) → IsOverfull b
  send_failed a b made calls = omega (arith, blocked calls (writer_inner a) (writer_inner b) made, writes_left calls)

  -- bytes that are fewer than those of the buffer were put into it, or that failed
  put_by : {A : Type 0} {x : List ℕ} {v : A} {past : List WriteCall → Result A Error → Type 0} {C : List WriteCall} {reply : Result A Error}
      (a b : BufWriter Queue S) → length x < S → Made (CallOf queue) (writer_inner a) C (writer_inner b)
      → Buffered S x v past (writer_buffer a) C reply (writer_buffer b) → MatchResult reply (λ n. n ≡ v) (λ _. IsOverfull b)
  put_by a b short made (first_stops way) = elim way [
    | inl kept ↦ absurd (let no : ⊥ = cc (kept.2) in no)
    | inr calls ↦ send_failed a b made calls.1
  ]
  put_by {v = v} a b short made (first_goes_on way next) = elim next [
    | inl held ↦ subst (λ r. MatchResult r (λ n. n ≡ v) (λ _. IsOverfull b)) (sym held.2) refl
    | inr past ↦ absurd (omega (arith, short, past.0))
  ]

  -- such a step
  pub put : {A : Type 0} {x : List ℕ} {v : A} {past : List WriteCall → Result A Error → Type 0} {reply : Result A Error}
      (a b : BufWriter Queue S) → length x < S → Taken (Buffered S x v past) a reply b → MatchResult reply (λ n. n ≡ v) (λ _. IsOverfull b)
  put a b short taken = put_by a b short taken.made taken.are

  -- a flush failed
  flush_failed : {C : List WriteCall} {e : Error} (a b : BufWriter Queue S) → Made (CallOf queue) (writer_inner a) C (writer_inner b)
      → FlushCalls (writer_buffer a) C (Err e) (writer_buffer b) → IsOverfull b
  flush_failed a b made (first_stops calls) = send_failed a b made calls
  flush_failed a b made (first_goes_on {C = D} {D = E} calls next) =
      let parts = made_split (CallOf queue) D (writer_inner a) E (writer_inner b) made in
      let one = subst (λ K. Made (CallOf queue) parts.0 K (writer_inner b)) next.2 parts.2 in absurd (true≢false (sym one.1.call))

  -- writes failed
  writes_full : {text : List ℕ} {C : List WriteCall} {x left : List ℕ} {e : Error} → Writes text C x (Err e) left → length x < S
      → (a b : BufWriter Queue S) → Made (CallOf buffered) a C b → IsOverfull b
  writes_full (write_took {x = x} {n = n} some more w) short a b made =
      writes_full w (omega (arith, short, length-drop n x)) made.0 b made.2
  writes_full (write_again some interrupted w) short a b made = writes_full w short made.0 b made.2
  writes_full (write_stuck some says) short a b made = absurd (let none = put a made.0 short made.1.call in omega (arith, some, none))
  writes_full (write_fault some is) short a b made = subst IsOverfull (sym made.2) (put a made.0 short made.1.call)

  -- a `write_all` failed
  all_full : {C : List WriteCall} {x : List ℕ} {e : Error} → AllCalls C x (Err e) → length x < S → (a b : BufWriter Queue S)
      → Made (CallOf buffered) a C b → IsOverfull b
  all_full (inl own) short a b made =
      let one = subst (λ K. Made (CallOf buffered) a K b) own made in subst IsOverfull (sym one.2) (put a one.0 short one.1.0)
  all_full (inr writes) short a b made = writes_full writes.1 short a b made

  -- pieces were passed on, and that failed
  pub handed_full : {T : ℕ} {xs : List (List ℕ)} {C : List WriteCall} {e : Error} → T < S → Handed T xs C (Err e)
      → (a b : BufWriter Queue S) → Made (CallOf buffered) a C b → IsOverfull b
  handed_full less (handed_piece {C = C} {D = D} before some short calls) a b made =
      let parts = made_split (CallOf buffered) C a D b made in all_full calls (omega (arith, less, short)) parts.0 b parts.2

  -- bytes were accepted and flushed: the queue has all of them
  pub flush_done : {a : WriterState} {b c : BufWriter Queue S} {x : List ℕ} (q : Result (Unit {0}) Error) → Moves a x [] (buffered.told b)
      → FlushOf buffered b q c → OnOk q (waiting (writer_inner c) ≡ a.out ++ a.held ++ x)
  flush_done q moved law = grind (arith, common_steps, out_after)

  -- or they do not fit
  pub flush_full : {a : WriterState} {b c : BufWriter Queue S} {x : List ℕ} (q : Result (Unit {0}) Error) → Moves a x [] (buffered.told b)
      → FlushOf buffered b q c → OnErr q (queue_capacity < size a + length x)
  flush_full (Ok u) moved law = tt
  flush_full {b = b} {c = c} (Err e) moved law =
      omega (arith, flush_failed b c law.call.made law.call.are, size-moves moved, size-moves law.moves)

-- What a writer of frames puts into a queue.

-- a frame was put into a buffer in front of a queue
module _ {S : ℕ} {w w' : FrameWriter Queue S} (payload : List ℕ) where
  -- all of it was accepted
  pub frame_moved : {r : Result (Unit {0}) Error} {u : Unit {0}} → r ≡ Ok u → SendsFrame queue payload w r w'
      → Moves (buffered.told (frame_writer w)) (frame payload) [] (buffered.told (frame_writer w'))
  frame_moved ok sends = grind (arith, common_steps)

  -- or that failed: if the buffer is longer than all for which a queue has room, it does not fit
  pub frame_full : queue_capacity < S → {r : Result (Unit {0}) Error} {e : Error} → r ≡ Err e → SendsFrame queue payload w r w'
      → queue_capacity < size (buffered.told (frame_writer w)) + length (frame payload)
  frame_full less err sends = grind (arith, header, put, queue, size-moves)
    where
      header : length (frame payload) ≡ 4 + length payload
      header = length-append (to_le_bytes w32 (length payload)) payload

-- What a copy of a slice moved.

module _ {R : Type 0} {K : Reader R} {a a' : R} {w w' : BufWriter Queue 32} (from : List ℕ)
    (is : to_come (tells K a) ≡ Some (events_of from)) where
  -- all its bytes, if the copy returned `Ok`
  pub copied : {r : Result ℕ Error} {n : ℕ} → r ≡ Ok n → Copied K buffered 16 a w r a' w'
      → Moves (buffered.told w) from [] (buffered.told w')
  copied ok copies = grind (arith, common_steps, buffered, bytes-events_of, copied_ok, took_told)

  -- else they do not fit
  pub copy_full : {r : Result ℕ Error} {e : Error} → r ≡ Err e → Copied K buffered 16 a w r a' w'
      → queue_capacity < size (buffered.told w) + length from
  copy_full err (Ok n, same, law) = absurd (let no : ⊥ = cc in no)
  copy_full err (Err (Read e), same, law) =
      let left = left_of law.takes is in
      let none = HasNoFault-front law.taken left.0 (subst HasNoFault left.2 (HasNoFault-events_of from)) in
      absurd (no_fault_at_end law.taken e none law.ends.fault)
  copy_full err (Err (Write e), same, law) =
      let refuses = law.ends in
      let full = handed_full (omega arith) law.calls.handed w w' law.calls.made in
      let front = simp length-append at (ap length refuses.nearly.front.1) in
      let all = simp (bytes-events_of, bytes-append, length-append) at (ap (λ E. length (event_bytes E)) (left_of law.takes is).2) in
      omega (arith, full, size-moves refuses.moves, front, all)

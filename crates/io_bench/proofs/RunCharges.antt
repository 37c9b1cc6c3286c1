-- For `run_closed`: its counts of calls, and what it did to a writer that takes all.
use Rattle.no_std_io2.proofs.Words.{◌≡◌, ◌+◌, ℕ, ◌<◌, List, Result, IsOk, arith, nat_tests, TakesAll, Writer, IsMeter, Step, TakesStep}
use Rattle.no_std_io2.proofs.Words.{WriterState, writing_calls, common_steps, ◌*◌, ◌/◌, ◌≤◌, min, length, ⊎_elim, buffer_after, calls_for}
use Rattle.no_std_io2.proofs.Words.{cases_lt, [], ◌∷◌, Ok, OnOk, length-drop, refl, sym, subst, inl, inr, WriteCall, Wrote, Made, Writes}
use Rattle.no_std_io2.proofs.Words.{no_write, write_took, write_again, BufferMay, SendCalls, Stepped, InnerCalls, ◌++◌, ap, ◌∙◌, CallOf}
use Rattle.no_std_io2.proofs.{Words.{Moves, writer_buffer, writer_inner, writer_told}, MovesLemmas.{meter_made, Moves-ends}}
use Rattle.no_std_io2.proofs.BufWriterLemmas.{Always, effect_of, Exactly, Moves-device, buffer-le}
use Rattle.no_std_io2.proofs.BufWriterCalls.{writing_all_calls, send_does, write_does, write_all_does, flush_does, write_takes}
use Rattle.no_std_io2.{proofs.CallsLemmas.{made_split, made_map, law_may}, specs.declared.io.Error.{Error}}
use Rattle.no_std_io2.specs.{declared.buffered.buf_writer.BufWriter.{BufWriter}, inner.Meter.{CostsAtMost}, BufWriter.{Unwraps}}
use Rattle.std.proofs.{lemmas.{Nat.{le-div}, List.{length-append}}, Common.{take_all}}
use Rattle.io_bench.{proofs.RunLemmas.{made_one}, specs.declared.runs.{Op.{Op, TheVariants.{Write, WriteAll, Flush}}, Reply.{Reply}}}
use Rattle.io_bench.specs.declared.{runs.Reply.TheVariants.{Took, Done}, tally.Tally.{Tally}}
use Rattle.io_bench.specs.Runs.{OpCalls, JoinsEach, IsWhole, AreWhole, Accepts, Ran, Run, RunCalls}
use Rattle.io_bench.specs.{Closed.{op_bytes, given_bytes, op_flushes, flush_count}, Tally.{TallyMay, tally_inner, tally_writes}}

-- What the calls of a buffered writer cost, by each number that counts the calls of the inner writer, if
-- that takes all.

-- with some room, an empty `write_all` makes no call past the buffer
pub writing_all-is : (S : ℕ) (x waiting : List ℕ) → 0 < S → writing_all_calls S x waiting ≡ writing_calls S waiting x
writing_all-is S x waiting some = grind (arith, nat_tests)

module _ {W : Type 0} (I : Writer W) where
  -- A step costs what its calls count as.
  pub step_cost : {A B : Type 0} (cost : W → ℕ) → IsMeter I.may cost → (inner : B → W) (buffer : B → List ℕ) {step : Step A}
      {R : WriterState → Result A Error → WriterState → Type 0} {F : List ℕ → List ℕ → Type 0} {n : List ℕ → ℕ} → Always I step R F n
      → (old new : B)
      {reply : Result A Error} → TakesStep I inner buffer step old reply new → TakesAll I (inner old)
      → TakesAll I (inner new) × IsOk reply × (cost (inner new) ≡ cost (inner old) + n (buffer old))
  step_cost cost meter inner buffer always old new takes all =
      let done = (effect_of always takes).counts all in
      (done.0, done.1, omega (arith, meter_made I cost meter takes.calls (inner old) (inner new) takes.made, done.2))

-- For `run_closed`, the count of inner writes: two in a row carry more than S bytes, unless a flush made the first.

-- c writes so far, f flushes, n bytes given, h of them in the buffer: there are p complete pairs of writes that carried
-- more than S bytes each, and either no write is without a partner, or only the last is, which carried at least S bytes
pub data Paid (S c f n h : ℕ) : Type 0 where
  pairs : (p : ℕ) → c ≤ 2 * p + f → p * (S + 1) + h ≤ n → Paid S c f n h
  open_one : (p : ℕ) → c ≤ 2 * p + 1 + f → p * (S + 1) + S + min h 1 ≤ n → Paid S c f n h

-- What one call of x bytes does to h, by k writes: they are held, or take the place of the held bytes, or go past the buffer, which is
-- sent first if it holds bytes; or the call is one flush.
pub data BufferStep (S h x h' k g : ℕ) : Type 0 where
  held : k ≡ 0 → g ≡ 0 → h' ≡ h + x → BufferStep S h x h' k g
  sent : k ≡ 1 → g ≡ 0 → 0 < h → S < h + x → h' ≡ x → BufferStep S h x h' k g
  past : k ≡ min h 1 + 1 → g ≡ 0 → 0 < S → S ≤ x → h' ≡ 0 → BufferStep S h x h' k g
  flushed : k ≡ min h 1 → g ≡ 1 → h' ≡ 0 → BufferStep S h x h' k g

-- one call more
pub paid_call : {S c f n h x h' k g : ℕ} → BufferStep S h x h' k g → Paid S c f n h → Paid S (c + k) (f + g) (n + x) h'
paid_call (held k g is) (pairs p a b) = pairs p (omega arith) (omega arith)
paid_call (held k g is) (open_one p a b) = open_one p (omega arith) (omega arith)
paid_call (sent k g some over is) (pairs p a b) = open_one p (omega arith) (omega arith)
paid_call (sent k g some over is) (open_one p a b) = pairs (p + 1) (omega arith) (omega arith)
paid_call {h = h} (past k g some long is) (pairs p a b) = ⊎_elim
    (λ nothing. open_one p (omega arith) (omega arith))
    (λ any. pairs (p + 1) (omega arith) (omega arith))
    (cases_lt h 1)
paid_call {h = h} (past k g some long is) (open_one p a b) = ⊎_elim
    (λ nothing. pairs (p + 1) (omega arith) (omega arith))
    (λ any. open_one (p + 1) (omega arith) (omega arith))
    (cases_lt h 1)
paid_call (flushed k g is) (pairs p a b) = pairs p (omega arith) (omega arith)
paid_call (flushed k g is) (open_one p a b) = open_one p (omega arith) (omega arith)

-- the bound, with the last sending
pub Paid-bound : (S c f n h : ℕ) → Paid S c f n h → c + min h 1 ≤ 2 * (n / (S + 1)) + f + 1
Paid-bound S c f n h is = grind (arith, common_steps, le-div)

-- a write of x is one of them
pub write_call : (S : ℕ) (buffer x : List ℕ) → 0 < S → length buffer ≤ S
    → BufferStep S (length buffer) (length x) (length (buffer_after S buffer x)) (writing_calls S buffer x) 0
write_call S buffer x some fits = grind (arith, common_steps, nat_tests, cases_lt, length-append)

-- the held bytes are sent by one call, or by none if nothing is held
pub calls_for-min : (buffer : List ℕ) → calls_for buffer ≡ min (length buffer) 1
calls_for-min buffer = grind (arith, nat_tests)

-- For `run_closed`: the count of a whole run through a buffer, and its closing, from the calls that it made.

-- what holds after `Ok` holds for a result that is `Ok`
at_ok : {A P : Type 0} (r : Result A Error) → IsOk r → OnOk r P → P
at_ok = grind (arith, common_steps)

module _ {W B : Type 0} (I : Writer W) (cost : W → ℕ) (meter : IsMeter I.may cost) (S : ℕ) (some : 0 < S) (inner : B → W)
    (buffer : B → List ℕ) (fits : (b : B) → length (buffer b) ≤ S) (old : B) where
  abbrev May : B → WriteCall → B → Type 0
  May = BufferMay I (InnerCalls S) inner buffer

  -- the inner writer still takes all, and the calls so far, of f flushes and n bytes, are paid for
  abbrev PaidTo : ℕ → ℕ → B → Type 0
  PaidTo f n b = TakesAll I (inner b) × (c : ℕ) × (cost (inner b) ≡ cost (inner old) + c) × Paid S c f n (length (buffer b))

  -- so they are for equal numbers
  paid_at : {f f' n n' : ℕ} (b : B) → f ≡ f' → n ≡ n' → PaidTo f n b → PaidTo f' n' b
  paid_at {f} {n' = n'} b flushes bytes paid = subst (λ k. PaidTo k n' b) flushes (subst (λ k. PaidTo f k b) bytes paid)

  -- a call of x bytes that leaves this in the buffer
  step_paid : {A : Type 0} {step : Step A} {R : WriterState → Result A Error → WriterState → Type 0} {k : List ℕ → ℕ}
      (left : List ℕ → List ℕ)
      → Always I step R (Exactly left) k → {f n x g : ℕ} (a b : B) (reply : Result A Error)
      → BufferStep S (length (buffer a)) x (length (left (buffer a))) (k (buffer a)) g → TakesStep I inner buffer step a reply b
      → PaidTo f n a → PaidTo (f + g) (n + x) b
  step_paid {k = k} left always {f} {n} {x} {g} a b reply one takes (all, c, is, paid) =
      let done = step_cost I cost meter inner buffer always a b takes all in (
        done.0,
        c + k (buffer a),
        omega (arith, done.2, is),
        subst (λ l. Paid S (c + k (buffer a)) (f + g) (n + x) (length l)) (sym (at_ok reply done.1 (effect_of always takes).leaves))
            (paid_call one paid),
      )

  wrote_paid : {f n : ℕ} (a b : B) (x : List ℕ) (reply : Result ℕ Error) → May a (Wrote x reply) b → PaidTo f n a
      → PaidTo (f + 0) (n + length x) b
  wrote_paid a b x reply made paid =
      step_paid (λ waiting. buffer_after S waiting x) (write_does I S x) a b reply (write_call S (buffer a) x some (fits a)) made paid

  -- a loop that wrote all
  loop_paid : {text : List ℕ} {C : List WriteCall} {x left : List ℕ} {f n : ℕ} → Writes text C x (Ok tt) left → (a b : B)
      → Made May a C b → PaidTo f n a → PaidTo (f + 0) (n + length x) b
  loop_paid {f = f} {n} no_write a b made paid = subst (PaidTo (f + 0) (n + 0)) (sym made) (paid_at a (omega arith) (omega arith) paid)
  loop_paid (write_took {x = x} {n = k} any more w) a b made paid =
      let is = write_takes I S made.1 paid.0 in
      let all : k ≡ length x = cc in
      paid_at b (omega arith) (omega (arith, length-drop k x, all))
      (loop_paid w made.0 b made.2 (wrote_paid a made.0 x (Ok k) made.1 paid))
  loop_paid (write_again any interrupted w) a b made paid =
      let is = write_takes I S made.1 paid.0 in absurd (let no : ⊥ = cc in no)

  -- a call of the run that was whole
  op_paid : (op : Op) (reply : Reply) (C : List WriteCall) → OpCalls op reply C → IsWhole op reply → {f n : ℕ} (a b : B)
      → Made May a C b → PaidTo f n a → PaidTo (f + op_flushes op) (n + length (op_bytes op)) b
  op_paid (Write x) (Took k) C is whole a b made paid = wrote_paid a b x.now (Ok k) (made_one May a b is made) paid
  op_paid (WriteAll x) Done C (inl own) whole a b made paid =
      step_paid (λ waiting. buffer_after S waiting x.now) (write_all_does I S x.now) a b (Ok tt)
      (rw (writing_all-is S x.now (buffer a) some) (write_call S (buffer a) x.now some (fits a))) (made_one May a b own made) paid
  op_paid (WriteAll x) Done C (inr (left, writes)) whole a b made paid = loop_paid writes a b made paid
  op_paid Flush Done C is whole a b made paid =
      step_paid (λ _. []) (flush_does I) a b (Ok tt) (flushed (calls_for-min (buffer a)) refl refl) (made_one May a b is made) paid
  op_paid _ _ C is whole a b made paid = grind (arith, is, whole)

  -- a run
  ops_paid : (ops : List Op) (replies : List Reply) (C : List WriteCall) → JoinsEach OpCalls ops replies C → AreWhole ops replies
      → {f n : ℕ} (a b : B) → Made May a C b → PaidTo f n a → PaidTo (f + flush_count ops) (n + length (given_bytes ops)) b
  ops_paid [] [] C idle whole {f} {n} a b made paid =
      subst (PaidTo (f + 0) (n + 0)) (sym (rw idle at made)) (paid_at a (omega arith) (omega arith) paid)
  ops_paid (op ∷ ops) (reply ∷ replies) C (first, rest, one, more, is) whole a b made paid =
      let (mid, now, later) = made_split May first a rest b (rw is at made) in
      paid_at b (omega arith) (omega (arith, length-append (op_bytes op) (given_bytes ops)))
      (ops_paid ops replies rest more whole.1 mid b later (op_paid op reply first one whole.0 a mid now paid))
  ops_paid _ _ C joined whole a b made paid = absurd joined

  -- For N bytes and F flushes through an empty buffer, and its closing: at most `2 * (N / (S + 1)) + F + 1`.
  pub closed_bound : (last : B) (w : W) (ops : List Op) (replies : List Reply) (C : List WriteCall) → JoinsEach OpCalls ops replies C
      → AreWhole ops replies → Made May old C last → buffer old ≡ [] → TakesAll I (inner old)
      → Stepped I SendCalls (inner last) (buffer last) (Ok tt) [] w
      → cost w ≤ cost (inner old) + (2 * (length (given_bytes ops) / (S + 1)) + flush_count ops + 1)
  closed_bound last w ops replies C joined whole made empty takes send =
      let start : PaidTo 0 0 old = (takes, 0, omega arith, rw empty (pairs 0 (omega arith) (omega arith))) in
      let run : PaidTo (flush_count ops) (length (given_bytes ops)) last =
      paid_at last (omega arith) (omega arith) (ops_paid ops replies C joined whole old last made start) in
      let bound = Paid-bound S run.1 (flush_count ops) (length (given_bytes ops)) (length (buffer last)) run.3 in
      let last_one = (effect_of (send_does I) send).counts run.0 in
      omega (arith, meter_made I cost meter send.calls (inner last) w send.made, last_one.2, run.2, calls_for-min (buffer last), bound)

-- For `run_closed`: a run through a new buffer that is then closed, over a writer that takes all.

-- a whole call accepted all its bytes
whole_call : (op : Op) (reply : Reply) (x : List ℕ) → IsWhole op reply → Accepts op reply x → x ≡ op_bytes op
whole_call op reply x whole accepts = grind (arith, common_steps, take_all)

-- a run of whole calls accepted all bytes
whole_run : (ops : List Op) (replies : List Reply) (x : List ℕ) → AreWhole ops replies → Run ops replies x → x ≡ given_bytes ops
whole_run [] [] x whole run = run
whole_run (op ∷ ops) (reply ∷ replies) x whole (first, rest, accepts, more, is) =
    is ∙ ap (λ l. l ++ rest) (whole_call op reply first whole.0 accepts)
    ∙ ap (λ l. op_bytes op ++ l) (whole_run ops replies rest whole.1 more)
whole_run _ _ x whole run = grind (arith, whole)

module _ {W : Type 0} (I : Writer W) {S : ℕ} (some : 0 < S) (w : W) (ops : List Op) (replies : List Reply) (t : W) where
  -- what such a run did to the writer below
  pub record Closes : Type 0 where
    pub bytes : Moves (I.told w) (given_bytes ops) [] (I.told t)
    pub bound : CostsAtMost I w (2 * (length (given_bytes ops) / (S + 1)) + flush_count ops + 1) t

  -- It did it, by the laws of `run_writes` and of `into_inner`.
  pub closes : {J : Writer (BufWriter W S)}
      → ((a b : BufWriter W S) (call : WriteCall) → J.may a call b → BufferMay I (InnerCalls S) writer_inner writer_buffer a call b)
      → (start last : BufWriter W S) → writer_inner start ≡ w → writer_buffer start ≡ [] → TakesAll I w
      → Ran (writer_told I.told start) ops replies (writer_told I.told last) → AreWhole ops replies → RunCalls J start ops replies last
      → Unwraps I writer_inner writer_buffer last (Ok t) → Closes
  closes {J = J} may start last is empty all ran whole run ends = record {
    bytes =
        Moves-device I.told start w is empty refl
        (subst (λ l. Moves (writer_told I.told start) l [] (I.told t)) (whole_run ops replies ran.accepted whole ran.run)
        (Moves-ends ran.moves ends.ok));
    bound = λ cost meter takes.
        let made = made_map (CallOf J) (BufferMay I (InnerCalls S) writer_inner writer_buffer) (λ b. b)
        (λ a b call law. may a b call (law_may J a b call law)) run.calls start last run.made in
        let bound = closed_bound I cost meter S some writer_inner writer_buffer buffer-le start last t ops replies run.calls
        run.are whole
        made empty (subst (TakesAll I) (sym is) all) ends.calls in
        omega (arith, bound, ap cost is);
  }

-- the exact count of a `Tally` counts its writes
pub tally_meters : {T : Type 0} (I : Writer T) → IsMeter (TallyMay I) tally_writes
tally_meters {T = T} I = grind (arith, common_steps)

-- a `Tally` as a writer
abbrev pub tallied_writer : {T : Type 0} → Writer T → Writer (Tally T)
tallied_writer I = record {
  told = λ t. I.told (tally_inner t);
  takes_all = λ t. I.takes_all (tally_inner t);
  may = TallyMay I;
}

-- For `towers`: which errors a writer returns, and what streams in front of others are.
use Rattle.no_std_io2.proofs.Words.{Ok, Err, Wrote, common_steps, ℕ, List, Result, IfErr, arith, IsOutOfMemory, WriteCall, Flushed, Made}
use Rattle.no_std_io2.proofs.Words.{AllCalls, Writes, no_write, write_took, write_again, write_stuck, write_fault, Writer, CallOf, ◌≡◌, ◌<◌}
use Rattle.no_std_io2.proofs.Words.{◌∷◌, [], IfOk, length, subst, sym, inl, inr, WroteAll, Step, TakesStep, Then, first_stops}
use Rattle.no_std_io2.proofs.Words.{first_goes_on, SendCalls, RoomCalls, Buffered, WriteCalls, SingleCall, WriteAllCalls, FlushCalls}
use Rattle.no_std_io2.proofs.Words.{InnerCalls, BufferMay, lines_of, unfinished_line, SendLinesCalls, LineWriteCalls, LineWriteAllCalls}
use Rattle.no_std_io2.proofs.Words.{Vec, told_out, writer_inner, writer_buffer, writer_told, with_buffer, line_inner, line_buffer}
use Rattle.no_std_io2.{proofs.{CallsLemmas.{law_may, made_split}, LineLemmas.{lines_some}}, specs.declared.io.Error.{Error}}
use Rattle.no_std_io2.specs.declared.buffered.{buf_writer.BufWriter.{BufWriter}, line_writer.LineWriter.{LineWriter}}
use Rattle.no_std_io2.specs.{Writers.{WriteAllOf, FlushOf}, inner.InMemory.{AppendsWhole, AppendsMay}}
use Rattle.no_std_io2.specs.inner.{BufWriter.{WithNothingHeld, PutCalls}, LineWriter.{SendLineCalls, LinesCalls, HoldsTail, LineCalls}}
use Rattle.promises.specs.Fails.{FailsBy, FailsOnly}
use Rattle.std.specs.Vec.{vec_len, vec_capacity}

-- For `towers`: which errors the loops of a writer return, if each of its calls fails with such errors only.

-- a vector fails by `OutOfMemory` only
whole_fails : {A : Type 0} (old new x : List ℕ) (len capacity : ℕ) (reply : Result A Error) → AppendsWhole old len capacity x reply new
    → IfErr reply IsOutOfMemory
whole_fails old new x len capacity reply is = grind (arith, common_steps)

pub appends_fails : {W : Type 0} (items : W → List ℕ) (len capacity : W → ℕ)
    → FailsOnly IsOutOfMemory (AppendsMay items len capacity)
appends_fails items len capacity old new call made = grind (arith, common_steps)

module _ {W : Type 0} (I : Writer W) (Q : Error → Type 0) (fails : FailsOnly Q I.may) where
  -- so does each call, by its law
  pub call_fails : (a b : W) (call : WriteCall) → CallOf I a call b → FailsBy Q call
  call_fails a b call law = fails a b call (law_may I a b call law)

  -- a loop of writes
  pub writes_fail : {text : List ℕ} {C : List WriteCall} {x left : List ℕ} {reply : Result (Unit {0}) Error} → Writes text C x reply left
      → (a b : W) → Made (CallOf I) a C b → IfErr reply Q
  writes_fail no_write a b made = tt
  writes_fail (write_took some more w) a b made = writes_fail w made.0 b made.2
  writes_fail (write_again some interrupted w) a b made = writes_fail w made.0 b made.2
  writes_fail (write_stuck {x = x} some says) a b made =
      absurd (omega (arith, (call_fails a made.0 (Wrote x (Ok 0)) made.1).1 some))
  writes_fail (write_fault {x = x} {e = e} some is) a b made = (call_fails a made.0 (Wrote x (Err e)) made.1).0

  -- and a `write_all`
  pub all_fails : {C : List WriteCall} {x : List ℕ} (reply : Result (Unit {0}) Error) → AllCalls C x reply → (a b : W)
      → Made (CallOf I) a C b → IfErr reply Q
  all_fails {x = x} reply calls a b made = grind (arith, common_steps, writes_fail, call_fails)

  -- so the laws say which errors are returned
  pub write_all_fails : {old new : W} {x : List ℕ} (reply : Result (Unit {0}) Error) → WriteAllOf I old x reply new → IfErr reply Q
  write_all_fails {old} {new} reply law = all_fails reply law.calls.are old new law.calls.made

  pub flush_fails : {old new : W} (reply : Result (Unit {0}) Error) → FlushOf I old reply new → IfErr reply Q
  flush_fails {old} {new} reply law = fails old new (Flushed reply) law.call

-- For `towers`: which errors a writer with a buffer returns, if each call of its inner writer fails with such errors only.

module _ {W : Type 0} (I : Writer W) (Q : Error → Type 0) (fails : FailsOnly Q I.may) where
  -- a step has such results, if its calls were made
  abbrev Gives : {A : Type 0} → (Result A Error → Type 0) → Step A → Type 0
  Gives {A} P step = (held : List ℕ) (C : List WriteCall) (reply : Result A Error) (left : List ℕ) → step held C reply left
      → (a b : W) → Made (CallOf I) a C b → P reply

  -- it fails with such errors only
  abbrev Fails : {A : Type 0} → Step A → Type 0
  Fails step = Gives (λ reply. IfErr reply Q) step

  then_gives : {A : Type 0} (P : Result A Error → Type 0) (first : Step (Unit {0})) (next : Step A) → ((e : Error) → Q e → P (Err e))
      → Fails first → Gives P next → Gives P (Then first next)
  then_gives P first next of_error of_first of_next = λ held C reply left both a b made. split both a b made
    where
      split : {held left : List ℕ} {C : List WriteCall} {reply : Result _ Error} → Then first next held C reply left
          → (a b : W) → Made (CallOf I) a C b → P reply
      split (first_stops {e = e} p) a b made = of_error e (of_first _ _ _ _ p a b made)
      split (first_goes_on {C = C} {D = D} p q) a b made =
          let parts = made_split (CallOf I) C a D b made in of_next _ _ _ _ q parts.0 b parts.2

  send_fails : Fails SendCalls
  send_fails = λ held C reply left writes a b made. writes_fail I Q fails writes a b made

  room_fails : (S n : ℕ) → Fails (RoomCalls S n)
  room_fails S n = grind (arith, common_steps, send_fails)

  buffered_gives : {A : Type 0} (P : Result A Error → Type 0) (S : ℕ) (x : List ℕ) (v : A) (past : List WriteCall → Result A Error → Type 0)
      → ((e : Error) → Q e → P (Err e)) → P (Ok v)
      → ((C : List WriteCall) (reply : Result A Error) → past C reply → (a b : W) → Made (CallOf I) a C b → P reply)
      → Gives P (Buffered S x v past)
  buffered_gives P S x v past of_error kept of_past =
      then_gives P (RoomCalls S (length x)) (PutCalls S x v past) of_error (room_fails S (length x))
      (λ held C reply left put a b made. elim put [
        | inl held ↦ subst P (sym held.2) kept
        | inr gone ↦ of_past C reply gone.1.2 a b made
      ])

  -- the one call that was made
  one : {call : WriteCall} {C : List WriteCall} (a b : W) → C ≡ call ∷ [] → Made (CallOf I) a C b → FailsBy Q call
  one {call = call} a b is made = let first = subst (λ K. Made (CallOf I) a K b) is made in call_fails I Q fails a first.0 call first.1

  -- a `write` of some bytes takes some, or fails
  abbrev Some : List ℕ → Result ℕ Error → Type 0
  Some x reply = IfErr reply Q × IfOk reply (λ n. 0 < length x → 0 < n)

  write_some : (S : ℕ) (x : List ℕ) → Gives (Some x) (WriteCalls S x)
  write_some S x = buffered_gives (Some x) S x (length x) (SingleCall (Wrote x)) (λ e q. (q, tt)) (tt, λ some. some)
      (λ C reply is a b made. one {call = Wrote x reply} a b is made)

  buffer_write_all_fails : (S : ℕ) (x : List ℕ) → Fails (WriteAllCalls S x)
  buffer_write_all_fails S x = buffered_gives (λ reply. IfErr reply Q) S x tt (λ C. AllCalls C x) (λ e q. q) tt
      (λ C reply calls a b made. all_fails I Q fails reply calls a b made)

  buffer_flush_fails : Fails FlushCalls
  buffer_flush_fails = then_gives (λ reply. IfErr reply Q) SendCalls (WithNothingHeld (SingleCall Flushed)) (λ e q. q) send_fails
      (λ held C reply left gone a b made. one {call = Flushed reply} a b gone.2 made)

  -- such a step of a writer with a buffer
  by_step : {A B : Type 0} {P : Result A Error → Type 0} {step : Step A} (inner : B → W) (buffer : B → List ℕ) (old new : B)
      (reply : Result A Error) → Gives P step → TakesStep I inner buffer step old reply new → P reply
  by_step inner buffer old new reply gives taken = gives _ taken.calls reply _ taken.are (inner old) (inner new) taken.made

  -- A writer with a buffer fails with the errors of its inner writer only.
  pub buffer_fails : {B : Type 0} (S : ℕ) (inner : B → W) (buffer : B → List ℕ) → FailsOnly Q (BufferMay I (InnerCalls S) inner buffer)
  buffer_fails {B = B} S inner buffer = grind (arith, common_steps, by_step, buffer_flush_fails, buffer_write_all_fails, write_some)

  -- and so does a line writer
  send_line_fails : Fails SendLineCalls
  send_line_fails = grind (arith, common_steps, send_fails)

  tail_some : (S : ℕ) (x lines : List ℕ) (answer reply : Result ℕ Error) (left : List ℕ) → 0 < length lines
      → HoldsTail S x answer reply left
      → Some lines answer → Some x reply
  tail_some S x lines answer reply left some tail gave = grind (arith, common_steps)

  send_lines_fails : (S : ℕ) (y : List ℕ) → Fails (SendLinesCalls S y)
  send_lines_fails S y = λ held C reply left sends a b made. elim sends [
    | inl past ↦ all_fails I Q fails reply past.2 a b made
    | inr behind ↦
        then_gives (λ reply. IfErr reply Q) (WriteAllCalls S y) SendCalls (λ e q. q) (buffer_write_all_fails S y) send_fails
        held C reply left behind.1 a b made
  ]

  line_write_some : (S : ℕ) (x : List ℕ) → Gives (Some x) (LineWriteCalls S x)
  line_write_some S x = λ held C reply left write a b made. elim write [
    | inl plain ↦
        then_gives (Some x) SendLineCalls (WriteCalls S x) (λ e q. (q, tt)) send_line_fails (write_some S x)
        held C reply left plain.1 a b made
    | inr lines ↦
        then_gives (Some x) SendCalls (LinesCalls S x) (λ e q. (q, tt)) send_fails
        (λ held C reply left wrote a b made.
        tail_some S x (lines_of x) wrote.1 reply left (lines_some x lines.0) wrote.3
        (one {call = Wrote (lines_of x) wrote.1} a b wrote.2 made))
        held C reply left lines.1 a b made
  ]

  line_write_all_fails : (S : ℕ) (x : List ℕ) → Fails (LineWriteAllCalls S x)
  line_write_all_fails S x = λ held C reply left write a b made. elim write [
    | inl plain ↦
        then_gives (λ reply. IfErr reply Q) SendLineCalls (WriteAllCalls S x) (λ e q. q) send_line_fails (buffer_write_all_fails S x)
        held C reply left plain.1 a b made
    | inr lines ↦
        then_gives (λ reply. IfErr reply Q) (SendLinesCalls S (lines_of x)) (WriteAllCalls S (unfinished_line x)) (λ e q. q)
        (send_lines_fails S (lines_of x)) (buffer_write_all_fails S (unfinished_line x)) held C reply left lines.1 a b made
  ]

  pub line_fails : {B : Type 0} (S : ℕ) (inner : B → W) (buffer : B → List ℕ) → FailsOnly Q (BufferMay I (LineCalls S) inner buffer)
  line_fails S inner buffer old new (Wrote x reply) may = by_step inner buffer old new reply (line_write_some S x) may
  line_fails S inner buffer old new (WroteAll x reply) may = by_step inner buffer old new reply (line_write_all_fails S x) may
  line_fails S inner buffer old new (Flushed reply) may = by_step inner buffer old new reply buffer_flush_fails may

-- What streams in front of others are, as the laws take them.

-- a vector
abbrev pub vector : (Z : Type 0) → Writer (Vec ℕ Z)
vector Z = record { told = λ v. told_out v.items; takes_all = λ _. ⊥; may = AppendsMay (λ v. v.items) vec_len vec_capacity }

-- a `BufWriter` and a `LineWriter` in front of a writer
abbrev pub buffered : {W : Type 0} (S : ℕ) → Writer W → Writer (BufWriter W S)
buffered S I = record {
  told = writer_told I.told;
  takes_all = λ w. I.takes_all (writer_inner w);
  may = BufferMay I (InnerCalls S) writer_inner writer_buffer;
}

abbrev pub lines : {W : Type 0} (S : ℕ) → Writer W → Writer (LineWriter W S)
lines S I = record {
  told = λ w. with_buffer (I.told (line_inner w)) (line_buffer w);
  takes_all = λ _. ⊥;
  may = BufferMay I (LineCalls S) line_inner line_buffer;
}

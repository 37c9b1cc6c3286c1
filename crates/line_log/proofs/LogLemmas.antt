-- A line is put into a buffer, and then all is sent.
use Rattle.no_std_io2.proofs.Words.{nil_from_length, ◌≡◌, ℕ, ◌+◌, ◌≤◌, List, [], length, Result, Ok, Err, OnOk, refl, arith, inl, inr}
use Rattle.no_std_io2.proofs.Words.{Writer, error_kind, Moves, WriteCall, call_mishap, no_write, writer_inner, writer_buffer, writer_told}
use Rattle.no_std_io2.proofs.{Words.{TakesStep, RoomCalls, SendCalls}, CallsLemmas.{by_are}, BufWriterLemmas.{then_stops, then_goes_on}}
use Rattle.no_std_io2.proofs.MovesLemmas.{Moves-ends, writes_left}
use Rattle.no_std_io2.specs.{declared.io.{Error.{Error}, BufWriter.{BufWriter}}, BufWriter.{Puts}}
use Rattle.line_log.specs.Log.{Logs, IsLogged}

-- to make room for a whole buffer is to send
room_all : (S : ℕ) {held left : List ℕ} {C : List WriteCall} {r : Result (Unit {0}) Error} → RoomCalls S S held C r left
    → SendCalls held C r left
room_all S {held} (inl kept) =
    let none : held ≡ [] = nil_from_length held (omega (arith, kept.0)) in
    rw (kept.1, kept.2, kept.3, none) no_write
room_all S (inr sent) = sent.1

-- the line was not put
pub log_stops : {W : Type 0} {S : ℕ} (I : Writer W) (x : List ℕ) {old new : BufWriter W S} (e : Error)
    → Puts I writer_inner writer_buffer S x old (Err e) new
    → Logs I x old (Err e) new
log_stops I x e put = record { ok = tt; err = put.moves; fault = put.fault; calls = then_stops put.calls }

module _ {W : Type 0} {S : ℕ} (I : Writer W) (x : List ℕ) {old mid new : BufWriter W S} where
  -- it was, and then all was sent, or a fault came
  pub log_goes : (met : Result (Unit {0}) Error) → Puts I writer_inner writer_buffer S x old (Ok tt) mid
      → TakesStep I writer_inner writer_buffer (RoomCalls S S) mid met new
      → Moves (writer_told I.told mid) [] (call_mishap met) (writer_told I.told new)
      → OnOk met (length (writer_buffer new) + S ≤ S) → Logs I x old (Ok tt) new
  log_goes met put way moves room = record {
    ok = of_met met moves room (room_all S way.are);
    err = tt;
    fault = tt;
    calls = then_goes_on _ put.calls (by_are way (λ C calls. (refl, (met, room_all S calls))));
  }
    where
      of_met : (r : Result (Unit {0}) Error) → Moves (writer_told I.told mid) [] (call_mishap r) (writer_told I.told new)
          → OnOk r (length (writer_buffer new) + S ≤ S) → SendCalls (writer_buffer mid) way.calls r (writer_buffer new)
          → IsLogged (writer_told I.told old) x (writer_told I.told new) (writer_buffer new)
      of_met (Ok u) m fits sent = inl (nil_from_length (writer_buffer new) (omega (arith, fits)), Moves-ends put.moves m)
      of_met (Err e) m fits sent = inr (writes_left sent, (error_kind e, Moves-ends put.moves m))

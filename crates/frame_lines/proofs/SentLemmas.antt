-- A line that was logged, and then sent.
use Rattle.no_std_io2.proofs.Words.{nil_from_length, ◌≡◌, ◌≤◌, ◌<◌, refl, true, false, nat_lt, ap, ◌++◌, List, ℕ, [], length, Option}
use Rattle.no_std_io2.proofs.Words.{Result, Ok, Err, OnOk, arith, inl, inr, length-append, nat_tests, call_mishap, Moves, Writer}
use Rattle.no_std_io2.{proofs.{Words.{common_steps}, MovesLemmas.{Moves-ends}}, specs.{declared.io.Error.{Error}, Writers.{FlushOf}}}
use Rattle.line_log.specs.{declared.LineLog.{LineLog}, Log.{LogsText, IsLogged, line_of, log_held, log_tells, log_writer}}
use Rattle.frame_lines.specs.Printing.{PrintsPayload, log_buffer}

-- if two writers hold nothing after `Ok`, the second holds nothing
second_holds_nothing : {X : Type 0} (xs ys : List X) → xs ++ ys ≡ [] → ys ≡ []
second_holds_nothing xs ys h = nil_from_length ys (omega (arith, ap length h, length-append xs ys))

-- what was accepted, if a line was logged
logged : {W : Type 0} {I : Writer W} {old mid : LineLog W 16386} (output : Option (List ℕ)) → LogsText I output old (Ok tt) mid
    → (text : List ℕ) × IsLogged (log_tells I.told old) (line_of text) (log_tells I.told mid) (log_held mid)
logged output logs = grind (arith, common_steps)

-- nothing of it is held
pub line_sent : {W : Type 0} {I : Writer W} {old mid : LineLog W 16386} (output : Option (List ℕ))
    → LogsText I output old (Ok tt) mid → false ≡ nat_lt 0 (length (log_held mid)) → PrintsPayload I old mid
line_sent {mid = mid} output logs behind =
    let is = logged output logs in
    let none : length (log_held mid) ≤ 0 = grind (arith, nat_tests) in
    elim is.1 [
      | inl whole ↦ record {
        text = is.0;
        moves = whole.1;
        sent = whole.0;
        output = output;
        mid = mid;
        logs = logs;
        rest = inl (whole.0, refl);
      }
      | inr behind ↦ absurd (omega (arith, behind.0, none))
    ]

-- or all was sent by a flush
pub line_flushed : {W : Type 0} {I : Writer W} {old mid : LineLog W 16386} (output : Option (List ℕ))
    (new : LineLog W 16386) (r : Result (Unit {0}) Error) → LogsText I output old (Ok tt) mid → true ≡ nat_lt 0 (length (log_held mid))
    → FlushOf (log_buffer I) (log_writer mid) r (log_writer new) → Moves (log_tells I.told mid) [] (call_mishap r) (log_tells I.told new)
    → OnOk r ((log_tells I.told new).held ≡ []) → OnOk r (PrintsPayload I old new)
line_flushed output new (Err e) logs behind flush moves empty = tt
line_flushed {mid = mid} output new (Ok u) logs behind flush moves empty =
    let is = logged output logs in
    let some : 0 < length (log_held mid) = grind (arith, nat_tests) in
    elim is.1 [
      | inl whole ↦ absurd (omega (arith, some, ap length whole.0))
      | inr behind ↦ record {
        text = is.0;
        moves = Moves-ends behind.1.1 moves;
        sent = second_holds_nothing _ (log_held new) empty;
        output = output;
        mid = mid;
        logs = logs;
        rest = inr (some, flush);
      }
    ]

-- A text that was logged is one line more.
use Rattle.no_std_io2.proofs.Words.{◌≡◌, ◌++◌, ℕ, List, Option, Result, Ok, Err, ap, ◌∙◌, inl, inr, append-nil, Writer}
use Rattle.std.proofs.Common.{IfSome}
use Rattle.no_std_io2.specs.{declared.io.Error.{Error}, Moves.{WriterState}}
use Rattle.line_log.specs.{declared.LineLog.{LineLog}, Log.{LogsLine, LogsText, IsLogged}}
use Rattle.log_sink.specs.Records.{AddsLine, logged_bytes}

-- a logged line is behind all bytes that were there, also if its end is held
logged_behind : (old new : WriterState) (x held : List ℕ) → IsLogged old x new held → new.out ++ new.held ≡ old.out ++ old.held ++ x
logged_behind old new x held (inl whole) = whole.1.bytes
logged_behind old new x held (inr behind) = behind.1.1.bytes

module _ {W : Type 0} {S : ℕ} (I : Writer W) (output : Option (List ℕ)) {old new : LineLog W S} where
  -- a line of this text
  line_added : (text : List ℕ) (reply : Result (Unit {0}) Error) → IfSome output (λ bs. text ≡ bs) → LogsLine I text old reply new
      → AddsLine I.told output old reply new
  line_added text (Ok u) is (inl logs) =
      record { ok = (text, is, logs.0.0, logged_behind _ _ _ _ logs.1.ok); err = tt }
  line_added text (Err e) is (inl logs) = record { ok = tt; err = logs.1.err.bytes ∙ append-nil _ }
  line_added text (Ok u) is (inr refused) = absurd refused.0
  line_added text (Err e) is (inr refused) = record { ok = tt; err = ap (λ (l : LineLog W S). logged_bytes I.told l) refused.1 }

  -- a printed text
  pub text_added : (reply : Result (Unit {0}) Error) → LogsText I output old reply new → AddsLine I.told output old reply new
  text_added reply (inl logs) = line_added logs.0 reply logs.1 logs.2
  text_added (Ok u) (inr refused) = absurd refused.0
  text_added (Err e) (inr refused) = record { ok = tt; err = ap (λ (l : LineLog W S). logged_bytes I.told l) refused.1 }

-- What a record adds to a log of lines.
use Rattle.std.specs.Prelude.{◌≡◌, ℕ, List, ◌++◌, Result, Option, IfSome, OnOk, OnErr}
use Rattle.no_std_io2.specs.{inner.Pieces.{Lacks}, Pieces.{newline}, Moves.{WriterState}, declared.io.Error.{Error}}
use Rattle.line_log.specs.{declared.LineLog.{LineLog}, Log.{line_of, log_tells}}

-- the bytes that the device has, followed by those that are held
abbrev pub logged_bytes : {W : Type 0} {S : ℕ} → (W → WriterState) → LineLog W S → List ℕ
logged_bytes told l = (log_tells told l).out ++ (log_tells told l).held

-- From old to new one line was added, whole, after `Ok`; nothing was after an error.
pub record AddsLine {W : Type 0} {S : ℕ} (told : W → WriterState) (output : Option (List ℕ)) (old : LineLog W S)
    (reply : Result (Unit {0}) Error) (new : LineLog W S)
    : Type 0 where
  -- the line's text is this output, if that is known, and has no newline in it
  pub ok : OnOk reply ((text : List ℕ) × IfSome output (λ bs. text ≡ bs) × Lacks newline text
      × (logged_bytes told new ≡ logged_bytes told old ++ line_of text))
  pub err : OnErr reply (logged_bytes told new ≡ logged_bytes told old)

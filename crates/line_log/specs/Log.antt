-- What a line of a log is, and what a log holds, tells and does.
use Rattle.std.specs.Prelude.{◌≡◌, ◌⊎◌, ℕ, ◌+◌, ◌<◌, ◌≤◌, List, [], ◌∷◌, ◌++◌, length, codes, Result, Ok, IfErr, OnOk, IsErrAnd, Option}
use Rattle.std.specs.Prelude.{IfSome, Contains}
use Rattle.no_std_io2.specs.{Errors.{IsNoInterruption, SaysError, error_kind}, inner.Pieces.{Lacks}, Pieces.{newline}, Writers.{Writer}}
use Rattle.no_std_io2.specs.{Moves.{WriterState, Moves}, inner.BufWriter.{Step, Then, TakesStep, SendCalls, WriteAllCalls}}
use Rattle.no_std_io2.specs.{BufWriter.{writer_inner, writer_buffer, writer_told}, declared.io.{BufWriter.{BufWriter}, Error.{Error}}}
use Rattle.no_std_io2.specs.declared.io.ErrorKind.{ErrorKind, TheVariants.{InvalidInput}}
use Rattle.line_log.specs.{Text.{SaysLong, IsPrintRefusal}, declared.LineLog.{LineLog}}

-- the bytes of a line: its text and a newline
abbrev pub line_of : List ℕ → List ℕ
line_of text = text ++ newline ∷ []

-- the text is one line, and that is shorter than a buffer of S bytes
abbrev pub IsLine : ℕ → List ℕ → Type 0
IsLine S text = Lacks newline text × (length text + 1 < S)

-- e is the error of a text that is not such a line: it is too long; or it is not, and has a newline in it
abbrev IsLineRefusal : ℕ → List ℕ → Error → Type 0
IsLineRefusal S text e = ((S ≤ length text + 1) × SaysLong e)
    ⊎ ((length text + 1 < S) × Contains text newline × SaysError InvalidInput (codes "a line has a newline in it") e)

-- a step is taken, and its error is ignored
abbrev Ignoring : Step (Unit {0}) → Step (Unit {0})
Ignoring step held C reply left = (reply ≡ Ok tt) × ((met : Result (Unit {0}) Error) × step held C met left)

-- a line x is put into the buffer, and then all is sent, as far as the device takes it
abbrev LogCalls : ℕ → List ℕ → Step (Unit {0})
LogCalls S x = Then (WriteAllCalls S x) (Ignoring SendCalls)

-- after `Ok` all of x was accepted. The writer below has all, and nothing is held; or one mishap came, and some bytes are held
abbrev pub IsLogged : WriterState → List ℕ → WriterState → List ℕ → Type 0
IsLogged old x new held = ((held ≡ []) × Moves old x [] new) ⊎ ((0 < length held) × ((k : ErrorKind) × Moves old x (k ∷ []) new))

-- A line x was logged.
pub record Logs {W : Type 0} {S : ℕ} (I : Writer W) (x : List ℕ) (old : BufWriter W S) (reply : Result (Unit {0}) Error)
    (new : BufWriter W S)
    : Type 0 where
  pub ok : OnOk reply (IsLogged (writer_told I.told old) x (writer_told I.told new) (writer_buffer new))
  -- after an error nothing of x was accepted
  pub err : IfErr reply (λ e. Moves (writer_told I.told old) [] (error_kind e ∷ []) (writer_told I.told new))
  -- the error is never an interruption
  pub fault : IsNoInterruption reply
  -- the calls of the writer below: those of a `write_all` of x, and then the sending
  pub calls : TakesStep I writer_inner writer_buffer (LogCalls S x) old reply new

-- the buffered writer
abbrev pub log_writer : {W : Type 0} {S : ℕ} → LineLog W S → BufWriter W S
log_writer l = l.inner

-- the writer below
abbrev pub log_inner : {W : Type 0} {S : ℕ} → LineLog W S → W
log_inner l = writer_inner l.inner

-- the bytes in the buffer
abbrev pub log_held : {W : Type 0} {S : ℕ} → LineLog W S → List ℕ
log_held l = writer_buffer l.inner

-- what it tells if the writer below tells `told`
abbrev pub log_tells : {W : Type 0} {S : ℕ} → (W → WriterState) → LineLog W S → WriterState
log_tells told l = writer_told told l.inner

-- `log(text)`: its line was logged; or it was refused, and the log is unchanged
abbrev pub LogsLine : {W : Type 0} {S : ℕ} → Writer W → List ℕ → LineLog W S → Result (Unit {0}) Error → LineLog W S → Type 0
LogsLine {S = S} I text old reply new = (IsLine S text × Logs I (line_of text) (log_writer old) reply (log_writer new))
    ⊎ (IsErrAnd reply (IsLineRefusal S text) × (new ≡ old))

-- `log_text(text)`, for a text with this output: it was printed and logged; or it could not be printed, and the log is unchanged
abbrev pub LogsText : {W : Type 0} {S : ℕ} → Writer W → Option (List ℕ) → LineLog W S → Result (Unit {0}) Error → LineLog W S → Type 0
LogsText {S = S} I output old reply new = ((text : List ℕ) × IfSome output (λ bs. text ≡ bs) × LogsLine I text old reply new)
    ⊎ (IsErrAnd reply (IsPrintRefusal S output) × (new ≡ old))

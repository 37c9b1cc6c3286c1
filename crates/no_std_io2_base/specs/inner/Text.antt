-- How a text is printed piece by piece, or to an object.
use Rattle.std.specs.Prelude.{◌≡◌, ◌⊎◌, ℕ, List, [], ◌++◌, Option, Result, Ok, Err, IfSome, IsErrAnd, Bool, true, false, take, length, ◌≤◌}
use Rattle.std.specs.Prelude.{◌<◌}
use Rattle.no_std_io2_base.specs.{declared.error.Error.{Error}, declared.error.ErrorKind.{ErrorKind}}
use Rattle.no_std_io2_base.specs.{declared.error.ErrorKind.TheVariants.{Other}, Errors.{error_kind, IsTextError}}
use Rattle.no_std_io2_base.specs.{inner.Errors.{IsUnwritten}, Moves.{WriterState, MovesFront}, Calls.{WriteCall}, Write.{WriteAllLaw}}

-- From old to new this text was printed to a writer, by one `write_all` after another; this is the result of the last.
pub data Prints {W : Type 0} (told : W → WriterState) (takes_all : W → Type 0) (may : W → WriteCall → W → Type 0) (old : W) : List ℕ
    → Result (Unit {0}) Error → W → Type 0 where
  none_printed : Prints told takes_all may old [] (Ok tt) old
  printed_piece : {text : List ℕ} (x : List ℕ) {reply : Result (Unit {0}) Error} {mid new : W}
      → Prints told takes_all may old text (Ok tt) mid → WriteAllLaw told takes_all may mid x reply new
      → Prints told takes_all may old (text ++ x) reply new
  -- after an error there is no call
  silent : {text : List ℕ} (x : List ℕ) {e : Error} {new : W} → Prints told takes_all may old text (Err e) new
      → Prints told takes_all may old (text ++ x) (Err e) new

-- the kind of the writer's error, or else `Other`
abbrev kind_met : Result (Unit {0}) Error → ErrorKind
kind_met (Ok _) = Other
kind_met (Err e) = error_kind e

-- the text's own `fmt` failed, after the writer had this result: the error has the kind of the writer's error
abbrev pub FailsText : Result (Unit {0}) Error → Result (Unit {0}) Error → Type 0
FailsText met reply = IsErrAnd reply (λ e. (error_kind e ≡ kind_met met) × IsTextError e)

-- The result is the writer's, and the printed bytes are the text's output, if that is specified; or the text's own `fmt` failed.
abbrev pub AnswersText : Option (List ℕ) → List ℕ → Result (Unit {0}) Error → Result (Unit {0}) Error → Type 0
AnswersText output text met reply = (IfSome output (λ bs. text ≡ bs) × (reply ≡ met)) ⊎ FailsText met reply

-- the first `len` bytes of a buffer of N bytes are this text; or `is_over` says that the text is longer than N bytes
abbrev pub HasText : ℕ → List ℕ → ℕ → Bool → List ℕ → Type 0
HasText N bytes len is_over text = (is_over ≡ false → take len bytes ≡ text) × (is_over ≡ true → N < length text)

-- From old to new a text of at most N bytes was printed to a writer, which accepted some front of it, all of it after `Ok`.
pub record PrintsShort (N : ℕ) (old : WriterState) (output : Option (List ℕ)) (reply : Result (Unit {0}) Error)
    (new : WriterState) : Type 0 where
  pub text : List ℕ
  pub short : length text ≤ N
  pub is : IfSome output (λ bs. text ≡ bs)
  pub moves : MovesFront old text reply new

-- e says that a text is longer than N bytes, or that its own `fmt` failed
abbrev pub RefusesText : ℕ → Option (List ℕ) → Error → Type 0
RefusesText N output e = (IsUnwritten e × IfSome output (λ bs. N < length bs)) ⊎ ((error_kind e ≡ Other) × IsTextError e)

-- A text of at most N bytes was printed. After an error it was not, or some front of it was; then the writer got no call.
abbrev pub PrintsOrRefuses : ℕ → WriterState → Option (List ℕ) → Result (Unit {0}) Error → WriterState → Type 0
PrintsOrRefuses N old output (Ok u) new = PrintsShort N old output (Ok u) new
PrintsOrRefuses N old output (Err e) new = PrintsShort N old output (Err e) new ⊎ (RefusesText N output e × (new ≡ old))

-- The law of `write_fmt`.
use Rattle.std.specs.Prelude.{ℕ, List, Option, Result}
use Rattle.no_std_io2_base.specs.{declared.error.Error.{Error}, Errors.{IsNoInterruption}, Moves.{WriterState, MovesFront}}
use Rattle.no_std_io2_base.specs.{Calls.{WriteCall}, inner.Write.{AcceptsAll}, inner.Text.{Prints, AnswersText}}

-- From old to new some text was printed to a writer, with the result `met`: the writer accepted a front of it, all of it after `Ok`.
pub record MovesText (old : WriterState) (output : Option (List ℕ)) (reply : Result (Unit {0}) Error) (new : WriterState) : Type 0 where
  pub text : List ℕ
  pub met : Result (Unit {0}) Error
  pub moves : MovesFront old text met new
  pub answers : AnswersText output text met reply

-- `write_fmt(text)`, for a text with this output
pub record WriteFmtLaw {W : Type 0} (told : W → WriterState) (takes_all : W → Type 0) (may : W → WriteCall → W → Type 0)
    (old : W) (output : Option (List ℕ)) (reply : Result (Unit {0}) Error) (new : W) : Type 0 where
  -- the result is never an interruption
  pub never_interrupted : IsNoInterruption reply
  -- some text is printed
  pub moves : MovesText (told old) output reply (told new)
  -- a writer that takes all still takes all
  pub all : AcceptsAll told takes_all old → ∥ AcceptsAll told takes_all new ∥₁
  -- by such calls; only that they exist is known, because the formatter chooses them
  pub calls : ∥ ((text : List ℕ) × (met : Result (Unit {0}) Error) × Prints told takes_all may old text met new
      × AnswersText output text met reply) ∥₁

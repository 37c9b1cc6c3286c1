-- Which errors a reader or a writer may fail with.
use Rattle.std.specs.Prelude.{◌≡◌, ◌<◌, ◌==◌, List, ◌++◌, count_by, Option, None, Some, ⊤}
use Rattle.no_std_io2_base.specs.{declared.error.ErrorKind.{ErrorKind}, declared.error.Error.{Error}, Errors.{error_kind, IsInterruption}}
use Rattle.no_std_io2_base.specs.{inner.Kinds.{kind_number}, Events.{Event}, inner.Events.{EndsInFault}, Moves.{WriterState}}

-- The first fault of E is e.
pub record HasFirstFault (E : List Event) (e : Error) : Type 0 where
  pub front : List Event
  pub rest : List Event
  pub split : E ≡ front ++ rest
  pub ends : EndsInFault front e

-- if the mishaps to come are told, one of them is of this kind
abbrev pub TellsMishap : Option (List ErrorKind) → ErrorKind → Type 0
TellsMishap None kind = ⊤
TellsMishap (Some kinds) kind = 0 < count_by (λ other. kind_number other == kind_number kind) kinds

-- A writer that told this may have failed with e: if mishaps were told, the kind of e is one of them; and if e is an interruption, a turn
-- was left.
pub record MayFail (told : WriterState) (e : Error) : Type 0 where
  pub mishap : TellsMishap told.mishaps (error_kind e)
  pub turn : IsInterruption e → 0 < told.turns

-- What an error prints, and the errors of single calls.
use Rattle.std.specs.Prelude.{ℕ, List, codes, Option, None, Some}
use Rattle.no_std_io2_base.specs.{declared.error.Error.{Error}, declared.error.ErrorKind.{ErrorKind}}
use Rattle.no_std_io2_base.specs.{declared.error.ErrorKind.TheVariants.{InvalidInput, WriteZero}, Errors.{error_kind, SaysError}}
use Rattle.no_std_io2_base.specs.inner.Kinds.{error_text, kind_text}

-- the text, or else the text of the kind
abbrev text_or_kind : ErrorKind → Option (List ℕ) → List ℕ
text_or_kind kind (Some text) = text
text_or_kind kind None = kind_text kind

-- what an error prints
abbrev pub error_display : Error → List ℕ
error_display e = text_or_kind (error_kind e) (error_text e)

-- e is the error of a writer that takes no byte
abbrev pub IsUnwritten : Error → Type 0
IsUnwritten e = SaysError WriteZero (codes "failed to write whole buffer") e

-- e is the error of a seek that has no target
abbrev pub IsInvalidSeek : Error → Type 0
IsInvalidSeek e = SaysError InvalidInput (codes "invalid seek to a negative or overflowing position") e

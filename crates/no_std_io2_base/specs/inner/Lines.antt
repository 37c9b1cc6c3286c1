-- Lines, which are the pieces that a newline ends, and the text of one.
use Rattle.std.specs.Prelude.{ℕ, if◌then◌else◌, ◌≡◌, List, Contains, true}
use Rattle.std.specs.{Prelude.{not, length, filter, ◌++◌, Some, Result, Ok, Err, codes, IsUtf8}, List.{concat}}
use Rattle.std.specs.Io.BufRead.{ends_with_byte, strip_last}
use Rattle.no_std_io2_base.specs.{Pieces.{newline}, inner.Pieces.{pieces_of}, declared.error.Error.{Error}}
use Rattle.no_std_io2_base.specs.{Errors.{error_kind}, inner.Kinds.{error_text}}
use Rattle.no_std_io2_base.specs.declared.error.ErrorKind.TheVariants.{InvalidData, OutOfMemory}

abbrev carriage_return : ℕ
carriage_return = 13

-- a line's text: without its newline, and without one carriage return right before that newline
abbrev pub line_text : List ℕ → List ℕ
line_text bs = if ends_with_byte newline bs then strip_last carriage_return (strip_last newline bs) else bs

-- the lines: the pieces that end in a newline, joined
unfoldable pub lines_of : List ℕ → List ℕ
lines_of xs = concat (filter (ends_with_byte newline) (pieces_of newline xs))

-- what follows the lines: the last piece, if it does not end in a newline
unfoldable pub unfinished_line : List ℕ → List ℕ
unfinished_line xs = concat (filter (λ piece. not (ends_with_byte newline piece)) (pieces_of newline xs))

-- the number of bytes up to and including the last newline, or 0 if there is none
abbrev pub lines_len : List ℕ → ℕ
lines_len xs = length (lines_of xs)

-- There is no newline, or one at the end: if any byte is a newline, the last one is.
abbrev pub IsLineState : List ℕ → Type 0
IsLineState xs = Contains xs newline → ends_with_byte newline xs ≡ true

-- e is the error of bytes that are not UTF-8
abbrev pub IsInvalidText : Error → Type 0
IsInvalidText e = (error_kind e ≡ InvalidData) × (error_text e ≡ Some (codes "stream did not contain valid UTF-8"))

-- the line is not UTF-8, and e is the error that says so
abbrev pub RefusesLine : List ℕ → Error → Type 0
RefusesLine piece e = (IsUtf8 (line_text piece) → ⊥) × IsInvalidText e

-- the bytes of a line are UTF-8, and were appended to the text
abbrev pub Follows : List ℕ → List ℕ → List ℕ → Type 0
Follows line old new = IsUtf8 line × (new ≡ old ++ line)

-- What became of the bytes before the fault f, in a text. If it is `OutOfMemory`, they are lost. If not, they were appended, unless they
-- are not UTF-8.
pub data PartStays (f : Error) (part old new : List ℕ) : Type 0 where
  out_of_memory : error_kind f ≡ OutOfMemory → new ≡ old → PartStays f part old new
  part_follows : (error_kind f ≡ OutOfMemory → ⊥) → Follows part old new → PartStays f part old new
  part_invalid : (error_kind f ≡ OutOfMemory → ⊥) → (IsUtf8 part → ⊥) → new ≡ old → PartStays f part old new

-- A line was read with the result `read`, and `reply` was returned. After `Ok` the line follows the text; or it is not UTF-8, and the text
-- does not change. A fault is the result.
abbrev pub AnswersLine : List ℕ → Result ℕ Error → Result ℕ Error → List ℕ → List ℕ → Type 0
AnswersLine line (Ok n) (Ok m) old new = Follows line old new × (m ≡ n)
AnswersLine line (Ok n) (Err e) old new = (IsUtf8 line → ⊥) × IsInvalidText e × (new ≡ old)
AnswersLine line (Err f) (Ok m) old new = ⊥
AnswersLine line (Err f) (Err e) old new = (e ≡ f) × PartStays f line old new

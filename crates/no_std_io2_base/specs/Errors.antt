-- The kind of an error, and the errors that the library makes.
use Rattle.std.specs.Prelude.{◌≡◌, ℕ, true, false, List, codes, None, Some, Result, IfErr}
use Rattle.no_std_io2_base.specs.{declared.error.Error.{Error}, declared.error.Repr.{Repr}, declared.error.Repr.TheVariants.{Kind, Custom}}
use Rattle.no_std_io2_base.specs.{declared.error.ErrorKind.{ErrorKind}, declared.error.ErrorKind.TheVariants.{UnexpectedEof, OutOfMemory}}
use Rattle.no_std_io2_base.specs.inner.Kinds.{error_text, is_interruption}

-- the kind of either form
abbrev repr_kind : Repr → ErrorKind
repr_kind (Kind kind) = kind
repr_kind (Custom kind _) = kind

-- the result of `e.kind()`
abbrev pub error_kind : Error → ErrorKind
error_kind e = repr_kind e.repr

-- e has this kind and this text
abbrev pub SaysError : ErrorKind → List ℕ → Error → Type 0
SaysError kind text e = (error_kind e ≡ kind) × (error_text e ≡ Some text)

-- e is an interruption: the call accepted and gave no byte, and may be made again
abbrev pub IsInterruption : Error → Type 0
IsInterruption e = is_interruption (error_kind e) ≡ true

-- e is a fault: every error that is no interruption
abbrev pub IsFault : Error → Type 0
IsFault e = is_interruption (error_kind e) ≡ false

-- the result is no interruption
abbrev pub IsNoInterruption : {T : Type 0} → Result T Error → Type 0
IsNoInterruption reply = IfErr reply IsFault

-- e is the error of a failed allocation: `OutOfMemory`, without a text
abbrev pub IsOutOfMemory : Error → Type 0
IsOutOfMemory e = (error_kind e ≡ OutOfMemory) × (error_text e ≡ None)

-- e is the error of bytes that end too early
abbrev pub IsUnexpectedEnd : Error → Type 0
IsUnexpectedEnd e = SaysError UnexpectedEof (codes "failed to fill whole buffer") e

-- the error says that the text's own `fmt` failed
abbrev pub IsTextError : Error → Type 0
IsTextError e = error_text e ≡ Some (codes "formatter error")

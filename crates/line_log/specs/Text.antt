-- The printing of a text into an array.
use Rattle.std.specs.Prelude.{◌≡◌, ◌⊎◌, ℕ, ◌<◌, List, length, take, true, false, codes, Option, IfSome}
use Rattle.no_std_io2.specs.{Errors.{SaysError}, declared.io.{Error.{Error}, ErrorKind.TheVariants.{InvalidInput, Other}}}
use Rattle.line_log.specs.declared.printed.Printed.{Printed}

-- the bytes that were printed
abbrev pub printed_bytes : {S : ℕ} → Printed S → List ℕ
printed_bytes p = take p.len p.bytes

-- this text was printed into the array; or it is longer
abbrev pub IsPrinted : {S : ℕ} → List ℕ → Printed S → Type 0
IsPrinted {S} text p = ((p.fits ≡ true) × (printed_bytes p ≡ text)) ⊎ ((p.fits ≡ false) × (S < length text))

-- e is the error of a line that is not shorter than the buffer
abbrev pub SaysLong : Error → Type 0
SaysLong e = SaysError InvalidInput (codes "a line is longer than the buffer") e

-- a text with this output could not be printed into S bytes: its own `fmt` failed, or it is longer
abbrev pub IsPrintRefusal : ℕ → Option (List ℕ) → Error → Type 0
IsPrintRefusal S output e = SaysError Other (codes "formatter error") e ⊎ (SaysLong e × IfSome output (λ bs. S < length bs))

-- a text with this output was printed into an array of S bytes, or its own `fmt` failed
abbrev pub PrintsText : {S : ℕ} → Option (List ℕ) → Printed S → Type 0
PrintsText output p = (p.failed ≡ true) ⊎ IfSome output (λ bs. IsPrinted bs p)

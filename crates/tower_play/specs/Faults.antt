-- What a fault prints, and what holds for it.
use Rattle.std.specs.{Prelude.{ℕ, ◌<◌, codes, List, ◌++◌, ⊤}, Fmt.{decimal}}
use Rattle.no_std_io2.specs.{declared.io.Error.{Error}, inner.Errors.{error_display}}
use Rattle.tower_play.specs.declared.playing.Fault.{Fault, TheVariants.{Io, Line}}

-- an error prints its own text
abbrev pub fault_display : Fault → List ℕ
fault_display (Io e) = error_display e
fault_display (Line n) = codes "bad line " ++ decimal n

-- lines are numbered from 1
abbrev pub IsNumbered : Fault → Type 0
IsNumbered (Io e) = ⊤
IsNumbered (Line n) = 0 < n

-- P holds for the error of a fault that is no bad line
abbrev pub IfIo : (Error → Type 0) → Fault → Type 0
IfIo P (Io e) = P e
IfIo P (Line n) = ⊤

-- P holds for the number of a bad line
abbrev pub IfLine : (ℕ → Type 0) → Fault → Type 0
IfLine P (Io e) = ⊤
IfLine P (Line n) = P n

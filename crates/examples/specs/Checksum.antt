-- What a checksum of a reader says.
use Rattle.std.specs.Prelude.{◌≡◌, ◌%◌, ◌^◌, ℕ, List, sum, Result, Ok, Err, false}
use Rattle.no_std_io2.specs.{declared.io.Error.{Error}, Reads.{Fetches}, Takes.{Reader}}

-- Bytes were read up to the end, and s is their sum; or up to the first fault. After that no read was made.
abbrev pub SumsAll : {X : Type 0} → Reader X → X → Result ℕ Error → X → Type 0
SumsAll R old (Ok s) new = (bytes : List ℕ) × Fetches R old bytes (Ok false) new × (s % 2 ^ 64 ≡ sum bytes % 2 ^ 64)
SumsAll R old (Err e) new = (bytes : List ℕ) × Fetches R old bytes (Err e) new

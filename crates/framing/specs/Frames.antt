-- What a frame is.
use Rattle.std.specs.{Prelude.{◌≡◌, ◌⊎◌, ℕ, ◌+◌, ◌<◌, ◌≤◌, List, ◌++◌, length, take, map, codes}, List.{concat}, Int.{w32, to_le_bytes}}
use Rattle.std.specs.Int.{from_le_bytes}
use Rattle.no_std_io2.specs.{Errors.{SaysError}, declared.io.{Error.{Error}, ErrorKind.TheVariants.{UnexpectedEof}}}

-- a frame: the length of its payload, as a little-endian number of four bytes, and then the payload
abbrev pub frame : List ℕ → List ℕ
frame payload = to_le_bytes w32 (length payload) ++ payload

-- the frames of these payloads, one after another
abbrev pub frames : List (List ℕ) → List ℕ
frames payloads = concat (map frame payloads)

-- the length of the payload, as the first four bytes say
abbrev pub told_length : List ℕ → ℕ
told_length bs = from_le_bytes w32 (take 4 bs)

-- the beginning of a frame, but not the whole of it
abbrev pub IsPart : List ℕ → Type 0
IsPart bs = (length bs < 4) ⊎ (length bs < 4 + told_length bs)

-- these bytes begin with the header of a payload of this length
abbrev pub HasHeader : ℕ → List ℕ → Type 0
HasHeader len bs = (4 ≤ length bs) × (told_length bs ≡ len) × (take 4 bs ≡ to_le_bytes w32 len)

-- e is the error of bytes that end inside a frame
abbrev pub SaysEnded : Error → Type 0
SaysEnded e = SaysError UnexpectedEof (codes "the bytes end inside a frame") e

-- The parts of the header of a chunk.
use Rattle.no_std_io2.proofs.{Words.{◌≡◌, ℕ, List, ◌++◌, ap, ◌∙◌, append_assoc, Event, events_of}, TakesLemmas.{events_of-append}}
use Rattle.byteorder.specs.Endian.{big_bytes}
use Rattle.numbers.specs.ChunkHeaders.{chunk_header}

-- the kind comes first, and then the length
pub header_parts : (kind len : ℕ) (rest : List Event)
    → events_of (chunk_header kind len) ++ rest ≡ events_of (big_bytes 2 kind) ++ (events_of (big_bytes 4 len) ++ rest)
header_parts kind len rest = ap (λ l. l ++ rest) (events_of-append (big_bytes 2 kind) (big_bytes 4 len))
    ∙ append_assoc (events_of (big_bytes 2 kind)) (events_of (big_bytes 4 len)) rest

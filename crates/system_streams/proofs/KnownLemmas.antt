-- What one read takes of the events, as a reader of the system's says it.
use Rattle.std.{proofs.{Common.{arith}, lemmas.Grind.{common_steps}}, specs.{Prelude.{option_map}, Option.{IfSome}}}
use Rattle.std.specs.Io.KnownBytes.{Consumes, Keeps, ReadConsumes, IsAtEnd as IsKnownEnd}
use Rattle.no_std_io2.proofs.Words.{◌≡◌, ℕ, List, [], ◌∷◌, Option, Result, Event, fails, events_of, event_bytes, AreTaken, Reader, tells}
use Rattle.no_std_io2.{proofs.{Words.{ReadLaw}, TakesLemmas.{bytes-append, bytes-events_of}}, specs.declared.io.Error.{Error}}
use Rattle.system_streams.specs.ToStd.{SameAnswer, bytes_to_come}
use Rattle.std.specs.declared.io.Error as Std

-- the bytes of events that are gone are gone from the bytes
gone : (E F : Option (List Event)) (P : List Event) → AreTaken E P F
    → Consumes (option_map event_bytes E) (option_map event_bytes F) (event_bytes P)
gone E F P taken = grind (arith, common_steps, bytes-append)

-- an error that is gone leaves the bytes
kept : (E F : Option (List Event)) (e : Error) → AreTaken E (fails e ∷ []) F → Keeps (option_map event_bytes E) (option_map event_bytes F)
kept E F e taken = grind (arith, common_steps)

-- at the end no bytes are left
at_end : (F : Option (List Event)) → IfSome F (λ E. E ≡ []) → IsKnownEnd (option_map event_bytes F)
at_end F end = grind (arith, common_steps)

-- a read consumes the bytes that it gives, and keeps all at an error
pub consumes_bytes : {X : Type 0} {R : Reader X} {old new : X} {buf buf' : List ℕ} (reply : Result ℕ Error) (result : Result ℕ Std.Error)
    → ReadLaw R old buf reply buf' new → SameAnswer reply result
    → ReadConsumes (bytes_to_come (tells R old)) (bytes_to_come (tells R new)) result buf'
consumes_bytes reply result read same =
    grind (arith, common_steps, at_end, bytes-events_of, events_of, gone, kept)

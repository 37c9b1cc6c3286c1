-- What a reader of frames gives back of the frames that a writer sent.
use Rattle.std.specs.Prelude.{◌≡◌, ◌⊎◌, ℕ, ◌<◌, List, [], ◌∷◌, ◌++◌, length, take, Option, Some, None, Result, Ok, Err, IfSome, IsSomeAnd}
use Rattle.no_std_io2.specs.{Events.{Event, event_bytes}, inner.Events.{first_fault}, Moves.{WriterState, Moves}}
use Rattle.no_std_io2.specs.declared.io.{Error.{Error}, ErrorKind.{ErrorKind}}
use Rattle.framing.specs.{Frames.{frames}, Taking.{SaysNoRoom}}

-- events are told, and their bytes are the frames of these payloads
abbrev pub AreToCome : List (List ℕ) → Option (List Event) → Type 0
AreToCome payloads told = IsSomeAnd told (λ E. event_bytes E ≡ frames payloads)

-- the first of these payloads is longer than `limit`, and e says so
abbrev RefusesFirst : ℕ → List (List ℕ) → Error → Type 0
RefusesFirst limit payloads e = (p : List ℕ) × (more : List (List ℕ)) × (payloads ≡ p ∷ more) × (limit < length p) × SaysNoRoom e

-- The frames of `sent` were to come. The payload of the first was given, and the others are to come; or there was none; or an error came,
-- the first fault of the events before or the refusal of the first payload, and all are still to come.
abbrev pub GivesBack : ℕ → List (List ℕ) → Option (List Event) → Result (Option ℕ) Error → List ℕ → Option (List Event) → Type 0
GivesBack limit sent before (Ok (Some n)) room after = (more : List (List ℕ)) × (sent ≡ take n room ∷ more) × AreToCome more after
GivesBack limit sent before (Ok None) room after = (sent ≡ []) × AreToCome [] after
GivesBack limit sent before (Err e) room after =
    AreToCome sent after × (IfSome before (λ E. first_fault E ≡ Some e) ⊎ RefusesFirst limit sent e)

-- A writer that held nothing accepted the frames of `sent`, whatever happened meanwhile. Then it held nothing, and these bytes had
-- gone out.
pub record WentOut (old : WriterState) (sent : List (List ℕ)) (new : WriterState) (bs : List ℕ) : Type 0 where
  pub happened : List ErrorKind
  pub moves : Moves old (frames sent) happened new
  pub empty : old.held ≡ []
  pub flushed : new.held ≡ []
  pub out : new.out ≡ old.out ++ bs

-- What is to come, by a store or by events, and what is gone from it.
use Rattle.std.specs.Prelude.{ℕ, List, [], Option, None, Some, ◌≡◌, ◌<◌, ◌^◌, ◌++◌, length, drop, ⊤, Bool, true, false, ◌&&◌, nat_lt, refl}
use Rattle.std.proofs.lemmas.Bool.Decides.{Decides-and, Decides-ltb}
use Rattle.no_std_io2_base.specs.Events.{Event, event_bytes, events_of, Store}

-- whether this length and this position fit
abbrev pub fits_u64 : List ℕ → ℕ → Bool
fits_u64 content position = nat_lt (length content) (2 ^ 64) && nat_lt position (2 ^ 64)

-- the proof that both fit, from that test
pub fits_by : (content : List ℕ) (position : ℕ) → fits_u64 content position ≡ true → (length content < 2 ^ 64) × (position < 2 ^ 64)
fits_by content position = (Decides-and _ _ (Decides-ltb (length content) (2 ^ 64)) (Decides-ltb position (2 ^ 64))).0

-- the store of this content and this position, if this test is true, which says that both fit
abbrev pub store_by : (t : Bool) (content : List ℕ) (position : ℕ) → (t ≡ true → (length content < 2 ^ 64) × (position < 2 ^ 64))
    → Option Store
store_by true content position fits = Some (record { content = content; position = position; fits = fits refl })
store_by false content position fits = None

-- the bytes of a store from its position on; or, without a store, these events
abbrev pub events_by : Option Store → Option (List Event) → Option (List Event)
events_by None E = E
events_by (Some s) E = Some (events_of (drop s.position s.content))

-- If events were told, they still are, and P is gone from their front.
abbrev pub AreTaken : Option (List Event) → List Event → Option (List Event) → Type 0
AreTaken None P new = ⊤
AreTaken (Some E) P None = ⊥
AreTaken (Some E) P (Some after) = E ≡ P ++ after

-- the bytes of these events, or none if no events are told
abbrev pub told_bytes : Option (List Event) → List ℕ
told_bytes None = []
told_bytes (Some E) = event_bytes E

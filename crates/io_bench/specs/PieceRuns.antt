-- The items of a whole `split` or `lines`.
use Rattle.std.specs.{Prelude.{◌≡◌, ℕ, ◌⊎◌, ◌<◌, List, ◌∷◌, ◌++◌, length, map, Option, None, Some, Result, Ok, Err}, List.{concat}}
use Rattle.no_std_io2.specs.{declared.io.Error.{Error}, Errors.{IsOutOfMemory}, Events.{Event, event_bytes, HasNoFault}}
use Rattle.no_std_io2.specs.{inner.Events.{bytes_to_fault, first_fault}, Calls.{Made}, inner.Pieces.{pieces_of, pieces_given}}

-- no fault was to come, and these are the pieces of all bytes, trimmed
pub record AllPieces (trim : List ℕ → List ℕ) (d : ℕ) (E : List Event) (items : List (List ℕ)) : Type 0 where
  pub no_fault : HasNoFault E
  pub are : items ≡ map trim (pieces_of d (event_bytes E))

-- e is the first fault, and these are the pieces that a d ended before it, trimmed
pub record PiecesToFault (trim : List ℕ → List ℕ) (d : ℕ) (E : List Event) (e : Error) (items : List (List ℕ)) : Type 0 where
  pub fault : first_fault E ≡ Some e
  pub are : items ≡ map trim (pieces_given d E)

-- these are the pieces, trimmed, before one that is refused with the error e
pub record PiecesToRefused (trim : List ℕ → List ℕ) (refuses : List ℕ → Error → Type 0) (d : ℕ) (E : List Event)
    (e : Error) (items : List (List ℕ)) : Type 0 where
  pub before : List (List ℕ)
  pub piece : List ℕ
  pub behind : List (List ℕ)
  pub given : pieces_given d E ≡ before ++ piece ∷ behind
  pub refused : refuses piece e
  pub are : items ≡ map trim before

-- an allocation failed, and these are the first pieces, trimmed: the list of items was full, or a new piece had no room
-- for a byte that was to come
pub record PiecesToMemory (trim : List ℕ → List ℕ) (full : Type 0) (d : ℕ) (E : List Event) (e : Error) (items : List (List ℕ))
    : Type 0 where
  pub before : List (List ℕ)
  pub behind : List (List ℕ)
  pub given : pieces_given d E ≡ before ++ behind
  pub refused : IsOutOfMemory e
  pub short : full ⊎ (length (concat before) < length (bytes_to_fault E))
  pub are : items ≡ map trim before

-- a whole run over a reader with these events gave these items, and this result
abbrev pub GathersPieces : {A : Type 0} → (List ℕ → List ℕ) → (List ℕ → Error → Type 0) → Type 0 → ℕ → List Event
    → Result A Error → List (List ℕ) → Type 0
GathersPieces trim refuses full d E (Ok _) items = AllPieces trim d E items
GathersPieces trim refuses full d E (Err e) items =
    PiecesToFault trim d E e items ⊎ (PiecesToRefused trim refuses d E e items ⊎ PiecesToMemory trim full d E e items)

-- Each of these items was yielded by one `next`, in order. The `next` that ended the run was the last call; if an
-- allocation of the run failed, there was none, and the list of items was full.
abbrev pub RunsNexts : {X T A : Type 0} → (X → Option (Result T Error) → X → Type 0) → Type 0 → X → List T → Result A Error → X → Type 0
RunsNexts {X} next full old items (Ok _) new = (mid : X) × Made (λ s x t. next s (Some (Ok x)) t) old items mid × next mid None new
RunsNexts {X} next full old items (Err e) new = (mid : X) × Made (λ s x t. next s (Some (Ok x)) t) old items mid
    × (next mid (Some (Err e)) new ⊎ (IsOutOfMemory e × full × (new ≡ mid)))

-- What is cut off received bytes.
use Rattle.std.specs.Prelude.{◌≡◌, ◌⊎◌, ℕ, ◌<◌, ◌≤◌, List, [], ◌∷◌, ◌++◌, length, take, drop}
use Rattle.bare.specs.{Status.{status_done, status_full, status_partial, status_refused}, Queue.{queue_capacity}}

-- the bytes begin with a message of this length, of which some bytes may be missing
abbrev Begins : ℕ → List ℕ → Type 0
Begins len bytes = (rest : List ℕ) × (bytes ≡ len ∷ rest)

-- not all of a message is there, and it fits a queue and the room
abbrev IsPartial : List ℕ → List ℕ → Type 0
IsPartial bytes room = (bytes ≡ [])
    ⊎ ((len : ℕ) × (rest : List ℕ) × (bytes ≡ len ∷ rest) × (length rest < len) × (len < queue_capacity) × (len ≤ length room))

-- the message is gone from the bytes, and at the front of the room
pub record IsReceived (bytes room bytes' room' : List ℕ) (len : ℕ) : Type 0 where
  pub fits : len ≤ length room
  pub gone : bytes ≡ len ∷ (take len room' ++ bytes')
  pub rest : drop len room' ≡ drop len room

-- why a message is not given
abbrev IsWithheld : List ℕ → List ℕ → ℕ → ℕ → ℕ → Type 0
IsWithheld bytes room status len len' = ((status ≡ status_partial) × IsPartial bytes room × (len' ≡ len))
    ⊎ ((status ≡ status_full) × Begins len' bytes × (length room < len') × (len' < queue_capacity))
    ⊎ ((status ≡ status_refused) × ((big : ℕ) × Begins big bytes × (queue_capacity ≤ big)) × (len' ≡ len))

-- A message was received, or it is withheld and all is as it was.
abbrev pub Receives : List ℕ → List ℕ → ℕ → ℕ → List ℕ → List ℕ → ℕ → Type 0
Receives bytes room len status bytes' room' len' = ((status ≡ status_done) × IsReceived bytes room bytes' room' len')
    ⊎ (IsWithheld bytes room status len len' × (bytes' ≡ bytes) × (room' ≡ room))

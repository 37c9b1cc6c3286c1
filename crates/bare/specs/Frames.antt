-- What is cut off received bytes, if they are frames.
use Rattle.std.specs.Prelude.{◌≡◌, ◌⊎◌, ℕ, ◌+◌, ◌-◌, ◌<◌, ◌≤◌, List, ◌++◌, length, take, drop}
use Rattle.framing.specs.Frames.{frame, told_length, IsPart}
use Rattle.bare.specs.{Status.{status_done, status_full, status_partial, status_refused}, Queue.{queue_capacity}}

-- the length of a payload is there, and no queue can hold its frame
abbrev IsTooBig : List ℕ → Type 0
IsTooBig bytes = (4 ≤ length bytes) × (queue_capacity < 4 + told_length bytes)

-- the length of a payload is there, and a queue can hold its frame
abbrev CanCome : List ℕ → Type 0
CanCome bytes = (4 ≤ length bytes) × (4 + told_length bytes ≤ queue_capacity)

-- Why a frame is not given. Only if a queue can hold it, does the room count; and only if it fits the room, is it
-- waited for.
abbrev IsHeldBack : List ℕ → ℕ → ℕ → Type 0
IsHeldBack bytes size status = ((status ≡ status_refused) × IsTooBig bytes)
    ⊎ ((status ≡ status_full) × CanCome bytes × (size < told_length bytes))
    ⊎ ((status ≡ status_partial) × IsPart bytes
    × (4 ≤ length bytes → (4 + told_length bytes ≤ queue_capacity) × (told_length bytes ≤ size)))

-- A frame was taken, whose payload is at the front of the room; or it is not given, and nothing changed.
abbrev pub Unframes : List ℕ → List ℕ → ℕ → ℕ → List ℕ → List ℕ → ℕ → Type 0
Unframes bytes room len status bytes' room' len' =
    ((status ≡ status_done) × (bytes ≡ frame (take len' room') ++ bytes') × (len' ≤ length room) × (drop len' room' ≡ drop len' room))
    ⊎ (IsHeldBack bytes (length room) status × (bytes' ≡ bytes) × (room' ≡ room) × (len' ≡ len))

-- How many bytes of a frame are to be dropped. If none was dropped yet, its length says it.
abbrev pub IsToDrop : List ℕ → ℕ → ℕ → Type 0
IsToDrop bytes left all = ((0 < left) × (all ≡ left)) ⊎ ((left ≡ 0) × (4 ≤ length bytes) × (all ≡ 4 + told_length bytes))

-- What has come of a frame was dropped; or its length has not come, and nothing changed.
abbrev pub Skips : List ℕ → ℕ → ℕ → List ℕ → ℕ → Type 0
Skips bytes left status bytes' left' =
    ((all : ℕ) × IsToDrop bytes left all × (bytes' ≡ drop all bytes) × (left' ≡ all - length bytes)
    × (((status ≡ status_done) × (left' ≡ 0)) ⊎ ((status ≡ status_partial) × (0 < left'))))
    ⊎ ((status ≡ status_partial) × (left ≡ 0) × (length bytes < 4) × (bytes' ≡ bytes) × (left' ≡ 0))

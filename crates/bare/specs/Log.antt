-- What a log does.
use Rattle.std.specs.Prelude.{◌≡◌, ◌⊎◌, ℕ, ◌+◌, ◌<◌, ◌≤◌, List, [], ◌∷◌, ◌++◌, length, Contains}
use Rattle.no_std_io2.specs.{inner.Pieces.{Lacks}, Pieces.{newline}}
use Rattle.bare.specs.{Status.{status_kept, status_full, status_refused}, Queue.{queue_capacity}, Kept.{Resumes}}

-- the line of a text
abbrev pub line : List ℕ → List ℕ
line text = text ++ newline ∷ []

-- a text can be a line
abbrev IsShortLine : List ℕ → Type 0
IsShortLine text = Lacks newline text × (length text < queue_capacity)

-- a text can't be a line
abbrev IsNoLine : List ℕ → Type 0
IsNoLine text = Contains text newline ⊎ (queue_capacity ≤ length text)

-- A line was logged: it waits behind the kept bytes, and they are sent. Or it can't be a line, and nothing changed. Or
-- it can, the port is full, it does not fit beside what is still kept, and only the kept bytes were sent.
abbrev pub LogsThrough : List ℕ → List ℕ → List ℕ → ℕ → List ℕ → List ℕ → Type 0
LogsThrough text waiting port status waiting' port' =
    (IsShortLine text × Resumes (waiting ++ line text) port status waiting' port')
    ⊎ ((status ≡ status_refused) × IsNoLine text × (waiting' ≡ waiting) × (port' ≡ port))
    ⊎ ((status ≡ status_full) × IsShortLine text × (queue_capacity < length waiting' + length (line text))
    × Resumes waiting port status_kept waiting' port')

-- What goes to a port, behind what is kept.
use Rattle.std.specs.Prelude.{◌≡◌, ◌⊎◌, ℕ, ◌+◌, ◌<◌, ◌≤◌, List, [], ◌++◌, length, Result, Ok, Err}
use Rattle.no_std_io2.specs.Moves.{IsFront}
use Rattle.bare.specs.{Status.{status_done, status_kept, status_full, status_refused}, declared.queue.Queue.{Queue}}
use Rattle.bare.specs.Queue.{waiting, queue_capacity}

-- The waiting bytes went to the port, in order: all of them, or as many as the port took until it was full. The others
-- are kept.
pub record Resumes (waiting port : List ℕ) (status : ℕ) (waiting' port' : List ℕ) : Type 0 where
  -- what is in the port stays there
  pub front : IsFront port port'
  -- no byte is lost, repeated or moved
  pub order : port' ++ waiting' ≡ port ++ waiting
  pub ends : ((status ≡ status_done) × (waiting' ≡ [])) ⊎ ((status ≡ status_kept) × (0 < length waiting') × (length port' ≡ queue_capacity))

-- the status of a sending
abbrev pub resume_status : {E : Type 0} → Result (Unit {0}) E → ℕ
resume_status (Ok u) = status_done
resume_status (Err e) = status_kept

-- The port has all that was kept, and these bytes behind it. Or these bytes fit into a queue, but not there; then only
-- kept bytes went to the port, as many as it took.
abbrev pub AppendsOrNot : List ℕ → Queue → Queue → ℕ → Queue → Queue → Type 0
AppendsOrNot bytes kept port status kept' port' =
    ((status ≡ status_done) × (waiting kept' ≡ []) × (waiting port' ≡ waiting port ++ waiting kept ++ bytes))
    ⊎ ((status ≡ status_full) × (length bytes ≤ queue_capacity)
    × (queue_capacity < length (waiting port) + length (waiting kept) + length bytes)
    × ((ended : ℕ) × Resumes (waiting kept) (waiting port) ended (waiting kept') (waiting port')))

-- nothing changed
abbrev IsSame : Queue → Queue → Queue → Queue → Type 0
IsSame kept port kept' port' = (kept' ≡ kept) × (port' ≡ port)

-- bytes were appended, or not; or they are more than a queue has room for, and nothing changed
abbrev pub Appends : List ℕ → Queue → Queue → ℕ → Queue → Queue → Type 0
Appends bytes kept port status kept' port' = AppendsOrNot bytes kept port status kept' port'
    ⊎ ((status ≡ status_refused) × (queue_capacity < length bytes) × IsSame kept port kept' port')

-- A text was printed and appended, or not; or it was not printed, and nothing changed. Why not is not said: no `fmt`
-- says when it fails.
abbrev pub PrintsOrNot : List ℕ → Queue → Queue → ℕ → Queue → Queue → Type 0
PrintsOrNot text kept port status kept' port' =
    AppendsOrNot text kept port status kept' port' ⊎ ((status ≡ status_refused) × IsSame kept port kept' port')

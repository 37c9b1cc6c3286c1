-- How many writes a list of calls counts as, and what a filling reader gives.
use Rattle.std.specs.Prelude.{ℕ, ◌+◌, List, [], ◌∷◌, ◌≡◌, zero, suc, min, length, ⊤, Result, Some, IsOkAnd, nat_lt, if◌then◌else◌}
use Rattle.no_std_io2_base.specs.{Calls.{WriteCall, Wrote, WroteAll, Flushed}, declared.error.Error.{Error}, Events.{events_of}}
use Rattle.no_std_io2_base.specs.{Takes.{to_come, Reader, tells, bytes_left}, inner.Read.{GaveLaw}}

-- how many writes pass these bytes on, if the writer takes all: 1, or 0 if there are no bytes
abbrev pub calls_for : List ℕ → ℕ
calls_for x = if nat_lt 0 (length x) then 1 else 0

-- How many writes a call counts as. A `write_all` of a type that has a body of its own for it counts as one, or as none for no bytes.
-- A flush does not count.
abbrev pub charge : WriteCall → ℕ
charge (Wrote x reply) = 1
charge (WroteAll x reply) = calls_for x
charge (Flushed reply) = 0

-- how many writes these calls count as
abbrev pub charges : List WriteCall → ℕ
charges [] = 0
charges (call ∷ C) = charge call + charges C

-- In this state, and after each but the last of n reads in a row, the reader tells that only bytes are to come, and a `read` gives as many
-- of them as fit.
abbrev pub FillsFor : {X : Type 0} → Reader X → ℕ → X → Type 0
FillsFor R zero x = ⊤
FillsFor {X} R (suc n) x = (to_come (tells R x) ≡ Some (events_of (bytes_left R x)))
    × ((room : ℕ) (answer : Result (List ℕ) Error) (after : X) → GaveLaw R x room answer after
    → IsOkAnd answer (λ g. length g ≡ min room (length (bytes_left R x))) × FillsFor R n after)

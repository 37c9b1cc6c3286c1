-- Which mishaps are gone.
use Rattle.std.specs.Prelude.{◌≤◌, ◌+◌, ℕ, List, length, Option, Some, None, ⊤, Bool, count_by}
use Rattle.no_std_io2_base.specs.declared.error.ErrorKind.{ErrorKind}

-- If mishaps were told, they still are, and those that happened are gone: whichever kinds are counted, at least as many
-- are gone as happened.
abbrev pub HasSpent : Option (List ErrorKind) → List ErrorKind → Option (List ErrorKind) → Type 0
HasSpent None happened new = ⊤
HasSpent (Some old) happened None = ⊥
HasSpent (Some old) happened (Some new) =
    (counted : ErrorKind → Bool) → count_by counted new + count_by counted happened ≤ count_by counted old

-- told mishaps stay told, and at least n - left of them are gone
abbrev pub HasSpentTries : ℕ → ℕ → Option (List ErrorKind) → Option (List ErrorKind) → Type 0
HasSpentTries n left None new = ⊤
HasSpentTries n left (Some old) None = ⊥
HasSpentTries n left (Some old) (Some new) = length new + n ≤ length old + left

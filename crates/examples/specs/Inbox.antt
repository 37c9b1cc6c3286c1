-- What a read does to a reader with a budget of turns.
use Rattle.std.specs.Prelude.{◌≡◌, ◌⊎◌, ◌<◌, ℕ, List, [], ◌++◌, Ok, Err}
use Rattle.no_std_io2.specs.{declared.io.ErrorKind.{ErrorKind, TheVariants.{TimedOut, WouldBlock}}, Errors.{error_kind}}
use Rattle.no_std_io2.specs.Calls.{ReadCall, Gave}
use Rattle.examples.specs.declared.inbox.Inbox.{Inbox}

-- of what kind an error is: `TimedOut` at the last turn, and before it `WouldBlock`
abbrev IsInboxError : ErrorKind → ℕ → Type 0
IsInboxError kind turns = ((kind ≡ TimedOut) × (turns ≡ 0)) ⊎ ((kind ≡ WouldBlock) × (0 < turns))

-- A read gives the bytes that the source gave. It gives none only if there is no room, or if no turns were left.
abbrev pub InboxMay : {X : Type 0} → (X → List ℕ) → Inbox X → ReadCall → Inbox X → Type 0
InboxMay given old (Gave room (Ok x)) new =
    (given new.source ≡ given old.source ++ x) × (x ≡ [] → (room ≡ 0) ⊎ (old.turns ≡ 0))
InboxMay given old (Gave room (Err e)) new = (given new.source ≡ given old.source) × IsInboxError (error_kind e) new.turns
InboxMay given old _ new = ⊥

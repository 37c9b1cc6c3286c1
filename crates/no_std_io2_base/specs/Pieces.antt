-- How a call that takes one piece ends, and which pieces a reader gave.
use Rattle.std.specs.Prelude.{◌≡◌, ℕ, List, Option, IfSome, IsSomeAnd}
use Rattle.no_std_io2_base.specs.{declared.error.Error.{Error}}
use Rattle.no_std_io2_base.specs.{inner.Events.{first_fault}, Takes.{ReaderState, to_come}}
use Rattle.no_std_io2_base.specs.inner.Pieces.{pieces_given, GivesFirst}

-- the bytes that end a line
abbrev pub newline : ℕ
newline = 10

-- From old to new a reader gave these pieces, if it tells its events.
pub record GivesPieces (d : ℕ) (old : ReaderState) (ps : List (List ℕ)) (new : ReaderState) : Type 0 where
  pub told : IfSome (to_come old) (λ E. IsSomeAnd (to_come new) (GivesFirst d E ps))

-- these are all pieces that a reader gives, and then this fault comes, or none, if it tells its events
abbrev pub AreAllPieces : ℕ → ReaderState → List (List ℕ) → Option Error → Type 0
AreAllPieces d t ps fault = IfSome (to_come t) (λ E. (pieces_given d E ≡ ps) × (first_fault E ≡ fault))

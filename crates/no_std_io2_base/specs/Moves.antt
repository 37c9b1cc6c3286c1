-- What a writer tells, and what calls do to that.
use Rattle.std.specs.Prelude.{◌≡◌, ℕ, ◌+◌, ◌≤◌, List, [], ◌∷◌, ◌++◌, Option, None, Result, Ok, Err, OnOk, count_by}
use Rattle.no_std_io2_base.specs.{declared.error.Error.{Error}, declared.error.ErrorKind.{ErrorKind}, Errors.{error_kind}}
use Rattle.no_std_io2_base.specs.{inner.Kinds.{is_interruption}, inner.Moves.{HasSpent}}

-- What a writer tells.
pub record WriterState : Type 0 where
  -- the bytes that are out: the device has them
  pub out : List ℕ
  -- the bytes that it has accepted and that are not out yet
  pub held : List ℕ
  -- the mishaps to come, in any order, if it tells them
  pub mishaps : Option (List ErrorKind)
  -- an upper bound on the interruptions to come
  pub turns : ℕ

-- what a writer tells that holds nothing, has these bytes out, and does not tell its mishaps
abbrev pub told_out : List ℕ → WriterState
told_out bytes = record { out = bytes; held = []; mishaps = None; turns = 0 }

-- whole begins with front
abbrev pub IsFront : List ℕ → List ℕ → Type 0
IsFront front whole = (rest : List ℕ) × (whole ≡ front ++ rest)

-- From old to new a writer accepted these bytes, and these mishaps happened.
pub record Moves (old : WriterState) (accepted : List ℕ) (happened : List ErrorKind) (new : WriterState) : Type 0 where
  -- what is out stays out
  pub front : IsFront old.out new.out
  -- no byte is lost, repeated or moved
  pub bytes : new.out ++ new.held ≡ old.out ++ old.held ++ accepted
  -- the mishaps that happened are no longer to come
  pub mishaps : HasSpent old.mishaps happened new.mishaps
  -- an interruption spends a turn
  pub turns : new.turns + count_by is_interruption happened ≤ old.turns

-- the mishap that a result of `write_all` or `flush` counts as, if it is one
abbrev pub call_mishap : Result (Unit {0}) Error → List ErrorKind
call_mishap (Ok u) = []
call_mishap (Err e) = error_kind e ∷ []

-- From old to new a writer accepted some front of x, all of it after `Ok`.
pub record MovesFront (old : WriterState) (x : List ℕ) (reply : Result (Unit {0}) Error) (new : WriterState) : Type 0 where
  pub accepted : List ℕ
  pub front : IsFront accepted x
  pub whole : OnOk reply (accepted ≡ x)
  pub moves : Moves old accepted (call_mishap reply) new

-- From old to new a writer accepted exactly what is gone from the front of `rest`.
pub record Sends (old : WriterState) (rest : List ℕ) (reply : Result (Unit {0}) Error) (new : WriterState) (left : List ℕ) : Type 0 where
  pub sent : List ℕ
  pub split : rest ≡ sent ++ left
  pub moves : Moves old sent (call_mishap reply) new

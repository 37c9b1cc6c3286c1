-- Where a seek goes, and the law of each call of `Seek`.
use Rattle.std.specs.Prelude.{◌≡◌, ℕ, ℤ, ◌^◌, ◌<◌, Ok, Err, Result, IfOk, IsOk, Option, ◌⊎◌}
use Rattle.no_std_io2_base.specs.{declared.error.Error.{Error}, declared.traits.seek.SeekFrom.{SeekFrom}}
use Rattle.no_std_io2_base.specs.{declared.traits.seek.SeekFrom.TheVariants.{Start, End, Current}, inner.Errors.{IsInvalidSeek}}
use Rattle.no_std_io2_base.specs.{Calls.{ByCalls, SeekCall, Sought, Moved}, Events.{Store}, Takes.{KeepsContent}}
use Rattle.no_std_io2_base.specs.inner.Seek.{IsAtOffset, here, LenCalls, WithoutPosition, IsPosition}

-- the ghost members of a seeker, as `⟦<S as Seek>⟧` names them: that of its store, and its own
abbrev pub Seeker : Type 0 → Type 1
Seeker X = record {
  store : X → Option Store;
  may : X → SeekCall → X → Type 0;
  sound : X → Type 0;
}

-- n is the target of this seek in a store of this length and position
abbrev pub IsTarget : ℕ → ℕ → SeekFrom → ℕ → Type 0
IsTarget len position (Start k) n = n ≡ k
IsTarget len position (End offset) n = IsAtOffset len offset n × (n < 2 ^ 64)
IsTarget len position (Current offset) n = IsAtOffset position offset n × (n < 2 ^ 64)

-- `seek(from)` moved the position to its target and returned it; or there is no target, it returned an error, and the position stayed
abbrev pub Seeks : ℕ → ℕ → SeekFrom → Result ℕ Error → ℕ → Type 0
Seeks len old from (Ok n) new = IsTarget len old from n × (new ≡ n)
Seeks len old from (Err e) new = ((n : ℕ) → IsTarget len old from n → ⊥) × IsInvalidSeek e × (new ≡ old)

-- `seek(target)`
pub record SeekLaw {X : Type 0} (S : Seeker X) (old : X) (target : SeekFrom) (reply : Result ℕ Error) (new : X) : Type 0 where
  -- a told store keeps its content, and its position moves to the target, or stays if there is none
  pub store : KeepsContent (S.store old) (λ len was now. Seeks len was target reply now) (S.store new)
  -- a sound store stays sound
  pub sound : S.sound old → S.sound new
  -- the result is the position
  pub position : IfOk reply (IsPosition (S.store new))
  -- it is one call
  pub call : S.may old (Sought target reply) new

-- `stream_position()`
pub record StreamPositionLaw {X : Type 0} (S : Seeker X) (old : X) (reply : Result ℕ Error) (new : X) : Type 0 where
  -- a told store does not change, and the result is its position
  pub store : KeepsContent (S.store old) (λ len was now. (now ≡ was) × (reply ≡ Ok was)) (S.store new)
  -- a sound store stays sound
  pub sound : S.sound old → S.sound new
  -- the result is the position
  pub position : IfOk reply (IsPosition (S.store new))
  -- it made one seek, by 0 bytes
  pub call : S.may old (Sought here reply) new

-- `rewind()`
pub record RewindLaw {X : Type 0} (S : Seeker X) (old : X) (reply : Result (Unit {0}) Error) (new : X) : Type 0 where
  -- a told store keeps its content, and its position is the start
  pub store : KeepsContent (S.store old) (λ len was now. (now ≡ 0) × IsOk reply) (S.store new)
  -- a sound store stays sound
  pub sound : S.sound old → S.sound new
  -- it made one seek, to the start
  pub call : WithoutPosition (λ answer. S.may old (Sought (Start 0) answer) new) reply

-- `stream_len()`
pub record StreamLenLaw {X : Type 0} (S : Seeker X) (old : X) (reply : Result ℕ Error) (new : X) : Type 0 where
  -- a told store does not change, and the result is its length
  pub store : KeepsContent (S.store old) (λ len was now. (now ≡ was) × (reply ≡ Ok len)) (S.store new)
  -- a sound store stays sound
  pub sound : S.sound old → S.sound new
  -- which calls it made
  pub calls : ByCalls S.may old (λ C. LenCalls C reply) new

-- `seek_relative(offset)`
pub record SeekRelativeLaw {X : Type 0} (S : Seeker X) (old : X) (offset : ℤ) (reply : Result (Unit {0}) Error) (new : X) : Type 0 where
  -- a sound told store keeps its content, and its position moves by the offset, or stays if there is no such place
  pub store : S.sound old
      → KeepsContent (S.store old) (λ len was now. WithoutPosition (λ at. Seeks len was (Current offset) at now) reply) (S.store new)
  -- a sound store stays sound
  pub sound : S.sound old → S.sound new
  -- it made one seek; or it is a call of its own, of a type that has a body for it
  pub call : WithoutPosition (λ answer. S.may old (Sought (Current offset) answer) new) reply ⊎ S.may old (Moved offset reply) new

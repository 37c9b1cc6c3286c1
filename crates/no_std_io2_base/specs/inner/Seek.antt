-- Offsets, and the seeks of a `stream_len`.
use Rattle.std.specs.Prelude.{◌≡◌, ◌≢◌, ℕ, ℤ, pos, negsuc, ◌+◌, Ok, Err, Result, List, [], ◌∷◌, Option, IfSome}
use Rattle.no_std_io2_base.specs.{declared.error.Error.{Error}, declared.traits.seek.SeekFrom.{SeekFrom}}
use Rattle.no_std_io2_base.specs.{declared.traits.seek.SeekFrom.TheVariants.{Start, End, Current}, Events.{Store}}
use Rattle.no_std_io2_base.specs.Calls.{SeekCall, Sought, Measured}

-- n is `base + offset`
abbrev pub IsAtOffset : ℕ → ℤ → ℕ → Type 0
IsAtOffset base (pos k) n = n ≡ base + k
IsAtOffset base (negsuc k) n = n + (k + 1) ≡ base

-- the target of the seek that `stream_position` makes
abbrev pub here : SeekFrom
here = Current (pos 0)

-- C are the calls of a `stream_len()`, with its result: its own call, of a type that has a body for it; or seeks to the current position,
-- to the end, and back if the position was elsewhere. The first error ends them.
pub data LenCalls : List SeekCall → Result ℕ Error → Type 0 where
  measured : {reply : Result ℕ Error} → LenCalls (Measured reply ∷ []) reply
  no_position : {e : Error} → LenCalls (Sought here (Err e) ∷ []) (Err e)
  no_end : {n : ℕ} {e : Error} → LenCalls (Sought here (Ok n) ∷ Sought (End (pos 0)) (Err e) ∷ []) (Err e)
  was_at_end : {n : ℕ} → LenCalls (Sought here (Ok n) ∷ Sought (End (pos 0)) (Ok n) ∷ []) (Ok n)
  went_back : {n len at : ℕ} → n ≢ len
      → LenCalls (Sought here (Ok n) ∷ Sought (End (pos 0)) (Ok len) ∷ Sought (Start n) (Ok at) ∷ []) (Ok len)
  no_way_back : {n len : ℕ} {e : Error} → n ≢ len
      → LenCalls (Sought here (Ok n) ∷ Sought (End (pos 0)) (Ok len) ∷ Sought (Start n) (Err e) ∷ []) (Err e)

-- a result like that of a seek, without the position
abbrev pub WithoutPosition : (Result ℕ Error → Type 0) → Result (Unit {0}) Error → Type 0
WithoutPosition answers (Ok done) = (n : ℕ) × answers (Ok n)
WithoutPosition answers (Err e) = answers (Err e)

-- if a store is told, this is its position
abbrev pub IsPosition : Option Store → ℕ → Type 0
IsPosition store n = IfSome store (λ s. s.position ≡ n)

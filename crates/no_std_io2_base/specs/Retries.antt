-- The calls that are made again after faults, what they do to a writer, and whose fault an error is.
use Rattle.std.specs.Prelude.{◌⊎◌, IfSome, ◌≡◌, ◌≤◌, ℕ, suc, List, length, Option, Some, None, Result, Ok, Err, IsErr, OnErr, [], OnOk}
use Rattle.std.specs.Prelude.{IsOk}
use Rattle.no_std_io2_base.specs.{declared.error.Error.{Error}, Takes.{ReaderState, to_come}, Moves.{WriterState, Moves, call_mishap}}
use Rattle.no_std_io2_base.specs.{inner.Faults.{HasFirstFault, MayFail}, declared.error.ErrorKind.{ErrorKind}}
use Rattle.no_std_io2_base.specs.Writers.{Writer, WriteRestOf, FlushOf}

-- at most n mishaps are told to come
abbrev pub HasAtMost : ℕ → Option (List ErrorKind) → Type 0
HasAtMost n None = ⊥
HasAtMost n (Some mishaps) = length mishaps ≤ n

-- A law relates the writer before a call that sends x, x, the result, the writer after the call, and the bytes that it left of x.
abbrev Law : Type 0 → Type 1
Law W = W → List ℕ → Result (Unit {0}) Error → W → List ℕ → Type 0

-- a `write_rest`, and a `flush` if it succeeded; the result is that of the last call
abbrev pub RestFlushLaw : {W : Type 0} → Writer W → Law W
RestFlushLaw {W} I old x reply new left =
    (IsErr reply × WriteRestOf I old x reply new left) ⊎ ((mid : W) × WriteRestOf I old x (Ok tt) mid left × FlushOf I mid reply new)

-- Calls by this law were made again and again, with so many retries: each except the last failed, and the result is that of the last. If
-- the last one failed, no retry was left.
pub data Tries {W : Type 0} (law : Law W) : ℕ → W → List ℕ → Result (Unit {0}) Error → W → List ℕ → Type 0 where
  last_try : {retries : ℕ} {old new : W} {x left : List ℕ} {reply : Result (Unit {0}) Error} → law old x reply new left
      → OnErr reply (retries ≡ 0) → Tries law retries old x reply new left
  next_try : {retries : ℕ} {old mid new : W} {x rest left : List ℕ} {e : Error} {reply : Result (Unit {0}) Error}
      → law old x (Err e) mid rest → Tries law retries mid rest reply new left → Tries law (suc retries) old x reply new left

-- `flush_with_retries` of a writer I
pub record FlushTries {W : Type 0} (I : Writer W) (retries : ℕ) (old : W) (reply : Result (Unit {0}) Error) (new : W) : Type 0 where
  -- no byte was accepted, and an error is a mishap
  pub moves : Moves (I.told old) [] (call_mishap reply) (I.told new)
  -- after `Ok` nothing is held
  pub flushed : OnOk reply ((I.told new).held ≡ [])
  -- if at most so many mishaps are told to come, the call succeeds
  pub enough : HasAtMost retries (I.told old).mishaps → IsOk reply
  -- each try is a `write_rest` of no bytes and, if that succeeded, a `flush`
  pub calls : Tries (RestFlushLaw I) retries old [] reply new []

-- e is the first fault that a reader told, or a failure of a writer that told this
abbrev pub IsFaultOf : ReaderState → WriterState → Error → Type 0
IsFaultOf from told e = IfSome (to_come from) (λ E. HasFirstFault E e) ⊎ MayFail told e

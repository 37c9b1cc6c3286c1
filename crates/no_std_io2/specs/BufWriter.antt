-- What a `BufWriter` holds and tells, and what its own calls do. I are the ghost members of the inner writer.
use Rattle.std.specs.{Prelude.{◌≡◌, ℕ, List, [], ◌∷◌, ◌++◌, Some, Result, Ok, Err, IsOk, IsOkAnd, IfOk, IfErr}, Mem.{FitsInMemory}}
use denote.{Param.{param, number}, RattleType.{RattleType}}
use Rattle.no_std_io2_base.specs.{declared.error.Error.{Error}, Moves.{WriterState, Moves, call_mishap}, Writers.{Writer, TakesAll}}
use Rattle.no_std_io2_base.specs.{Errors.{error_kind, IsFault, IsNoInterruption}, Calls.{ByCalls}, Takes.{Reader}, Read.{ReadCallLaw}}
use Rattle.no_std_io2_base.specs.inner.Read.{FullCalls}
use Rattle.no_std_io2.specs.declared.buffered.buf_writer.BufWriter.{BufWriter}
use Rattle.no_std_io2.specs.declared.buffered.into_inner_error.IntoInnerError.{IntoInnerError}
use Rattle.no_std_io2.specs.inner.BufWriter.{sender_inner, sender_buffer, into_inner_error_writer, into_inner_error_cause, with_buffer}
use Rattle.no_std_io2.specs.contracts.buffered.buf_writer.BufWriter.{the_row as writer-row}
use Rattle.no_std_io2.specs.inner.BufWriter.{WriteAllCalls, TakesStep, UnwrapCalls}

-- `w.get_ref()`
abbrev pub writer_inner : {W : Type 0} {S : ℕ} → BufWriter W S → W
writer_inner w = sender_inner w.sender

-- `w.buffer()`
abbrev pub writer_buffer : {W : Type 0} {S : ℕ} → BufWriter W S → List ℕ
writer_buffer w = sender_buffer w.sender

-- what a `BufWriter` tells if its inner writer tells `told`
abbrev pub writer_told : {W : Type 0} {S : ℕ} → (W → WriterState) → BufWriter W S → WriterState
writer_told told w = with_buffer (told (writer_inner w)) (writer_buffer w)

-- the bytes of a record x that were accepted, by the result of its call
abbrev all_or_none : Result (Unit {0}) Error → List ℕ → List ℕ
all_or_none (Ok u) x = x
all_or_none (Err e) x = []

-- What `write_whole` of a record x does, which is shorter than a buffer of S bytes.
pub record Puts {W B : Type 0} (I : Writer W) (inner : B → W) (buffer : B → List ℕ) (S : ℕ) (x : List ℕ) (old : B)
    (reply : Result (Unit {0}) Error) (new : B) : Type 0 where
  -- all of x was accepted, or nothing of it, and an error is a mishap
  pub moves : Moves (with_buffer (I.told (inner old)) (buffer old)) (all_or_none reply x) (call_mishap reply)
      (with_buffer (I.told (inner new)) (buffer new))
  -- the error is never an interruption
  pub fault : IsNoInterruption reply
  -- the inner calls are those of a `write_all` of x
  pub calls : TakesStep I inner buffer (WriteAllCalls S x) old reply new

-- `fill_from(from, n)`: reads gave x, which is held after the bytes that were held. Each asked for all that was missing of n bytes, until
-- these were there, or the end or a fault came first.
abbrev pub FillsFrom : {X : Type 0} → Reader X → ℕ → X → List ℕ → Result (Unit {0}) Error → List ℕ → X → Type 0
FillsFrom R n old held reply held' new =
    (x : List ℕ) × (held' ≡ held ++ x) × ByCalls (ReadCallLaw R) old (λ C. FullCalls C n x reply) new

-- `into_inner()` of a writer B with a buffer: all held bytes were sent, and the result is the inner writer; or a fault came, and the result
-- is the fault with the writer, which holds the rest.
pub record Unwraps {W B : Type 0} (I : Writer W) (inner : B → W) (buffer : B → List ℕ) (old : B) (reply : Result W (IntoInnerError B))
    : Type 0 where
  -- these inner calls were made
  pub calls : UnwrapCalls I inner buffer old reply
  -- no byte is lost
  pub ok : IfOk reply (λ w. Moves (with_buffer (I.told (inner old)) (buffer old)) [] [] (I.told w))
  pub err : IfErr reply (λ e. Moves (with_buffer (I.told (inner old)) (buffer old)) [] (error_kind (into_inner_error_cause e) ∷ [])
      (with_buffer (I.told (inner (into_inner_error_writer e))) (buffer (into_inner_error_writer e))))
  -- the error is never an interruption
  pub fault : IfErr reply (λ e. IsFault (into_inner_error_cause e))
  -- if nothing was held, no inner call was made
  pub empty : buffer old ≡ [] → reply ≡ Ok (inner old)
  -- over an inner writer with no mishap to come there is no error
  pub steady : (I.told (inner old)).mishaps ≡ Some [] → IsOk reply
  -- an inner writer that takes all still does
  pub all : TakesAll I (inner old) → IsOkAnd reply (TakesAll I)

-- a `BufWriter<W, S>` fits in memory
abbrev pub BufWriterFits : RattleType → ℕ → Type 0
BufWriterFits W S = FitsInMemory (writer-row W (param 0 (number S)))

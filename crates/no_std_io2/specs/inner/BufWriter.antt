-- How a buffer is sent, and which inner calls the calls of a `BufWriter` make. I are the ghost members of the
-- inner writer.
use Rattle.std.specs.Prelude.{◌≡◌, ℕ, ◌+◌, List, [], ◌++◌, length, nat_lt, nat_le, ◌&&◌, if◌then◌else◌, ◌<◌, ◌≤◌, ◌⊎◌, ◌∷◌, Result, Ok, Err}
use Rattle.std.specs.Prelude.{IsOk, IfOk, OnOk, codes, Option, None}
use Rattle.no_std_io2_base.specs.{declared.error.Error.{Error}, Moves.{WriterState}, Calls.{WriteCall, Wrote, WroteAll, Flushed, ByCalls}}
use Rattle.no_std_io2_base.specs.{inner.Write.{Writes, AllCalls}, Writers.{Writer}, inner.Writers.{CallOf}, Events.{Store}}
use Rattle.no_std_io2.specs.{inner.Buffer.{buffer_held}, declared.buffered.sender.Sender.{Sender}}
use Rattle.no_std_io2.specs.declared.buffered.buf_writer.BufWriter.{BufWriter}
use Rattle.no_std_io2.specs.declared.buffered.into_inner_error.IntoInnerError.{IntoInnerError}

-- the inner writer
abbrev pub sender_inner : {W : Type 0} {S : ℕ} → Sender W S → W
sender_inner w = w.inner

-- the held bytes
abbrev pub sender_buffer : {W : Type 0} {S : ℕ} → Sender W S → List ℕ
sender_buffer w = buffer_held w.buffer

-- w after `*w.get_mut() = x`
abbrev pub writer_with_inner : {W : Type 0} {S : ℕ} → BufWriter W S → W → BufWriter W S
writer_with_inner w x = record w { sender = record w.sender { inner = x } }

-- `e.into_inner()`
abbrev pub into_inner_error_writer : {W : Type 0} → IntoInnerError W → W
into_inner_error_writer e = e.writer

-- `e.error()`
abbrev pub into_inner_error_cause : {W : Type 0} → IntoInnerError W → Error
into_inner_error_cause e = e.error

-- what is told with this buffer in front of a writer that tells this
abbrev pub with_buffer : WriterState → List ℕ → WriterState
with_buffer told buffer = record told { held = told.held ++ buffer }

-- the inner writer's store, if nothing is held
abbrev pub store_unheld : List ℕ → Option Store → Option Store
store_unheld [] store = store
store_unheld (b ∷ held) store = None

-- the number of inner calls that make room for n more bytes, if the inner writer takes all
abbrev pub room_calls : ℕ → List ℕ → ℕ → ℕ
room_calls S buffer n = if nat_lt 0 (length buffer) && nat_lt S (length buffer + n) then 1 else 0

-- the number of inner calls that a write of x makes, if the inner writer takes all
abbrev pub writing_calls : ℕ → List ℕ → List ℕ → ℕ
writing_calls S buffer x = room_calls S buffer (length x) + (if nat_le S (length x) then 1 else 0)

-- the buffer after a write of x that returned `Ok`
abbrev pub buffer_after : ℕ → List ℕ → List ℕ → List ℕ
buffer_after S buffer x =
    if nat_lt (length x) S then (if nat_le (length buffer + length x) S then buffer ++ x else x) else []

-- A step of a writer with a buffer relates the bytes held before, the inner calls that were made, the result, and the
-- bytes held afterwards.
abbrev pub Step : Type 0 → Type 1
Step A = List ℕ → List WriteCall → Result A Error → List ℕ → Type 0

-- `first?; next`: if the first step fails, its error is the result, and the next step is not taken
pub data Then {A : Type 0} (first : Step (Unit {0})) (next : Step A) (held : List ℕ) : List WriteCall → Result A Error → List ℕ → Type 0
  where
    first_stops : {C : List WriteCall} {e : Error} {left : List ℕ} → first held C (Err e) left → Then first next held C (Err e) left
    first_goes_on : {C D : List WriteCall} {mid left : List ℕ} {reply : Result A Error} → first held C (Ok tt) mid → next mid D reply left
        → Then first next held (C ++ D) reply left

-- these calls, with nothing held before and after them
abbrev pub WithNothingHeld : {A : Type 0} → (List WriteCall → Result A Error → Type 0) → Step A
WithNothingHeld P held C reply left = (held ≡ []) × (left ≡ []) × P C reply

-- the held bytes are sent: inner writes of all of them, until nothing is left, or until a fault, which is the result
abbrev pub SendCalls : Step (Unit {0})
SendCalls held C reply left = Writes (codes "failed to write the buffered data") C held reply left

-- room is made for n more bytes: no call if they fit beside the held bytes; else these are sent
abbrev pub RoomCalls : ℕ → ℕ → Step (Unit {0})
RoomCalls S n held C reply left = ((length held + n ≤ S) × (C ≡ []) × (reply ≡ Ok tt) × (left ≡ held))
    ⊎ ((S < length held + n) × SendCalls held C reply left)

-- x is held if it is shorter than S, with the result `Ok(v)`; else these calls pass it on
abbrev pub PutCalls : {A : Type 0} → ℕ → List ℕ → A → (List WriteCall → Result A Error → Type 0) → Step A
PutCalls S x v past held C reply left = ((length x < S) × (C ≡ []) × (reply ≡ Ok v) × (left ≡ held ++ x))
    ⊎ ((S ≤ length x) × WithNothingHeld past held C reply left)

-- x goes through a buffer of S bytes: room is made for it, and then it is held or passed on
abbrev pub Buffered : {A : Type 0} → ℕ → List ℕ → A → (List WriteCall → Result A Error → Type 0) → Step A
Buffered S x v past = Then (RoomCalls S (length x)) (PutCalls S x v past)

-- only this call, with this result
abbrev pub SingleCall : {A : Type 0} → (Result A Error → WriteCall) → List WriteCall → Result A Error → Type 0
SingleCall call C reply = C ≡ call reply ∷ []

-- `write(x)`
abbrev pub WriteCalls : ℕ → List ℕ → Step ℕ
WriteCalls S x = Buffered S x (length x) (SingleCall (Wrote x))

-- `write_all(x)`
abbrev pub WriteAllCalls : ℕ → List ℕ → Step (Unit {0})
WriteAllCalls S x = Buffered S x tt (λ C. AllCalls C x)

-- `flush()`: the held bytes are sent, and then one flush is made
abbrev pub FlushCalls : Step (Unit {0})
FlushCalls = Then SendCalls (WithNothingHeld (SingleCall Flushed))

-- This step was taken by inner calls that kept their laws. They led from the inner writer `old` to `new`.
abbrev pub Stepped : {W A : Type 0} → Writer W → Step A → W → List ℕ → Result A Error → List ℕ → W → Type 0
Stepped I step old held reply left new = ByCalls (CallOf I) old (λ C. step held C reply left) new

-- a writer B with a buffer in front of its inner writer took it
abbrev pub TakesStep : {W B A : Type 0} → Writer W → (B → W) → (B → List ℕ) → Step A → B → Result A Error → B → Type 0
TakesStep I inner buffer step old reply new = Stepped I step (inner old) (buffer old) reply (buffer new) (inner new)

-- the inner calls of a call of a writer with a buffer of S bytes
abbrev pub InnerCalls : ℕ → List ℕ → WriteCall → List WriteCall → List ℕ → Type 0
InnerCalls S held (Wrote x reply) C left = WriteCalls S x held C reply left
InnerCalls S held (WroteAll x reply) C left = WriteAllCalls S x held C reply left
InnerCalls S held (Flushed reply) C left = FlushCalls held C reply left

-- what a call may do to a writer B with a buffer: inner calls that `level` lists, with the bytes held before and after it
abbrev pub BufferMay : {W B : Type 0} → Writer W → (List ℕ → WriteCall → List WriteCall → List ℕ → Type 0) → (B → W) → (B → List ℕ)
    → B → WriteCall → B → Type 0
BufferMay I level inner buffer old call new = ByCalls (CallOf I) (inner old) (λ C. level (buffer old) call C (buffer new)) (inner new)

-- What `write(x)` does through a buffer of S bytes.
pub record Buffers {W B : Type 0} (I : Writer W) (S : ℕ) (inner : B → W) (buffer : B → List ℕ) (old : B) (x : List ℕ)
    (reply : Result ℕ Error) (new : B) : Type 0 where
  -- these inner calls were made
  pub calls : TakesStep I inner buffer (WriteCalls S x) old reply new
  -- if both fit, x is held, and no inner call was made
  pub fits : length x < S → length (buffer old) + length x ≤ S
      → (reply ≡ Ok (length x)) × (inner new ≡ inner old) × (buffer new ≡ buffer old ++ x)
  -- an x that is shorter than the buffer is taken whole, or an error is returned
  pub whole : length x < S → IfOk reply (λ n. n ≡ length x)
  -- the bytes that are held after `Ok`
  pub after : OnOk reply (buffer new ≡ buffer_after S (buffer old) x)

-- What `write_all(x)` does.
pub record BuffersAll {W B : Type 0} (I : Writer W) (S : ℕ) (inner : B → W) (buffer : B → List ℕ) (old : B) (x : List ℕ)
    (reply : Result (Unit {0}) Error) (new : B) : Type 0 where
  -- these inner calls were made
  pub calls : TakesStep I inner buffer (WriteAllCalls S x) old reply new
  -- if both fit, x is held, and no inner call was made
  pub fits : length x < S → length (buffer old) + length x ≤ S
      → IsOk reply × (inner new ≡ inner old) × (buffer new ≡ buffer old ++ x)
  -- the bytes that are held after `Ok`
  pub after : OnOk reply (buffer new ≡ buffer_after S (buffer old) x)

-- the inner calls of `into_inner()`: the held bytes were sent, and the result is the inner writer, or the error with the buffered writer
abbrev pub UnwrapCalls : {W B : Type 0} → Writer W → (B → W) → (B → List ℕ) → B → Result W (IntoInnerError B) → Type 0
UnwrapCalls I inner buffer old (Ok w) = Stepped I SendCalls (inner old) (buffer old) (Ok tt) [] w
UnwrapCalls I inner buffer old (Err e) =
    TakesStep I inner buffer SendCalls old (Err (into_inner_error_cause e)) (into_inner_error_writer e)

-- The calls of a writer with a buffer made these inner calls. `level` says this of one call, and which bytes are held before and after it.
abbrev pub LevelCalls : (List ℕ → WriteCall → List WriteCall → List ℕ → Type 0) → List ℕ → List WriteCall → List WriteCall → List ℕ → Type 0
LevelCalls level held [] inner left = (inner ≡ []) × (left ≡ held)
LevelCalls level held (call ∷ calls) inner left =
    (mid : List ℕ) × (first : List WriteCall) × (rest : List WriteCall)
    × level held call first mid × LevelCalls level mid calls rest left × (inner ≡ first ++ rest)

-- What a `LineWriter` tells, and the inner calls that it makes.
use Rattle.std.specs.Prelude.{ℕ, List, ◌≡◌, ◌+◌, ◌<◌, ◌≤◌, ◌==◌, ◌⊎◌, [], ◌∷◌, ◌++◌, ◌-◌, length, take, drop, nat_le, Contains}
use Rattle.std.specs.Prelude.{if◌then◌else◌, Result, Ok, Err, IsOk}
use Rattle.no_std_io2_base.specs.{declared.error.Error.{Error}, Moves.{WriterState}, Calls.{WriteCall, Wrote, WroteAll, Flushed}}
use Rattle.no_std_io2_base.specs.{inner.Write.{AllCalls}, inner.Pieces.{Lacks}, Pieces.{newline}}
use Rattle.no_std_io2_base.specs.inner.Lines.{lines_of, lines_len, unfinished_line}
use Rattle.no_std_io2.specs.inner.BufWriter.{with_buffer, buffer_after, Step, Then, WithNothingHeld, SendCalls, WriteCalls, WriteAllCalls}
use Rattle.no_std_io2.specs.{declared.buffered.line_writer.LineWriter.{LineWriter}, inner.BufWriter.{FlushCalls}}
use Rattle.no_std_io2.specs.LineWriter.{line_inner, line_buffer}

-- w after `*w.get_mut() = x`
abbrev pub line_with_inner : {W : Type 0} {S : ℕ} → LineWriter W S → W → LineWriter W S
line_with_inner w x = record w { sender = record w.sender { buffered = record w.sender.buffered { inner = x } } }

-- what a `LineWriter` over a writer that tells this tells: its own buffer is held too
abbrev pub line_told : {W : Type 0} {S : ℕ} → (W → WriterState) → LineWriter W S → WriterState
line_told told w = with_buffer (told (line_inner w)) (line_buffer w)

-- the held bytes, a line state, are sent if they end in a newline; if not, there is no call
abbrev pub SendLineCalls : Step (Unit {0})
SendLineCalls held C reply left = (Lacks newline held × (C ≡ []) × (reply ≡ Ok tt) × (left ≡ held))
    ⊎ (Contains held newline × SendCalls held C reply left)

-- the lines of xs, or all of xs if there are none
abbrev pub lines_or_all : List ℕ → List ℕ
lines_or_all xs = if lines_len xs == 0 then xs else lines_of xs

-- The bytes of x that are held, at most S, if the inner writer took the first n: none if n is 0; if all lines were taken, bytes after the
-- lines; if not, the rest of the lines if it fits, or else the lines among the next S bytes, or all S if they have no newline.
abbrev pub held_tail : ℕ → List ℕ → ℕ → List ℕ
held_tail S x n =
    if n == 0 then []
    else (if nat_le (lines_len x) n then take S (drop n x)
    else (if nat_le (lines_len x - n) S then drop n (lines_of x) else lines_or_all (take S (drop n x))))

-- the inner write of the lines of x had the result `sent`: of the bytes that it left, the tail is held, and the result of the call counts
-- the tail as taken
abbrev pub HoldsTail : ℕ → List ℕ → Result ℕ Error → Result ℕ Error → List ℕ → Type 0
HoldsTail S x (Ok n) reply left = (left ≡ held_tail S x n) × (reply ≡ Ok (n + length left))
HoldsTail S x (Err e) reply left = (left ≡ []) × (reply ≡ Err e)

-- one write of the lines of x, with nothing held before it
abbrev pub LinesCalls : ℕ → List ℕ → Step ℕ
LinesCalls S x held C reply left =
    (held ≡ []) × (answer : Result ℕ Error) × (C ≡ Wrote (lines_of x) answer ∷ []) × HoldsTail S x answer reply left

-- the lines y are passed on: by one `write_all` if nothing is held; if not, they go through the buffer after the held
-- bytes, and the buffer is sent
abbrev pub SendLinesCalls : ℕ → List ℕ → Step (Unit {0})
SendLinesCalls S y held C reply left = WithNothingHeld (λ D. AllCalls D y) held C reply left
    ⊎ ((0 < length held) × Then (WriteAllCalls S y) SendCalls held C reply left)

-- `write(x)`: if x has no newline, a held line is sent, and then x is written as by a `BufWriter`; if x has one, the held bytes are sent,
-- and then the lines of x are written
abbrev pub LineWriteCalls : ℕ → List ℕ → Step ℕ
LineWriteCalls S x held C reply left = (Lacks newline x × Then SendLineCalls (WriteCalls S x) held C reply left)
    ⊎ (Contains x newline × Then SendCalls (LinesCalls S x) held C reply left)

-- `write_all(x)`: the same, but all lines of x are sent, and then the bytes after them are written as by a `BufWriter`
abbrev pub LineWriteAllCalls : ℕ → List ℕ → Step (Unit {0})
LineWriteAllCalls S x held C reply left = (Lacks newline x × Then SendLineCalls (WriteAllCalls S x) held C reply left)
    ⊎ (Contains x newline × Then (SendLinesCalls S (lines_of x)) (WriteAllCalls S (unfinished_line x)) held C reply left)

-- the inner calls of a call of a writer with a line buffer of S bytes
abbrev pub LineCalls : ℕ → List ℕ → WriteCall → List WriteCall → List ℕ → Type 0
LineCalls S held (Wrote x reply) C left = LineWriteCalls S x held C reply left
LineCalls S held (WroteAll x reply) C left = LineWriteAllCalls S x held C reply left
LineCalls S held (Flushed reply) C left = FlushCalls held C reply left

-- the buffer after a `write_all(x)` that returned `Ok`: the unfinished line, if it is shorter than S
abbrev pub line_buffer_after : ℕ → List ℕ → List ℕ → List ℕ
line_buffer_after S held x = buffer_after S (if lines_len x == 0 then unfinished_line held else []) (unfinished_line x)

-- the buffer after a `write(x)`, if the inner writer takes all: after lines, the first S bytes of the unfinished line
abbrev pub line_buffer_filled : ℕ → List ℕ → List ℕ → List ℕ
line_buffer_filled S held x = if lines_len x == 0 then buffer_after S (unfinished_line held) x else take S (unfinished_line x)

-- x has no newline and is shorter than S
abbrev pub IsShortText : ℕ → List ℕ → Type 0
IsShortText S x = Lacks newline x × (length x < S)

-- a short text that fits beside an unfinished line is held, and no inner call is made
abbrev pub HoldsShort : {W A : Type 0} {S : ℕ} → LineWriter W S → List ℕ → Result A Error → LineWriter W S → Type 0
HoldsShort {S = room} old x reply new = IsShortText room x → Lacks newline (line_buffer old) → length (line_buffer old) + length x ≤ room
    → IsOk reply × (line_inner new ≡ line_inner old) × (line_buffer new ≡ line_buffer old ++ x)

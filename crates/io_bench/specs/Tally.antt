-- What a `Tally` tells.
use Rattle.no_std_io2.specs.{inner.Writers.{CallOf}, Writers.{Writer}, Calls.{WriteCall, Wrote, WroteAll, Flushed, ReadCall, Gave}}
use Rattle.no_std_io2.specs.{declared.io.Error.{Error}, Takes.{Reader}, Read.{ReadCallLaw}}
use Rattle.std.specs.Prelude.{◌≡◌, ℕ, ◌+◌, min, List, length, Result}
use Rattle.io_bench.specs.declared.tally.Tally.{Tally}

-- `t.get_ref()`
abbrev pub tally_inner : {T : Type 0} → Tally T → T
tally_inner t = t.inner

-- the exact number of calls of `write`
abbrev pub tally_writes : {T : Type 0} → Tally T → ℕ
tally_writes t = length t.write_calls.bytes

-- the exact number of calls of `read` into a buffer that is not empty
abbrev pub tally_reads : {T : Type 0} → Tally T → ℕ
tally_reads t = length t.read_calls.bytes

-- A call makes the same call of the inner writer, once, with the same result, and `counted` more are counted.
pub record HandsCounted {T : Type 0} (I : Writer T) (old : Tally T) (call : WriteCall) (counted : ℕ) (new : Tally T) : Type 0 where
  pub handed : CallOf I (tally_inner old) call (tally_inner new)
  pub writes : tally_writes new ≡ tally_writes old + counted
  pub reads : tally_reads new ≡ tally_reads old

-- what one call does: it is passed on, and a `write` counts
abbrev pub TallyMay : {T : Type 0} → Writer T → Tally T → WriteCall → Tally T → Type 0
TallyMay I old (Wrote x reply) new = HandsCounted I old (Wrote x reply) 1 new
TallyMay I old (Flushed reply) new = HandsCounted I old (Flushed reply) 0 new
TallyMay I old (WroteAll x reply) new = ⊥

-- A `read` makes the same `read` of the inner reader, once, with the same result, and counts if it has room for a byte.
pub record ReadCounted {T : Type 0} (I : Reader T) (old : Tally T) (room : ℕ) (answer : Result (List ℕ) Error) (new : Tally T)
    : Type 0 where
  pub handed : ReadCallLaw I (tally_inner old) (Gave room answer) (tally_inner new)
  pub reads : tally_reads new ≡ tally_reads old + min 1 room
  pub writes : tally_writes new ≡ tally_writes old

-- what one call of a `Tally` as a reader does: its calls are its own reads
abbrev pub ReadsCounted : {T : Type 0} → Reader T → Tally T → ReadCall → Tally T → Type 0
ReadsCounted I old (Gave room answer) new = ReadCounted I old room answer new
ReadsCounted I old _ new = ⊥

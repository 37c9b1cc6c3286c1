-- The bytes and the flushes of a list of calls.
use Rattle.std.specs.{Prelude.{ℕ, ◌+◌, List, [], ◌∷◌}, List.{flat_map}}
use Rattle.io_bench.specs.declared.runs.Op.{Op, TheVariants.{Write, WriteAll, Flush}}

-- the bytes of a call
abbrev pub op_bytes : Op → List ℕ
op_bytes (Write x) = x.now
op_bytes (WriteAll x) = x.now
op_bytes Flush = []

-- the bytes of all calls
abbrev pub given_bytes : List Op → List ℕ
given_bytes ops = flat_map op_bytes ops

-- 1 for a flush, and 0 for any other call
abbrev pub op_flushes : Op → ℕ
op_flushes Flush = 1
op_flushes _ = 0

-- how many calls are `Flush`
abbrev pub flush_count : List Op → ℕ
flush_count [] = 0
flush_count (op ∷ ops) = op_flushes op + flush_count ops

-- How many inner reads a `read_exact` of a `BufReader` makes over a filling reader, and how many bytes are held then.
use Rattle.std.specs.Prelude.{ℕ, ◌+◌, ◌-◌, ◌&&◌, min, nat_le, nat_lt, if◌then◌else◌}

-- how many inner reads a `read_exact` of `len` bytes makes, with this many bytes held and to come in all
abbrev pub exact_reads : ℕ → ℕ → ℕ → ℕ
exact_reads len held all = (if nat_le len held then 0 else 1) + (if nat_lt held all && nat_lt all len then 1 else 0)

-- how many bytes are held after that `read_exact`
abbrev pub exact_left : ℕ → ℕ → ℕ → ℕ → ℕ
exact_left room len held all =
    if nat_le len held then held - len
    else if nat_le room (len - held) then 0
    else min room (all - held) - (len - held)

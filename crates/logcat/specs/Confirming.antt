-- What is so once the number of a record is printed.
use Rattle.std.specs.Prelude.{ℕ, ◌++◌, Ok, codes, decimal}
use Rattle.no_std_io2.specs.{declared.io.BufWriter.{BufWriter}, Writers.{Writer, FlushOf}}
use Rattle.record_log.specs.{Log.{Appends, log_writer}, declared.log.RecordLog.{RecordLog}}

-- record number n was appended to a log, and then confirmed by a `sync`
abbrev pub Confirmed : {F : Type 0} → Writer F → Writer (BufWriter F 4096) → ℕ → RecordLog F 4096 → RecordLog F 4096 → Type 0
Confirmed {F} I B n old new = (mid : RecordLog F 4096) × Appends I (codes "record " ++ decimal n) old (Ok tt) mid
    × FlushOf B (log_writer mid) (Ok tt) (log_writer new)

-- The log of the program fits in memory.
use denote.Param.{param, number}
use denote.RattleType.{RattleType}
use Rattle.std.specs.Mem.{FitsInMemory}
use Rattle.record_log.specs.contracts.log.RecordLog.{the_row as log-row}

-- a log with its buffer of 4,096 bytes fits
abbrev pub LogFits : RattleType → Type 0
LogFits F = FitsInMemory (log-row F (param 0 (number 4096)))

-- The streams of the program fit in memory.
use denote.Param.{param, number}
use denote.RattleType.{RattleType}
use Rattle.std.specs.Mem.{FitsInMemory}
use Rattle.framing.specs.contracts.reader.FrameReader.{the_row as frames-row}
use Rattle.line_log.specs.contracts.LineLog.{the_row as log-row}

-- a reader of frames with its buffer of 512 bytes fits
abbrev pub FramesFit : RattleType → Type 0
FramesFit R = FitsInMemory (frames-row R (param 0 (number 512)))

-- a log with its buffer of 16,386 bytes fits
abbrev pub LogFits : RattleType → Type 0
LogFits W = FitsInMemory (log-row W (param 0 (number 16386)))

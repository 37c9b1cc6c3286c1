-- What a `LineWriter` holds.
use Rattle.std.specs.{Prelude.{ℕ, List}, Mem.{FitsInMemory}}
use denote.{Param.{param, number}, RattleType.{RattleType}}
use Rattle.no_std_io2.specs.declared.buffered.line_writer.LineWriter.{LineWriter}
use Rattle.no_std_io2.specs.contracts.buffered.line_writer.LineWriter.{the_row as lines-row}
use Rattle.no_std_io2.specs.inner.BufWriter.{sender_inner, sender_buffer}

-- `w.get_ref()`
abbrev pub line_inner : {W : Type 0} {S : ℕ} → LineWriter W S → W
line_inner w = sender_inner w.sender.buffered

-- `w.buffer()`
abbrev pub line_buffer : {W : Type 0} {S : ℕ} → LineWriter W S → List ℕ
line_buffer w = sender_buffer w.sender.buffered

-- a `LineWriter<W, S>` fits in memory
abbrev pub LineWriterFits : RattleType → ℕ → Type 0
LineWriterFits W S = FitsInMemory (lines-row W (param 0 (number S)))

-- Sets of lemmas for `using`: for a caller that lends an object, and for a wrapper that passes calls on.
use Rattle.no_std_io2.proofs.Words.{append-nil, ℕ}
use Rattle.no_std_io2_base.proofs.Forwards.{object_given, vec_back, queue_back, cursor_back, position_back, boxed_back, boxed_position}
use Rattle.no_std_io2_base.proofs.CursorLemmas.{told_at}
pub use Rattle.no_std_io2_base.proofs.Forwards.{passes_on}
use Rattle.no_std_io2_base.proofs.TakesLemmas.{front_taken, front_gone}
use Rattle.no_std_io2.specs.contracts.buffered.{buf_writer.BufWriter.{the_row as writer-row}, line_writer.LineWriter.{the_row as lines-row}}
use denote.{Param.{param, number}, RattleType.{RattleType}}

-- For `using` on a caller that lends a vector, a queue, or a cursor over a vector or over a boxed slice, as a `&mut dyn`; and the rows of
-- buffers, for lemmas of one's own.

-- for a vector, a queue, or a cursor over a vector or a boxed slice that is lent as a writer
pub ruleset lent_writer = (append-nil, object_given, vec_back, queue_back, cursor_back, position_back, boxed_back, boxed_position)

-- for a queue, or a cursor over a vector or a boxed slice that is lent as a reader
pub ruleset lent_reader = (
  object_given,
  told_at,
  front_taken,
  front_gone,
  queue_back,
  cursor_back,
  position_back,
  boxed_back,
  boxed_position,
)

-- the row of a `BufWriter` of S bytes in front of a stream of this row
abbrev pub buffered : RattleType → ℕ → RattleType
buffered W S = writer-row W (param 0 (number S))

-- the row of such a `LineWriter`
abbrev pub by_lines : RattleType → ℕ → RattleType
by_lines W S = lines-row W (param 0 (number S))

-- What comes back is what was lent, at these sizes; the search does not know its row.
use Rattle.no_std_io2.proofs.{Words.{arith, append-nil}, Forwards.{object_given}}
use Rattle.examples.proofs.TableLemmas.{page_out}
use Rattle.examples.proofs.tables.table_at.Goals as goal

pub returns-clause-all : goal.returns-clause-all
returns-clause-all c = grind (arith, append-nil, object_given, page_out 64)

pub returns-clause-stops : goal.returns-clause-stops
returns-clause-stops c = grind (arith, object_given, page_out 64)

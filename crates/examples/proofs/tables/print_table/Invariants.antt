-- The rows so far were accepted, each by one call.
use Rattle.no_std_io2.{proofs.Words.{[], take, Moves}, specs.inner.Writers.{OfObject}}
use Rattle.examples.specs.Tables.{ArePrinted, table}
use Rattle.examples.proofs.tables.print_table.Given as goal

abbrev pub invariant-rows : goal.invariant-rows
invariant-rows g l = record {
  moves : Moves ((goal.Write-dyn g l.initial.w.now).told l.initial.w.now.1) (table (take l.id-index l.rows)) []
      ((goal.Write-dyn g l.w.now).told l.w.now.1);
  calls : OfObject l.initial.w.now (λ old new. ArePrinted (goal.Write-dyn g l.initial.w.now) old (take l.id-index l.rows) new) l.w.now;
}

-- One row more, or an error inside a row, is joined to the rows before by a lemma, which the search does not try.
use Rattle.no_std_io2.proofs.{Words.{rules, refl, returned_err}, MovesLemmas.{Moves-refl}}
use Rattle.examples.{specs.Tables.{no_row}, proofs.TableLemmas.{row_more, row_printed, row_refused, row_stops}}
use Rattle.examples.proofs.tables.print_table.Goals as goal

pub rows-init : goal.rows-init
rows-init g c = record { moves = Moves-refl _; calls = (c.args.w.now.1, refl, no_row) }

pub rows-preserved : goal.rows-preserved
rows-preserved g c =
    let before = c.rows.invariant in
    let printed = c.in_ok-print_to_object.ensures in
    record {
      moves = row_more c.args.rows.now c.rows.id-index c.rows-test.true before.moves printed.prints;
      calls = row_printed (λ o. goal.Write-dyn g o)
          (λ x a b. refl) c.args.w.now c.rows.w.now c.args.rows.now c.rows.id-index c.rows-test.true
          before.calls (c.rows.w.now.0, c.print_to_object.new.w) printed.calls;
    }

pub returns-in_err-print_to_object-clause-stops : goal.returns-in_err-print_to_object-clause-stops
returns-in_err-print_to_object-clause-stops g c =
    rw (returned_err c.from_residual.ensures)
    (row_stops c.args.rows.now c.rows.id-index c.rows-test.true c.rows.invariant.moves (search rules) (search rules)
    c.in_err-print_to_object.ensures.prints)

pub returns-in_err-print_to_object-clause-calls : goal.returns-in_err-print_to_object-clause-calls
returns-in_err-print_to_object-clause-calls g c =
    rw (returned_err c.from_residual.ensures)
    (row_refused (λ o. goal.Write-dyn g o) (λ x a b. refl) c.args.w.now c.rows.w.now c.args.rows.now c.rows.id-index c.rows-test.true
    c.rows.invariant.calls (c.rows.w.now.0, c.print_to_object.new.w) c.in_err-print_to_object.ensures.calls)

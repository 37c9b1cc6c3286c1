-- The prover does not go over the items of a run.
use Rattle.std.proofs.Common.{arith, string_bytes}
use Rattle.no_std_io2.proofs.{Words.{◌≡◌, false, newline}, TakesLemmas.{reader}}
use Rattle.no_std_io2.specs.{inner.Lines.{RefusesLine, line_text}, inner.Iterators.{lines_is_ended, lines_reader}}
use Rattle.io_bench.proofs.PieceRunLemmas.{lines_faults, lines_next, lines_takes, run_faults, run_gathers}
use Rattle.io_bench.proofs.pieces.run_lines.Goals as goal

pub returns-clause-told : goal.returns-clause-told
returns-clause-told g c = λ fresh.
    let R = reader g.R.Stored g.R.Read in
    run_gathers R lines_reader string_bytes line_text RefusesLine newline (lines_next R string_bytes)
    (λ s. lines_is_ended s ≡ false) (lines_takes R string_bytes) (Unit {0}) _ _ c.args.lines.now
    c.run_items.new.iter c.run_items.result fresh c.run_items.ensures.calls

pub returns-clause-never_interrupted : goal.returns-clause-never_interrupted
returns-clause-never_interrupted g c = grind (arith, reader, lines_faults, lines_next, run_faults, string_bytes)

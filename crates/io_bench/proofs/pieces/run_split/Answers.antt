-- The prover does not go over the items of a run.
use Rattle.std.proofs.Common.{arith, vec_items}
use Rattle.no_std_io2.proofs.{Words.{◌≡◌, false, refl, split_delim, split_reader, strip_last}, TakesLemmas.{reader}}
use Rattle.no_std_io2.specs.inner.Iterators.{split_is_ended}
use Rattle.io_bench.proofs.PieceRunLemmas.{run_faults, run_gathers, split_faults, split_next, split_takes}
use Rattle.io_bench.proofs.pieces.run_split.Goals as goal

pub returns-clause-told : goal.returns-clause-told
returns-clause-told g c = λ fresh.
    let R = reader g.R.Stored g.R.Read in
    let d = split_delim c.args.split.now in
    run_gathers R split_reader vec_items (strip_last d) (λ _ _. ⊥) d (split_next R vec_items)
    (λ s. (split_is_ended s ≡ false) × (split_delim s ≡ d)) (split_takes R vec_items d) (Unit {0}) _ _ c.args.split.now
    c.run_items.new.iter c.run_items.result (fresh, refl) c.run_items.ensures.calls

pub returns-clause-never_interrupted : goal.returns-clause-never_interrupted
returns-clause-never_interrupted g c = grind (arith, reader, run_faults, split_faults, split_next, vec_items)

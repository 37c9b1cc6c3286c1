-- The prover does not find that a told store is still told.
use Rattle.no_std_io2.{proofs.Words.{ℕ}, specs.Seek.{Seeks}}
use Rattle.promises.proofs.HeldPieces.{store_after}
use Rattle.promises.proofs.reads.goes_to_its_target.Goals as goal

pub returns : goal.returns
returns g c = λ was told.
    let goes = λ (len was now : ℕ). Seeks len was c.args.target c.seek.result now in
    let (now, still, kept) = store_after goes _ _ c.seek.ensures.law.store told in
    (now, still, kept.0, kept.1)

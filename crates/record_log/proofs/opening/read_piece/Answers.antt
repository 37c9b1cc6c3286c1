-- The prover does not find what a read of known bytes gives.
use Rattle.no_std_io2.proofs.Words.{refl, arith, returned_err}
use Rattle.record_log.proofs.PieceLemmas.{piece_comes, piece_full, piece_short, some_fault, some_full, some_short}
use Rattle.record_log.proofs.opening.read_piece.Goals as goal

pub returns-in_err-read_full-clause-known : goal.returns-in_err-read_full-clause-known
returns-in_err-read_full-clause-known g c = λ bytes told. absurd (piece_comes bytes told _ c.in_err-read_full.ensures.law)

pub returns-then-filled-piece-clause-known : goal.returns-then-filled-piece-clause-known
returns-then-filled-piece-clause-known g c = λ bytes told.
    (refl, piece_short bytes told _ c.in_ok-read_full.ensures.law c.read_full.auto.buf c.if-filled-piece.true)

pub returns-clause-known : goal.returns-clause-known
returns-clause-known g c = λ bytes told.
    (refl, piece_full bytes told _ c.in_ok-read_full.ensures.law c.read_full.auto.buf c.if-filled-piece.false)

pub returns-in_err-read_full-clause-fetches : goal.returns-in_err-read_full-clause-fetches
returns-in_err-read_full-clause-fetches g c = rw (returned_err c.from_residual.ensures) (some_fault c.in_err-read_full.ensures.law)

pub returns-then-filled-piece-clause-fetches : goal.returns-then-filled-piece-clause-fetches
returns-then-filled-piece-clause-fetches g c =
    some_short c.in_ok-read_full.ensures.law (omega (arith, c.if-filled-piece.true, c.read_full.auto.buf))

pub returns-clause-fetches : goal.returns-clause-fetches
returns-clause-fetches g c = some_full c.in_ok-read_full.ensures.law (omega (arith, c.if-filled-piece.false, c.read_full.auto.buf))

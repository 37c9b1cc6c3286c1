-- The prover does not find the state of the stream after the copy.
use Rattle.no_std_io2.proofs.Words.{inl, inr, arith, common_steps, same_text}
use Rattle.mycat.proofs.RunPerFile.try_file.Goals as goal

pub returns-then-eq : goal.returns-then-eq
returns-then-eq g c = inl (same_text _ _ c.if-eq.ensures, (_, _, c.stdin.ensures, c.pass.ensures))

pub returns-in-Ok : goal.returns-in-Ok
returns-in-Ok g c = inr ((λ same. grind (arith, common_steps)), inl (_, _, c.in-Ok.ensures, c.pass-in-Ok.ensures))

-- The prover does not join the calls of the `write_all` and the flush.
use Rattle.no_std_io2.proofs.{Words.{common_steps, arith, Flushed}, CallsLemmas.{by_are, by_more}}
use Rattle.promises.proofs.CallsEnd.{all_end, flushed_end}
use Rattle.promises.proofs.bytes.keeps_what_is_out.Goals as goal

pub returns-in_err-write_all-clause-calls : goal.returns-in_err-write_all-clause-calls
returns-in_err-write_all-clause-calls g c =
    by_are c.in_err-write_all.ensures.law.calls (λ C all. let ends = all_end all in grind (arith, common_steps, ends))

pub returns-clause-calls : goal.returns-clause-calls
returns-clause-calls g c =
    by_more c.in_ok-write_all.ensures.law.calls (Flushed c.flush.result) c.flush.ensures.law (λ C all. flushed_end C c.flush.result)

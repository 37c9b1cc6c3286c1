-- No byte was a newline: the search does not turn places into a recursion over the bytes.
use Rattle.no_std_io2.proofs.{Words.{common_steps, arith, newline}, LineLemmas.{contains_lacks}}
use Rattle.bare.proofs.log.has_newline.Goals as goal

pub returns-clause-lacks : goal.returns-clause-lacks
returns-clause-lacks c = contains_lacks newline c.args.text.now (λ has.
    c.bytes.invariant.1 has.0 0 (omega (arith, c.bytes-test.false)) has.1 (grind (arith, common_steps, has.2)))

-- The prover does not find that a held frame needs no read (`sees_none`), nor which frame comes back (`gives_back`, `round`).
use Rattle.no_std_io2.proofs.Words.{Some, Ok, refl, arith}
use Rattle.framing.proofs.{TakingLemmas.{sees_none, takes}, BackLemmas.{gives_back, round}}
use Rattle.framing.proofs.reader.FrameReader.next.Goals as goal

pub returns-in-Some-clause-takes : goal.returns-in-Some-clause-takes
returns-in-Some-clause-takes g c =
    let gave = c.in-Some.ensures in
    takes _ _ _ _ (Ok (Some c.in-Some.len)) _ (sees_none _ _ gave.inner) gave.gives.0 gave.behind (refl, gave.gives.1, gave.gives.2)

pub returns-in-Some-clause-back : goal.returns-in-Some-clause-back
returns-in-Some-clause-back g c = gives_back (Ok (Some c.in-Some.len)) (returns-in-Some-clause-takes g c)

pub returns-in-Some-clause-round : goal.returns-in-Some-clause-round
returns-in-Some-clause-round g c = λ old. λ new. λ sent. λ went. returns-in-Some-clause-back g c sent (round old new sent _ went)

pub returns-clause-takes : goal.returns-clause-takes
returns-clause-takes g c = grind (arith, c.match-self.branch, c.take_next.ensures.takes)

pub returns-clause-back : goal.returns-clause-back
returns-clause-back g c = gives_back c.take_next.result (returns-clause-takes g c)

pub returns-clause-round : goal.returns-clause-round
returns-clause-round g c = λ old. λ new. λ sent. λ went. returns-clause-back g c sent (round old new sent _ went)

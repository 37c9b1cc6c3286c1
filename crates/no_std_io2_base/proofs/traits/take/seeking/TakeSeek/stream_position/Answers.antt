-- The call goes nowhere (`stays_here`): the search does not rewrite the position in it.
use Rattle.std.proofs.Common.{◌<◌, ◌^◌, subst}
use Rattle.no_std_io2_base.proofs.LimitLemmas.{stays_here}
use Rattle.no_std_io2_base.proofs.traits.take.seeking.TakeSeek.stream_position.Goals as goal

pub returns-clause-law : goal.returns-clause-law
returns-clause-law g c =
    let at = c.position.ensures in
    record { store = tt; sound = λ is. is; position = tt; call = rw (at.is) (stays_here _ _ (subst (λ n. n < 2 ^ 64) at.is at.fits)) }

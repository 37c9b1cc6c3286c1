-- What a `write!` keeps is behind a `∥ ∥₁`.
use Rattle.std.proofs.{Math.{Logic.{∥∥₁_map}}, Common.{refl}}
use Rattle.no_std_io2.proofs.TextLemmas.{ok_had}
use Rattle.promises.proofs.rooms.takes_all_after_a_text.Goals as goal

pub returns : goal.returns
returns g c = λ all.
    let still = c.in_ok-write.ensures.law.all all in
    rw (ok_had c.write-2.result (∥∥₁_map still (λ t. (c.write-2.ensures.law.all (c.in_ok-write_all.ensures.law.all t)).1))) refl

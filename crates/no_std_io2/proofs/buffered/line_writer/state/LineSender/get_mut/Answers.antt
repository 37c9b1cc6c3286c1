-- What the loan writes back, as a record of all fields.
use Rattle.no_std_io2.proofs.Words.{refl, ap, ◌≡◌, List, ℕ, IsLineState}
use Rattle.std.proofs.Props.{props}
use Rattle.no_std_io2.proofs.buffered.line_writer.state.LineSender.get_mut.Goals as goal

-- the ghost field is the same, whichever proof it came from
same : (xs : List ℕ) (p q : IsLineState xs) → p ≡ q
same xs = Prim.hlevel props

pub returns : goal.returns
returns g c = (
  (refl, λ w. ap (λ line. record { buffered = record c.args.self.now.buffered { inner = w }; line = line }) (same _ _ _)),
  record { value = c.get_mut.ensures.value; writes_back = tt },
)

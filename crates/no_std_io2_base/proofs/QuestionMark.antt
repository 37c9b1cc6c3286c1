-- What a function returns on the path on which a `?` ends it.
use Rattle.std.{proofs.Common.{◌≡◌, Result, Ok, Err, ap}, specs.Prelude.{IsErr, IsErrAnd}}

-- the error of the call, or what `From` makes of it: `returned_err c.from_residual.ensures`
pub returned_err : {T E : Type 0} {r : Result T E} {e : E} → IsErr r × IsErrAnd r (λ y. y ≡ e) → r ≡ Err e
returned_err {r = Ok x} is = absurd is.1
returned_err {r = Err y} is = ap (λ z. Err z) is.1

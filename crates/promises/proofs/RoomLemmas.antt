-- For `rooms`: a call that fails only if there is no room does not fail if there is.
use Rattle.std.proofs.Common.{◌<◌, ◌≤◌, ℕ, Result, Ok, Err, IsOk, IfErr, refl, arith}
use Rattle.no_std_io2.specs.{declared.io.Error.{Error}, Errors.{IsOutOfMemory}}

pub has_room : {n m : ℕ} (reply : Result ℕ Error) → IfErr reply (λ e. IsOutOfMemory e × (n < m)) → m ≤ n → IsOk reply
has_room (Ok k) full room = refl
has_room (Err e) full room = absurd (omega (arith, full.1, room))

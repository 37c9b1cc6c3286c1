-- Which errors the calls of a writer may return.
use Rattle.std.specs.Prelude.{◌<◌, length, IfOk, IfErr}
use Rattle.no_std_io2.specs.{declared.io.Error.{Error}, Calls.{WriteCall, Wrote, WroteAll, Flushed}}

-- if the call failed, then with such an error; and a `write` of some bytes that returned `Ok` took some
abbrev pub FailsBy : (Error → Type 0) → WriteCall → Type 0
FailsBy Q (Wrote x reply) = IfErr reply Q × IfOk reply (λ n. 0 < length x → 0 < n)
FailsBy Q (WroteAll x reply) = IfErr reply Q
FailsBy Q (Flushed reply) = IfErr reply Q

-- each call that the writer may make fails with such errors only
abbrev pub FailsOnly : {W : Type 0} → (Error → Type 0) → (W → WriteCall → W → Type 0) → Type 0
FailsOnly {W} Q may = (old new : W) (call : WriteCall) → may old call new → FailsBy Q call

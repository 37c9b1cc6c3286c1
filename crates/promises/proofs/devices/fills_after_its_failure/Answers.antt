-- The prover does not find that only the bytes are left.
use Rattle.no_std_io2.proofs.Words.{common_steps, nat_tests, ◌≡◌, ◌<◌, ℕ, List, ◌∷◌, Result, Err, length, drop, map, arith, ap, ◌∙◌}
use Rattle.no_std_io2.proofs.Words.{answered}
use Rattle.no_std_io2.specs.{declared.io.Error.{Error}, declared.io.ErrorKind.{ErrorKind}, inner.Kinds.{error_of}, Takes.{gave_front}}
use Rattle.std.specs.Prelude.{IsErr}
use Rattle.io_bench.specs.{declared.feed.{Event.{TheVariants.{Byte, Fail}}, Feed.{Feed}}, Feed.{feed_left, feed_answer}}
use Rattle.io_bench.proofs.DeviceLemmas.{feed_fills}
use Rattle.promises.proofs.devices.fills_after_its_failure.Goals as goal

-- a read into some room returns the failure that comes first
fails_first : (f : Feed) (kind : ErrorKind) (x : List ℕ) (room : ℕ) → feed_left f ≡ Fail kind ∷ map Byte x → 0 < room
    → feed_answer f room ≡ Err (error_of kind)
fails_first f kind x room is some = grind (arith, common_steps, nat_tests)

-- it is an error then
is_error : (reply : Result ℕ Error) (buf : List ℕ) {e : Error} → gave_front reply buf ≡ Err e → IsErr reply
is_error reply buf is = grind (arith, common_steps)

pub returns : goal.returns
returns c = λ kind x is fits some.
    let f = c.args.f.now in
    let call = c.read.ensures.law.call in
    let failed = call.0 ∙ fails_first f kind x _ is (omega (arith, some, c.read.auto.buf)) in (
      is_error c.read.result c.read.new.buf failed,
      feed_fills c.read.new.self (
        x,
        call.1 ∙ ap (λ a. drop (length (answered a)) (feed_left f)) failed ∙ ap (drop 1) is,
        omega (arith, fits, call.2),
      ),
    )

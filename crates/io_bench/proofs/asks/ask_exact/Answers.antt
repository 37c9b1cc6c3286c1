-- The prover does not find how an ask was answered by the law of its call.
use Rattle.no_std_io2.proofs.Words.{common_steps, ◌≡◌, Ok, Err, arith, refl}
use Rattle.no_std_io2.specs.declared.io.{Error.{Error}, ErrorKind.{ErrorKind, TheVariants.{UnexpectedEof}}}
use Rattle.io_bench.specs.Asks.{end_or_error}
use Rattle.io_bench.proofs.asks.ask_exact.Goals as goal

-- an error of any other kind
other_error : (kind : ErrorKind) (e : Error) → (kind ≡ UnexpectedEof → ⊥) → Err e ≡ end_or_error kind e
other_error kind e other = grind (arith, common_steps)

pub returns-in-Ok : goal.returns-in-Ok
returns-in-Ok g c = (Ok c.in-Ok.field-0, refl, (_, _, c.read_exact.auto.buf, c.in-Ok.ensures.law))

pub returns-in-UnexpectedEof : goal.returns-in-UnexpectedEof
returns-in-UnexpectedEof g c = grind (arith, common_steps)

pub returns-in_default : goal.returns-in_default
returns-in_default g c = grind (arith, other_error)

-- The tries are constructors of `Tries`, which the search does not build. It finds `sends` too; its answer is the one that PROVING shows.
use Rattle.no_std_io2.proofs.Words.{◌≡◌, ℕ, List, Result, Ok, Err, true, false, arith, common_steps, refl, sym}
use Rattle.std.specs.Result.{is_ok}
use Rattle.no_std_io2.specs.{declared.io.Error.{Error}, Retries.{Tries, last_try, next_try}}
use Rattle.no_std_io2.proofs.MovesLemmas.{Sends-then}
use Rattle.examples.proofs.one_retry.send_with_one_retry.Goals as goal

pub returns-clause-sends : goal.returns-clause-sends
returns-clause-sends g c = Sends-then c.write_rest.ensures.law.sends c.write_rest-2.ensures.law.sends

module _ {W : Type 0} {law : W → List ℕ → Result (Unit {0}) Error → W → List ℕ → Type 0} where
  -- one try that succeeded
  tried_once : {old new : W} {x left : List ℕ} (reply : Result (Unit {0}) Error) → is_ok reply ≡ true → law old x reply new left
      → Tries law 1 old x (Ok tt) new left
  tried_once reply was made = grind (arith, common_steps, last_try)

  -- one that failed, and another one
  tried_twice : {old new : W} {x left : List ℕ} (mid : W) (rest : List ℕ) (first reply : Result (Unit {0}) Error)
      → is_ok first ≡ false → law old x first mid rest → law mid rest reply new left → Tries law 1 old x reply new left
  tried_twice mid rest (Err e) (Ok u) was made next = next_try made (last_try next tt)
  tried_twice mid rest (Err e) (Err f) was made next = next_try made (last_try next refl)
  tried_twice mid rest (Ok u) reply was made next = cc

pub returns-then-is_ok-clause-calls : goal.returns-then-is_ok-clause-calls
returns-then-is_ok-clause-calls g c = tried_once c.write_rest.result (sym c.if-is_ok.ensures.value) c.write_rest.ensures.law

pub returns-clause-calls : goal.returns-clause-calls
returns-clause-calls g c =
    tried_twice _ _ c.write_rest.result c.write_rest-2.result (sym c.if-is_ok.ensures.value)
    c.write_rest.ensures.law c.write_rest-2.ensures.law

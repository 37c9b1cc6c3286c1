-- A writer that fails as its acts say puts its bytes where the writer behind it does.
use Rattle.no_std_io2.proofs.Words.{◌≡◌, ℕ, ◌≤◌, List, take, refl, sym, ap, subst, arith, inl, inr, cases_lt, take-take, common_steps}
use Rattle.no_std_io2.proofs.Words.{Option, Some, None, Result, Ok, Err, Writer, CallOf, WriteCall, Wrote, WroteAll, Flushed, length-take}
use Rattle.no_std_io2.specs.declared.io.Error.{Error}
use Rattle.std.proofs.Common.{take_all, eq-zero-or-pos}
use Rattle.io_bench.specs.{Faulty.{FaultyMay, WritesBehind, faulty_inner, next_act}, declared.faulty.Act.{Act}}
use Rattle.io_bench.specs.declared.faulty.{Act.TheVariants.{Take, Zero, Fail}, Faulty.{Faulty}}
use Rattle.record_log.specs.Placed.{IsPutAt, PutsAt, PutsCall}

module _ {W : Type 0} (I : Writer W) (content : W → List ℕ) (place : W → ℕ) (puts : PutsAt I content place) where
  -- a write of a front of x
  front_puts : (n : ℕ) (x : List ℕ) (reply : Result ℕ Error) (old new : W) → CallOf I old (Wrote (take n x) reply) new
      → PutsCall (content old) (place old) (Wrote x reply) (content new) (place new)
  front_puts n x (Ok m) old new call =
      let did = puts old new (Wrote (take n x) (Ok m)) call in
      let few : m ≤ n = omega (arith, call.bound, length-take n x) in
      (subst (λ l. IsPutAt (place old) l (content old) (content new)) (take-take m n x few) did.0, did.1)
  front_puts n x (Err e) old new call =
      let did = puts old new (Wrote (take n x) (Err e)) call in (
        elim (cases_lt n did.0.0) [
          | inl past ↦ (
            n,
            subst (λ l. IsPutAt (place old) l (content old) (content new))
                (take_all did.0.0 (take n x) (omega (arith, past, length-take n x))) did.0.1,
          )
          | inr within ↦ (did.0.0, subst (λ l. IsPutAt (place old) l (content old) (content new)) (take-take did.0.0 n x within) did.0.1)
        ],
        did.1,
      )

  -- a write that changed nothing, and took no byte or failed
  none_puts : (x : List ℕ) (old new : W) → new ≡ old → PutsCall (content old) (place old) (Wrote x (Ok 0)) (content new) (place new)
  none_puts x old new same = (inr (refl, ap content same), omega (arith, ap place same))

  fails_puts : (x : List ℕ) (e : Error) (old new : W) → new ≡ old
      → PutsCall (content old) (place old) (Wrote x (Err e)) (content new) (place new)
  fails_puts x e old new same = ((0, inr (refl, ap content same)), ap place same)

  -- a write with an act
  behind_puts : (act : Option Act) (x : List ℕ) (reply : Result ℕ Error) (old new : W) → WritesBehind I act old x reply new
      → PutsCall (content old) (place old) (Wrote x reply) (content new) (place new)
  behind_puts None x reply old new call = puts old new (Wrote x reply) call
  behind_puts (Some (Take n)) x reply old new did = elim (eq-zero-or-pos n) [
    | inl zero ↦
        let nothing = did.1 zero in
        subst (λ r. PutsCall (content old) (place old) (Wrote x r) (content new) (place new)) (sym nothing.0)
        (none_puts x old new nothing.1)
    | inr some ↦ front_puts n x reply old new (did.0 some)
  ]
  behind_puts (Some Zero) x reply old new did =
      subst (λ r. PutsCall (content old) (place old) (Wrote x r) (content new) (place new)) (sym did.0) (none_puts x old new did.1)
  behind_puts (Some (Fail kind)) x (Ok n) old new did = absurd did.0
  behind_puts (Some (Fail kind)) x (Err e) old new did = fails_puts x e old new did.1

  -- a call
  pub faulty_puts : (old new : Faulty W) (call : WriteCall) → FaultyMay I old call new
      → PutsCall (content (faulty_inner old)) (place (faulty_inner old)) call (content (faulty_inner new)) (place (faulty_inner new))
  faulty_puts old new (Wrote x reply) did = behind_puts (next_act old) x reply (faulty_inner old) (faulty_inner new) did.1
  faulty_puts old new (WroteAll x reply) did = absurd did
  faulty_puts old new (Flushed reply) did =
      grind (arith, common_steps, puts (faulty_inner old) (faulty_inner new) (Flushed reply))

-- For `delivery`, `calls` and `bounds`: which call is the last, what calls cost, and what is nothing.
use Rattle.std.proofs.{Common.{arith}, lemmas.Grind.{common_steps}}
use Rattle.no_std_io2.proofs.Words.{◌≡◌, ℕ, List, [], ◌∷◌, ◌++◌, refl, Result, OnOk, Ok, Err, IfOk, IfErr, length, WriteCall, Wrote}
use Rattle.no_std_io2.proofs.Words.{WroteAll, Flushed, AllCalls, Writes, no_write, write_took, write_again, write_stuck, write_fault}
use Rattle.no_std_io2.proofs.Words.{first_stops, first_goes_on, RoomCalls}
use Rattle.no_std_io2.proofs.Words.{FlushCalls, WriteCalls, SingleCall, ◌+◌, ◌≤◌, Writer, calls_for, charges, IsMeter, Step, TakesStep}
use Rattle.no_std_io2.proofs.{BufWriterLemmas.{effect_of}, BufWriterCalls.{send_does}, MovesLemmas.{meter_made}}
use Rattle.no_std_io2.specs.{declared.io.Error.{Error}, inner.BufWriter.{PutCalls, UnwrapCalls}, inner.Meter.{Costs}}
use Rattle.no_std_io2.specs.declared.buffered.into_inner_error.IntoInnerError.{IntoInnerError}
use Rattle.promises.specs.Promises.{HasNoFlush, FailedWith, EndsIn, EndsInFlush}

-- For `delivery` and `calls`: two lists that are nothing together.

-- both are empty
pub both : (xs ys : List ℕ) → xs ++ ys ≡ [] → (xs ≡ []) × (ys ≡ [])
both [] ys h = (refl, h)
both (x ∷ xs) ys h = absurd (cc)

-- the second is
pub second : (reply : Result (Unit {0}) Error) (xs ys : List ℕ) → OnOk reply (xs ++ ys ≡ []) → OnOk reply (ys ≡ [])
second reply xs ys h = grind (arith, common_steps, both)

-- so are three
pub three : (reply : Result (Unit {0}) Error) (xs ys zs : List ℕ) → OnOk reply ((xs ++ ys) ++ zs ≡ [])
    → OnOk reply (xs ≡ []) × OnOk reply (ys ≡ []) × OnOk reply (zs ≡ [])
three reply xs ys zs h = grind (arith, common_steps, both)

-- Which call of a buffer's inner writer is the last.

-- one more call before the others changes nothing, if there are others
ends_before : (call : WriteCall) (C : List WriteCall) (e : Error) → EndsIn C e → EndsIn (call ∷ C) e
ends_before call C e ends = grind (arith, common_steps)

-- the last call ends them
ends_last : (C : List WriteCall) (call : WriteCall) (e : Error) → FailedWith call e → EndsIn (C ++ call ∷ []) e
ends_last [] call e failed = failed
ends_last (first ∷ C) call e failed = ends_before first (C ++ call ∷ []) e (ends_last C call e failed)

-- calls that end so end so behind others too
pub ends_after : (C D : List WriteCall) (e : Error) → EndsIn D e → EndsIn (C ++ D) e
ends_after [] D e ends = ends
ends_after (first ∷ C) D e ends = ends_before first (C ++ D) e (ends_after C D e ends)

-- the last call is that flush
flushed_last : (C : List WriteCall) → EndsInFlush (C ++ Flushed (Ok tt) ∷ [])
flushed_last [] = refl
flushed_last (first ∷ []) = refl
flushed_last (first ∷ next ∷ C) = flushed_last (next ∷ C)

-- a loop of writes ends in its fault
pub writes_end : {text : List ℕ} {C : List WriteCall} {x left : List ℕ} {reply : Result (Unit {0}) Error} → Writes text C x reply left
    → IfErr reply (EndsIn C)
writes_end no_write = tt
writes_end {reply = Ok u} (write_took some more w) = tt
writes_end {reply = Err e} (write_took {C = C} {x = x} {n = n} some more w) = ends_before (Wrote x (Ok n)) C e (writes_end w)
writes_end {reply = Ok u} (write_again some interrupted w) = tt
writes_end {reply = Err e} (write_again {C = C} {x = x} {e = f} some interrupted w) = ends_before (Wrote x (Err f)) C e (writes_end w)
writes_end (write_stuck some says) = (refl, says.0)
writes_end (write_fault some is) = refl

-- and so does a `write_all`
pub all_end : {C : List WriteCall} {x : List ℕ} {reply : Result (Unit {0}) Error} → AllCalls C x reply → IfErr reply (EndsIn C)
all_end calls = grind (arith, common_steps, writes_end)

-- a loop has no flush
writes_only : {text : List ℕ} {C : List WriteCall} {x left : List ℕ} {reply : Result (Unit {0}) Error} → Writes text C x reply left
    → HasNoFlush C
writes_only no_write = tt
writes_only (write_took some more w) = writes_only w
writes_only (write_again some interrupted w) = writes_only w
writes_only (write_stuck some says) = tt
writes_only (write_fault some is) = tt

both_only : (C D : List WriteCall) → HasNoFlush C → HasNoFlush D → HasNoFlush (C ++ D)
both_only [] D c d = d
both_only (Wrote x reply ∷ C) D c d = both_only C D c d
both_only (WroteAll x reply ∷ C) D c d = both_only C D c d
both_only (Flushed reply ∷ C) D c d = absurd c

-- a `flush`
pub flush_ends : {held left : List ℕ} {C : List WriteCall} {reply : Result (Unit {0}) Error} → FlushCalls held C reply left
    → IfErr reply (EndsIn C)
flush_ends calls = grind (arith, common_steps, ends_last, first_goes_on, first_stops, writes_end)

-- one that succeeded ends in a flush
pub flush_flushed : {held left : List ℕ} {C : List WriteCall} {reply : Result (Unit {0}) Error} → FlushCalls held C reply left
    → OnOk reply (EndsInFlush C)
flush_flushed calls = grind (arith, common_steps, flushed_last, first_goes_on, first_stops)

-- the way for a write
room_ends : (n : ℕ) {S : ℕ} {held left : List ℕ} {C : List WriteCall} {e : Error} → RoomCalls S n held C (Err e) left → EndsIn C e
room_ends n way = grind (arith, common_steps, writes_end)

room_only : (n : ℕ) {S : ℕ} {held left : List ℕ} {C : List WriteCall} {reply : Result (Unit {0}) Error} → RoomCalls S n held C reply left
    → HasNoFlush C
room_only n way = grind (arith, common_steps, writes_only)

-- what is written after it
put_only : {S : ℕ} {x held left : List ℕ} {D : List WriteCall} {reply : Result ℕ Error}
    → PutCalls S x (length x) (SingleCall (Wrote x)) held D reply left → HasNoFlush D
put_only put = grind (arith, common_steps)

put_ends : {S : ℕ} {x held left : List ℕ} {D : List WriteCall} {e : Error} (C : List WriteCall)
    → PutCalls S x (length x) (SingleCall (Wrote x)) held D (Err e) left → EndsIn (C ++ D) e
put_ends C put = grind (arith, common_steps, ends_last)

-- a `write`
pub write_only : {S : ℕ} {x held left : List ℕ} {C : List WriteCall} {reply : Result ℕ Error} → WriteCalls S x held C reply left
    → HasNoFlush C
write_only {x = x} (first_stops way) = room_only (length x) way
write_only {x = x} (first_goes_on {C} {D} way put) = both_only C D (room_only (length x) way) (put_only put)

pub write_ends : {S : ℕ} {x held left : List ℕ} {C : List WriteCall} {reply : Result ℕ Error} → WriteCalls S x held C reply left
    → IfErr reply (EndsIn C)
write_ends {x = x} (first_stops way) = room_ends (length x) way
write_ends {reply = Ok n} (first_goes_on way put) = tt
write_ends {reply = Err e} (first_goes_on {C} way put) = put_ends C put

-- what holds for each value holds for that of the result
pub if_ok : {A E : Type 0} (reply : Result A E) {P Q : A → Type 0} → ((a : A) → P a → Q a) → IfOk reply P → IfOk reply Q
if_ok reply each holds = grind (arith, common_steps)

-- behind other calls
pub ends_after_both : (C D : List WriteCall) (reply : Result (Unit {0}) Error) → IfErr reply (EndsIn D) → IfErr reply (EndsIn (C ++ D))
ends_after_both C D reply ends = grind (arith, common_steps, ends_after)

-- a flush behind other calls
pub flushed_end : (C : List WriteCall) (reply : Result (Unit {0}) Error) → IfErr reply (EndsIn (C ++ Flushed reply ∷ []))
flushed_end C reply = grind (arith, common_steps, ends_last)

-- For `bounds` and `counts`: what the calls of a buffered writer cost, by each number that counts those of the inner writer.

module _ {W : Type 0} (I : Writer W) where
  -- a step costs at most what its calls count as
  pub few_cost : {A B : Type 0} (cost : W → ℕ) → IsMeter I.may cost → (inner : B → W) (buffer : B → List ℕ) (step : Step A) (old new : B)
      {reply : Result A Error} {n : ℕ} (takes : TakesStep I inner buffer step old reply new) → charges takes.calls ≤ n
      → cost (inner new) ≤ cost (inner old) + n
  few_cost cost meter inner buffer step old new takes few =
      omega (arith, meter_made I cost meter takes.calls (inner old) (inner new) takes.made, few)

  -- `into_inner` costs one call for the held bytes
  pub unwrap_cost : {B : Type 0} (inner : B → W) (buffer : B → List ℕ) (old : B) (reply : Result W (IntoInnerError B))
      → UnwrapCalls I inner buffer old reply → IfOk reply (λ w. Costs I (inner old) (calls_for (buffer old)) w)
  unwrap_cost inner buffer old (Ok w) calls = λ cost meter takes.
      let sent = (effect_of (send_does I) calls).counts takes in
      omega (arith, meter_made I cost meter calls.calls (inner old) w calls.made, sent.2)
  unwrap_cost inner buffer old (Err e) calls = tt

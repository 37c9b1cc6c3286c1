-- The law of each call of `Write`, and what a call adds to the state of a wrapper.
use Rattle.std.specs.Prelude.{◌≡◌, ℕ, ◌≤◌, List, [], ◌∷◌, ◌++◌, length, take, Result, Ok, Err, OnOk, IfOk, IsOk, codes}
use Rattle.no_std_io2_base.specs.{declared.error.Error.{Error}, declared.error.ErrorKind.{ErrorKind}, Errors.{error_kind, IsNoInterruption}}
use Rattle.no_std_io2_base.specs.Moves.{WriterState, IsFront, Moves, call_mishap, MovesFront, Sends}
use Rattle.no_std_io2_base.specs.inner.Write.{zero_write, Writes, AllCalls, AcceptsAll}
use Rattle.no_std_io2_base.specs.Calls.{WriteCall, Wrote, WroteAll, Flushed, ByCalls}

-- the bytes of x that were accepted, by the result of `write(x)`
abbrev pub accepted_of : Result ℕ Error → List ℕ → List ℕ
accepted_of (Ok n) x = take n x
accepted_of (Err e) x = []

-- the mishap that a result of `write(x)` counts as, if it is one
abbrev pub write_mishap : Result ℕ Error → List ℕ → List ErrorKind
write_mishap (Ok n) x = zero_write n x
write_mishap (Err e) x = error_kind e ∷ []

-- `write(x)`
pub record WriteLaw {W : Type 0} (told : W → WriterState) (takes_all : W → Type 0) (may : W → WriteCall → W → Type 0)
    (old : W) (x : List ℕ) (reply : Result ℕ Error) (new : W) : Type 0 where
  -- at most the length of x is reported as accepted
  pub bound : IfOk reply (λ n. n ≤ length x)
  -- the bytes that the result reports were accepted, and an error or a zero is a mishap
  pub moves : Moves (told old) (accepted_of reply x) (write_mishap reply x) (told new)
  -- if the writer takes all, it accepted all of x, and it still takes all
  pub all : AcceptsAll told takes_all old → AcceptsAll told takes_all new × (reply ≡ Ok (length x))
  -- it is one call
  pub call : may old (Wrote x reply) new

-- `flush()`
pub record FlushLaw {W : Type 0} (told : W → WriterState) (takes_all : W → Type 0) (may : W → WriteCall → W → Type 0)
    (old : W) (reply : Result (Unit {0}) Error) (new : W) : Type 0 where
  -- after `Ok` nothing is held
  pub empty : OnOk reply ((told new).held ≡ [])
  -- no byte was accepted, and an error is a mishap
  pub moves : Moves (told old) [] (call_mishap reply) (told new)
  -- a writer that takes all still takes all
  pub all : AcceptsAll told takes_all old → AcceptsAll told takes_all new
  -- it is one call
  pub call : may old (Flushed reply) new

-- a call, by its law
abbrev pub CallLaw : {W : Type 0} → (W → WriterState) → (W → Type 0) → (W → WriteCall → W → Type 0) → W → WriteCall → W → Type 0
CallLaw told takes_all may old (Wrote x reply) new = WriteLaw told takes_all may old x reply new
CallLaw told takes_all may old (Flushed reply) new = FlushLaw told takes_all may old reply new
CallLaw told takes_all may old (WroteAll x reply) new = may old (WroteAll x reply) new
    × IsNoInterruption reply × MovesFront (told old) x reply (told new)
    × (AcceptsAll told takes_all old → AcceptsAll told takes_all new)

-- `write_all(x)`
pub record WriteAllLaw {W : Type 0} (told : W → WriterState) (takes_all : W → Type 0) (may : W → WriteCall → W → Type 0)
    (old : W) (x : List ℕ) (reply : Result (Unit {0}) Error) (new : W) : Type 0 where
  -- the result is never an interruption
  pub never_interrupted : IsNoInterruption reply
  -- some front of x was accepted, all of it after `Ok`, and an error is a mishap
  pub moves : MovesFront (told old) x reply (told new)
  -- a writer that takes all still takes all
  pub all : AcceptsAll told takes_all old → AcceptsAll told takes_all new
  -- which calls it made
  pub calls : ByCalls (CallLaw told takes_all may) old (λ C. AllCalls C x reply) new

-- `write_rest(&mut x)`
pub record WriteRestLaw {W : Type 0} (told : W → WriterState) (takes_all : W → Type 0) (may : W → WriteCall → W → Type 0)
    (old : W) (x : List ℕ) (reply : Result (Unit {0}) Error) (new : W) (left : List ℕ) : Type 0 where
  -- the result is never an interruption
  pub never_interrupted : IsNoInterruption reply
  -- exactly the bytes that are gone from the front of x were accepted, and an error is a mishap
  pub sends : Sends (told old) x reply (told new) left
  -- after `Ok` nothing is left
  pub done : OnOk reply (left ≡ [])
  -- if the writer takes all, it accepted all of x, and it still takes all
  pub all : AcceptsAll told takes_all old → AcceptsAll told takes_all new × IsOk reply
  -- which writes it made
  pub calls : ByCalls (CallLaw told takes_all may) old (λ C. Writes (codes "failed to write whole buffer") C x reply left) new

-- `Adds old bytes new` says what a writer does if it accepts these bytes. A call did this with the bytes that it accepted.
abbrev pub CallAdds : {W : Type 0} → (W → List ℕ → W → Type 0) → W → WriteCall → W → Type 0
CallAdds Adds old (Wrote x reply) new = Adds old (accepted_of reply x) new
CallAdds Adds old (WroteAll x reply) new =
    (accepted : List ℕ) × IsFront accepted x × OnOk reply (accepted ≡ x) × Adds old accepted new
CallAdds Adds old (Flushed reply) new = Adds old [] new

-- A loop that wrote x and left `left` did what `Adds` says with exactly the bytes that are gone from the front of x.
abbrev pub RestAdds : {W : Type 0} → (W → List ℕ → W → Type 0) → W → List ℕ → Result (Unit {0}) Error → W → List ℕ → Type 0
RestAdds Adds old x reply new left = (sent : List ℕ) × (x ≡ sent ++ left) × OnOk reply (left ≡ []) × Adds old sent new

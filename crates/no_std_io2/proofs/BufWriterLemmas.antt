-- What a buffer in front of a writer tells, and how its steps follow one another.
use Rattle.std.proofs.Common.{inl, inr}
use Rattle.no_std_io2.proofs.Words.{common_steps, nil_from_length, ◌≡◌, ℕ, ◌-◌, ◌≤◌, length-take, length-append, Result, Ok, Err, OnOk, []}
use Rattle.no_std_io2.proofs.Words.{List, ◌++◌, length, drop, sym, ap, subst, ◌∙◌, arith, append_assoc, append-nil, WriterState, Moves}
use Rattle.no_std_io2.proofs.Words.{MovesFront, with_buffer, writer_inner, writer_buffer, writer_told, IsSuffix, TakesAll, CallOf, Writer}
use Rattle.no_std_io2.proofs.Words.{WriteCall, Made, call_mishap, charges, false, true, ◌+◌, IsOk, Step, Stepped, Then, first_stops}
use Rattle.no_std_io2.{proofs.Words.{first_goes_on, nat_tests, FlushCalls, ◌∷◌, refl, LevelCalls}, specs.inner.BufWriter.{WriteAllCalls}}
use Rattle.no_std_io2.specs.{inner.BufWriter.{RoomCalls, PutCalls}, declared.buffered.buf_writer.BufWriter.{BufWriter}}
use Rattle.no_std_io2_base.proofs.{MovesLemmas.{charges-append, after_ok, IsFront-refl}, CallsLemmas.{by_are, by_then, made_split, law_may}}
use Rattle.no_std_io2_base.{proofs.CallsAdd.{Joins, writes_add, all_adds}, specs.{Errors.{IsNoInterruption}, Write.{CallAdds, RestAdds}}}
use Rattle.no_std_io2_base.specs.{Calls.{ByCalls, WroteAll}, declared.error.{ErrorKind.{ErrorKind}, Error.{Error}}, inner.Write.{AllCalls}}

-- What a buffer in front of a writer tells. For both buffered writers, and for callers with a new buffer in front of a device.

-- What the inner writer accepted, x, came from the front of the buffer and of what was given, y.
pub Moves-buffered : {a b : WriterState} {x : List ℕ} {k : List ErrorKind} (old new y : List ℕ) → Moves a x k b
    → old ++ y ≡ x ++ new → Moves (with_buffer a old) y k (with_buffer b new)
Moves-buffered {a} {b} {x} old new y f e = grind (arith, common_steps)

-- past an empty buffer
pub Moves-emptied : {a b : WriterState} {x : List ℕ} {k : List ErrorKind} {held left : List ℕ} → held ≡ [] → left ≡ [] → Moves a x k b
    → Moves (with_buffer a held) x k (with_buffer b left)
Moves-emptied {x} {held} {left} none empty f = grind (arith, common_steps)

-- the same of a `write_all`
pub MovesFront-emptied : {a b : WriterState} {x : List ℕ} {r : Result (Unit {0}) Error} {held left : List ℕ} → held ≡ [] → left ≡ []
    → MovesFront a x r b → MovesFront (with_buffer a held) x r (with_buffer b left)
MovesFront-emptied none empty f = grind (arith, common_steps)

-- at most S bytes are held
pub buffer-le : {W : Type 0} {S : ℕ} (w : BufWriter W S) → length (writer_buffer w) ≤ S
buffer-le w = let c = w.sender.buffer in omega (arith, length-take (c.end - c.start) (drop c.start c.bytes), c.in_range)

-- an empty buffer in front changes nothing
pub Moves-bare : {a b : WriterState} {x : List ℕ} {k : List ErrorKind} (buffer : List ℕ) → buffer ≡ []
    → Moves (with_buffer a buffer) x k b → Moves a x k b
Moves-bare {a} {b} {x} buffer e f = grind (arith, common_steps)

-- a suffix of a suffix is a suffix, also with more bytes after both
pub IsSuffix-trans : (old mid new : List ℕ) → IsSuffix old mid → IsSuffix mid new → IsSuffix old new
IsSuffix-trans old mid new f g = (f.0 ++ g.0, f.1 ∙ ap (λ l. f.0 ++ l) g.1 ∙ sym (append_assoc f.0 g.0 new))

-- the same, with the inner writer the same
pub Moves-kept : {W : Type 0} (told : W → WriterState) (inner next : W) (old new x : List ℕ) → next ≡ inner → new ≡ old ++ x
    → Moves (with_buffer (told inner) old) x [] (with_buffer (told next) new)
Moves-kept told inner next old new x same e = grind (arith, common_steps)

-- an empty buffer in front of a device, and afterwards a buffer with any bytes: its `Moves` is the `Moves` of the device
pub Moves-device : {W : Type 0} {S : ℕ} {a : WriterState} {b : WriterState} {x : List ℕ} {k : List ErrorKind} (told : W → WriterState)
    (w : BufWriter W S)
    (device : W) → writer_inner w ≡ device → writer_buffer w ≡ [] → a ≡ writer_told told w → Moves a x k b → Moves (told device) x k b
Moves-device {b = b} {x = x} {k = k} told w device inner none is m = grind (arith, common_steps)

-- if nothing is held below and in a buffer, nothing is in the buffer
pub buffer_none : (r : Result (Unit {0}) Error) (below buffer : List ℕ) → OnOk r (below ++ buffer ≡ []) → OnOk r (buffer ≡ [])
buffer_none (Ok u) below buffer none = nil_from_length buffer (omega (arith, ap length none, length-append below buffer))
buffer_none (Err e) below buffer none = tt

-- Steps of a writer with a buffer: what two steps do, they do one after another. For the lemmas of both buffered writers.

-- no error is `Ok`
pub no_ok : {T : Type 0} → false ≡ true → T
no_ok h = absurd (let no : ⊥ = cc in no)

module _ {W A : Type 0} {I : Writer W} {first : Step (Unit {0})} {next : Step A} where
  -- the first step failed, and its error is the result
  pub then_stops : {held left : List ℕ} {e : Error} {a b : W} → Stepped I first a held (Err e) left b
      → Stepped I (Then first next) a held (Err e) left b
  then_stops p = by_are p (λ C f. first_stops f)

  -- it did not, and the next one followed
  pub then_goes_on : {held left : List ℕ} {reply : Result A Error} {a m b : W} (mid : List ℕ)
      → Stepped I first a held (Ok tt) mid m → Stepped I next m mid reply left b → Stepped I (Then first next) a held reply left b
  then_goes_on mid p q = by_then p q (λ C D f g. first_goes_on f g)

-- how a step with its result changes what is told
abbrev pub Effect : Type 0 → Type 1
Effect A = WriterState → Result A Error → WriterState → Type 0

-- What a step does, from the inner writer a with `held` to b with `left`, by the calls C.
pub record StepEffect {W A : Type 0} (I : Writer W) (R : Effect A) (F : List ℕ → List ℕ → Type 0)
    (n : List ℕ → ℕ) (a : W) (held : List ℕ) (C : List WriteCall) (reply : Result A Error) (left : List ℕ) (b : W) : Type 0 where
  -- how it changes what is told
  pub told : R (with_buffer (I.told a) held) reply (with_buffer (I.told b) left)
  -- what is held after an `Ok`
  pub leaves : OnOk reply (F held left)
  -- over an inner writer that takes all: it still does, there is no error, and so many calls are counted
  pub counts : TakesAll I a → TakesAll I b × IsOk reply × (charges C ≡ n held)

-- however a step is taken, it does that
abbrev pub Always : {W A : Type 0} → Writer W → Step A → Effect A → (List ℕ → List ℕ → Type 0) → (List ℕ → ℕ) → Type 0
Always {W} {A} I step R F n = (a b : W) (held left : List ℕ) (C : List WriteCall) (reply : Result A Error) → step held C reply left
    → Made (CallOf I) a C b → StepEffect I R F n a held C reply left b

module _ {W A : Type 0} {I : Writer W} {step : Step A} {R : Effect A} {F : List ℕ → List ℕ → Type 0} {n : List ℕ → ℕ} {a b : W} where
  -- also by these calls,
  pub effect_by : {held left : List ℕ} {C : List WriteCall} {reply : Result A Error} → Always I step R F n → step held C reply left
      → Made (CallOf I) a C b → StepEffect I R F n a held C reply left b
  effect_by always is made = always _ _ _ _ _ _ is made

  -- and this time
  pub effect_of : {held left : List ℕ} {reply : Result A Error} → Always I step R F n → (p : Stepped I step a held reply left b)
      → StepEffect I R F n a held p.calls reply left b
  effect_of always p = effect_by always p.are p.made

-- exactly this is held then,
abbrev pub Exactly : (List ℕ → List ℕ) → List ℕ → List ℕ → Type 0
Exactly f held left = left ≡ f held

-- or nothing
abbrev pub Emptied : List ℕ → List ℕ → Type 0
Emptied held left = left ≡ []

-- no byte is accepted, and an error is a mishap and no interruption
abbrev pub Sending : Effect (Unit {0})
Sending old reply new = IsNoInterruption reply × Moves old [] (call_mishap reply) new

-- What P tells of a first step and Q of the next, R tells of both.
pub record StepsJoin {A : Type 0} (P : Effect (Unit {0})) (Q R : Effect A) : Type 0 where
  -- the first failed
  pub first_fails : (s t : WriterState) (e : Error) → P s (Err e) t → R s (Err e) t
  -- it did not, and the next one followed
  pub joins : (s m t : WriterState) (reply : Result A Error) → P s (Ok tt) m → Q m reply t → R s reply t

-- `first?; next`
pub then_does : {W A : Type 0} {I : Writer W} {P : Effect (Unit {0})} {Q R : Effect A} (first : Step (Unit {0})) (next : Step A)
    {f : List ℕ → List ℕ} {n : List ℕ → ℕ} {G : List ℕ → List ℕ → Type 0} {k : List ℕ → ℕ} → StepsJoin P Q R
    → Always I first P (Exactly f) n → Always I next Q G k → Always I (Then first next) R (λ held. G (f held)) (λ held. n held + k (f held))
then_does first next follows one two a b held left _ _ (first_stops p) made =
    let x = effect_by one p made in
    record { told = follows.first_fails _ _ _ x.told; leaves = tt; counts = λ t. no_ok (x.counts t).1 }
then_does {I} first next {G = G} {k = k} follows one two a b held left _ reply (first_goes_on {C = C} {D = D} p q) made =
    let parts = made_split (CallOf I) C a D b made in
    let x = effect_by one p parts.1 in
    let y = effect_by two q parts.2 in
    record {
      told = follows.joins _ _ _ reply x.told y.told;
      leaves = subst (λ l. OnOk reply (G l left)) x.leaves y.leaves;
      counts = λ t. let c = x.counts t in let d = y.counts c.0 in
          (d.0, d.1, omega (arith, charges-append C D, c.2, d.2, ap k x.leaves));
    }

-- What each inner call adds to an inner writer's own state, the calls of a buffer in front of it add together.

-- Of the held bytes and of x after them, these were added, and the rest is held.
pub record AddsThrough {W : Type 0} (Adds : W → List ℕ → W → Type 0) (held left : List ℕ) (a : W) (x : List ℕ) (b : W) : Type 0 where
  pub sent : List ℕ
  pub split : held ++ x ≡ sent ++ left
  pub adds : Adds a sent b

module _ {W : Type 0} {may : W → WriteCall → W → Type 0} {Adds : W → List ℕ → W → Type 0} (joins : Joins Adds) where
  module _ (each : (a b : W) (call : WriteCall) → may a call b → CallAdds Adds a call b) where
    -- those of a `flush`: the bytes that are no longer held were added, after `Ok` all held bytes
    flushed_adds : {C : List WriteCall} {held left : List ℕ} {reply : Result (Unit {0}) Error} → FlushCalls held C reply left
        → (a b : W) → Made may a C b → RestAdds Adds a held reply b left
    flushed_adds = grind (arith, nat_tests, writes_add, made_split, after_ok, append-nil)

    -- The calls of a `flush` add the bytes that the buffer no longer holds, after `Ok` all that it held.
    pub flush_adds : {held left : List ℕ} {reply : Result (Unit {0}) Error} {a b : W} → ByCalls may a (λ C. FlushCalls held C reply left) b
        → RestAdds Adds a held reply b left
    flush_adds {a = a} {b} calls = flushed_adds calls.are a b calls.made

    -- Room was made: the bytes that are no longer held were added, after an error too.
    room_adds : (S n : ℕ) {C : List WriteCall} {held left : List ℕ} {reply : Result (Unit {0}) Error} → RoomCalls S n held C reply left
        → (a b : W) → Made may a C b → AddsThrough Adds held left a [] b
    room_adds = grind (arith, writes_add, append-nil)

    -- room was made, and then y was taken
    then_adds : {held mid left y : List ℕ} {a m b : W} → AddsThrough Adds held mid a [] m → AddsThrough Adds mid left m y b
        → AddsThrough Adds held left a y b
    then_adds {held} {mid} {left} {y} p q = record {
      sent = p.sent ++ q.sent;
      split = ap (λ h. h ++ y) (sym (append-nil held) ∙ p.split) ∙ append_assoc p.sent mid y ∙ ap (λ l. p.sent ++ l) q.split
          ∙ sym (append_assoc p.sent q.sent left);
      adds = joins.more _ _ _ p.sent q.sent p.adds q.adds;
    }

    -- by the calls of one `write_all`
    put_all : (S : ℕ) {C : List WriteCall} {x held left : List ℕ} {reply : Result (Unit {0}) Error}
        → PutCalls S x tt (λ C. AllCalls C x) held C reply left → (a b : W) → Made may a C b
        → CallAdds (AddsThrough Adds held left) a (WroteAll x reply) b
    put_all S {x = x} {reply = reply} (inl short) a b made =
        (x, IsFront-refl x, after_ok reply refl, record { sent = []; split = grind (arith); adds = grind (arith) })
    put_all S {C} {x} {reply = reply} (inr past) a b made =
        let r = all_adds joins each C x reply a b made past.1.2 in
        (r.0, r.1, r.2, record { sent = r.0; split = grind (arith, append-nil); adds = r.3 })

    -- the same of a `write_all`
    written_all_adds : {S : ℕ} {C : List WriteCall} {x held left : List ℕ} {reply : Result (Unit {0}) Error}
        → WriteAllCalls S x held C reply left → (a b : W) → Made may a C b → CallAdds (AddsThrough Adds held left) a (WroteAll x reply) b
    written_all_adds {S} {x = x} (first_stops room) a b made = ([], (x, refl), tt, room_adds S (length x) room a b made)
    written_all_adds {S} {x = x} (first_goes_on {C} {D} room put) a b made =
        let m = made_split may C a D b made in
        let p = put_all S put m.0 b m.2 in (p.0, p.1, p.2, then_adds (room_adds S (length x) room a m.0 m.1) p.3)

    -- The same of a `write_all` of x, which took all of x after `Ok`, and some front of x after an error.
    pub buffered_all_adds : {S : ℕ} {x held left : List ℕ} {reply : Result (Unit {0}) Error} {a b : W}
        → ByCalls may a (λ C. WriteAllCalls S x held C reply left) b → CallAdds (AddsThrough Adds held left) a (WroteAll x reply) b
    buffered_all_adds {a = a} {b} calls = written_all_adds calls.are a b calls.made

-- The calls of a tower are calls of the device below it. For callers over towers.

-- if each call makes such inner calls, calls one after another do
pub level_by_level : {W B : Type 0} (I : Writer W) (K : Writer B) (inner : B → W) (buffer : B → List ℕ)
    (level : List ℕ → WriteCall → List WriteCall → List ℕ → Type 0) → ((a b : B) (call : WriteCall) → K.may a call b
    → ByCalls (CallOf I) (inner a) (λ D. level (buffer a) call D (buffer b)) (inner b))
    → (C : List WriteCall) (a b : B) → Made (CallOf K) a C b
    → ByCalls (CallOf I) (inner a) (λ D. LevelCalls level (buffer a) C D (buffer b)) (inner b)
level_by_level I K inner buffer level each [] a b made = record { calls = []; made = ap inner made; are = (refl, ap buffer made) }
level_by_level I K inner buffer level each (call ∷ C) a b made =
    let one = each a made.0 call (law_may K a made.0 call made.1) in
    by_then one (level_by_level I K inner buffer level each C made.0 b made.2) (λ D E f g. (buffer made.0, D, E, f, g, refl))

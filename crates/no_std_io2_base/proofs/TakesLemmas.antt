-- What calls take of the events and the bytes that a reader tells, and whose fault an error is.
use Rattle.no_std_io2_base.specs.declared.traits.{read.Read.{Ghosts as Reads}, stored.Stored.{Ghosts as Stores}}
use Rattle.no_std_io2_base.specs.{declared.traits.seek.Seek.{Ghosts as Seeks}, Reads.{Took, TakesBytes}, inner.Reads.{GathersTo}}
use Rattle.no_std_io2_base.specs.{Takes.{Reader, tells, gave_front, ReaderState, Takes, to_come, IsAtEnd}, Calls.{ReadCall, Made}}
use Rattle.no_std_io2_base.specs.{inner.Read.{without_number, bytes_given, GaveLaw, Gives, AllOrNone, DrainsOrStops}, Read.{ReadCallLaw}}
use Rattle.no_std_io2_base.specs.{Read.{ReadLaw, ReadExactLaw}, Seek.{Seeker}, Events.{Event, byte, fails, events_of, event_bytes}}
use Rattle.no_std_io2_base.specs.{Events.{HasNoFault}, inner.Events.{cut, EndsInFault}, declared.error.Error.{Error}}
use Rattle.no_std_io2_base.specs.{Errors.{IsInterruption, error_kind}, inner.Pieces.{IsAll}, Moves.{WriterState, Moves}}
use Rattle.no_std_io2_base.{specs.inner.Faults.{HasFirstFault, TellsMishap, MayFail}, proofs.CallsLemmas.{made_map}}
use Rattle.std.proofs.Common.{◌≡◌, ℕ, zero, suc, ◌+◌, ◌-◌, ◌<◌, ◌≤◌, List, [], ◌∷◌, ◌++◌, length, take, refl, sym, ap, ◌∙◌, arith, Result}
use Rattle.std.proofs.Common.{Ok, Err, Option, Some, subst, append_assoc, append-nil, length-append, drop, length-take-le, IfOk, IfSome}
use Rattle.std.proofs.{Common.{OnOk, inl, inr, ◌⊎◌, Bool, true}, lemmas.Grind.{common_steps}}

-- Readers and seekers, as the laws of their calls take them.

-- the members of a bound
abbrev pub reader : {X : Type 0} → Stores X → Reads X → Reader X
reader stored read = record { store = stored.store; turns = read.turns; events = read.events; may = read.may; held = read.held }

-- the members of a bound `Seek`
abbrev pub seeker : {X : Type 0} → Stores X → Seeks X → Seeker X
seeker stored seek = record { store = stored.store; may = seek.may; sound = seek.sound }

-- How bytes, cuts and faults of events go with `++`.

-- the bytes of P and then Q are the bytes of P, and then those of Q
pub bytes-append : (P Q : List Event) → event_bytes (P ++ Q) ≡ event_bytes P ++ event_bytes Q
bytes-append [] Q = refl
bytes-append (byte b ∷ P) Q = ap (λ l. b ∷ l) (bytes-append P Q)
bytes-append (fails e ∷ P) Q = bytes-append P Q

-- the bytes of the events of some bytes are these
pub bytes-events_of : (bs : List ℕ) → event_bytes (events_of bs) ≡ bs
bytes-events_of [] = refl
bytes-events_of (b ∷ bs) = ap (λ l. b ∷ l) (bytes-events_of bs)

-- the bytes of some bytes and then of E
pub bytes-behind : (bs : List ℕ) (E : List Event) → event_bytes (events_of bs ++ E) ≡ bs ++ event_bytes E
bytes-behind bs E = bytes-append (events_of bs) E ∙ ap (λ l. l ++ event_bytes E) (bytes-events_of bs)

-- bytes turned into events are as many as before
pub length-events_of : (bs : List ℕ) → length (events_of bs) ≡ length bs
length-events_of [] = refl
length-events_of (b ∷ bs) = ap suc (length-events_of bs)

-- the events of bs and then cs are the events of bs, and then those of cs
pub events_of-append : (bs cs : List ℕ) → events_of (bs ++ cs) ≡ events_of bs ++ events_of cs
events_of-append [] cs = refl
events_of-append (b ∷ bs) cs = ap (λ l. byte b ∷ l) (events_of-append bs cs)

-- two lists with no fault, joined, have none
pub HasNoFault-append : (P Q : List Event) → HasNoFault P → HasNoFault Q → HasNoFault (P ++ Q)
HasNoFault-append [] Q p q = q
HasNoFault-append (byte b ∷ P) Q p q = HasNoFault-append P Q p q
HasNoFault-append (fails e ∷ P) Q p q = (p.0, HasNoFault-append P Q p.1 q)

-- the front of a list with no fault has none
pub HasNoFault-front : (P Q : List Event) → HasNoFault (P ++ Q) → HasNoFault P
HasNoFault-front [] Q h = tt
HasNoFault-front (byte b ∷ P) Q h = HasNoFault-front P Q h
HasNoFault-front (fails e ∷ P) Q h = (h.0, HasNoFault-front P Q h.1)

-- the rest of a list with no fault after a front has none
pub HasNoFault-behind : (P Q : List Event) → HasNoFault (P ++ Q) → HasNoFault Q
HasNoFault-behind [] Q h = h
HasNoFault-behind (byte b ∷ P) Q h = HasNoFault-behind P Q h
HasNoFault-behind (fails e ∷ P) Q h = HasNoFault-behind P Q h.1

-- events that are only bytes have no fault
pub HasNoFault-events_of : (bs : List ℕ) → HasNoFault (events_of bs)
HasNoFault-events_of [] = tt
HasNoFault-events_of (b ∷ bs) = HasNoFault-events_of bs

-- a cut past the bytes of P keeps all of P
pub cut-append : (P R : List Event) (j k : ℕ) → 0 < k → j ≡ length (event_bytes P) + k → cut j (P ++ R) ≡ P ++ cut k R
cut-append [] R j k some is = let same : j ≡ k = omega arith in ap (λ n. cut n R) same
cut-append (byte b ∷ P) R zero k some is = absurd (omega arith)
cut-append (byte b ∷ P) R (suc j) k some is = ap (λ l. byte b ∷ l) (cut-append P R j k some (omega arith))
cut-append (fails e ∷ P) R zero k some is = absurd (omega arith)
cut-append (fails e ∷ P) R (suc j) k some is = ap (λ l. fails e ∷ l) (cut-append P R (suc j) k some is)

-- bytes that fit under the cut stay, and the rest is cut at what is left
pub cut-bytes : (bs : List ℕ) (R : List Event) (k : ℕ) → length bs ≤ k → cut k (events_of bs ++ R) ≡ events_of bs ++ cut (k - length bs) R
cut-bytes [] R k fits = let same : k ≡ k - 0 = omega arith in ap (λ n. cut n R) same
cut-bytes (b ∷ bs) R zero fits = absurd (omega arith)
cut-bytes (b ∷ bs) R (suc k) fits =
    let same : suc k - suc (length bs) ≡ k - length bs = omega arith in
    ap (λ l. byte b ∷ l) (cut-bytes bs R k (omega arith)) ∙ ap (λ n. byte b ∷ (events_of bs ++ cut n R)) (sym same)

-- of the bytes of E, a cut at k keeps the first k
pub bytes-cut : (k : ℕ) (E : List Event) → event_bytes (cut k E) ≡ take k (event_bytes E)
bytes-cut zero E = refl
bytes-cut (suc k) [] = refl
bytes-cut (suc k) (byte b ∷ E) = ap (λ l. b ∷ l) (bytes-cut k E)
bytes-cut (suc k) (fails e ∷ E) = bytes-cut (suc k) E

-- Calls one after another: what they take, and what their laws say of it.

-- before the first call nothing is taken
pub takes_none : (t : ReaderState) → Takes t [] t
takes_none t = grind (arith, common_steps)

-- one call after another
pub takes_then : {a b c : ReaderState} {P Q : List Event} → Takes a P b → Takes b Q c → Takes a (P ++ Q) c
takes_then {a} {b} {c} {P} {Q} first next = grind (arith, common_steps, bytes-append, length-append)

-- a call that takes nothing, after others
pub takes_still : {a b c : ReaderState} {P : List Event} → Takes a P b → Takes b [] c → Takes a P c
takes_still {a} {c = c} {P} first next = subst (λ l. Takes a l c) (append-nil P) (takes_then first next)

-- turns do not rise
pub takes_turns : {a b : ReaderState} {P : List Event} → Takes a P b → b.turns ≤ a.turns
takes_turns takes = omega (arith, takes.turns)

-- the turns fall if some event is taken
pub spends : {a b : ReaderState} {P : List Event} → Takes a P b → 0 < length P → b.turns < a.turns
spends takes some = omega (arith, takes.turns)

-- what was taken up to the end is all
pub takes_to_end : {a b : ReaderState} (P : List Event) → Takes a P b → IsAtEnd b → IsAll a P
takes_to_end {a} {b} P takes end = grind (arith, common_steps)

-- a reader stays at its end
pub stays_at_end : {a b : ReaderState} → Takes a [] b → IsAtEnd b → IsAtEnd a
stays_at_end takes end = takes_to_end [] takes end

-- what is left of told events
pub left_of : {a b : ReaderState} {P E : List Event} → Takes a P b → to_come a ≡ Some E → (after : List Event) × (to_come b ≡ Some after)
    × (E ≡ P ++ after)
left_of {a} {b} {P} {E} takes told = grind (arith, common_steps)

-- the events behind events that are only bytes are only bytes
bytes_after : (bs : List ℕ) (P Q : List Event) → events_of bs ≡ P ++ Q → Q ≡ events_of (event_bytes Q)
bytes_after bs [] Q is = sym is ∙ ap events_of (sym (bytes-events_of bs) ∙ ap event_bytes is)
bytes_after [] (p ∷ P) Q is = cc
bytes_after (b ∷ bs) (p ∷ P) Q is = bytes_after bs P Q (ap (drop 1) is)

-- What is known after a front of the bytes that were to come was taken: the others are to come.
pub known_after : {a b : ReaderState} (bs x : List ℕ) → TakesBytes a x b → to_come a ≡ Some (events_of bs)
    → (rest : List ℕ) × (bs ≡ x ++ rest) × (to_come b ≡ Some (events_of rest))
known_after bs x took told =
    let (after, still, split) = left_of took.takes told in
    let whole =
    sym (bytes-events_of bs) ∙ ap event_bytes split ∙ bytes-append took.taken after ∙ ap (λ l. l ++ event_bytes after) took.are in
    (event_bytes after, whole, still ∙ ap Some (bytes_after bs took.taken after split))

-- what was taken is a front of the bytes that were to come
pub front_taken : {a b : ReaderState} (bs x : List ℕ) → TakesBytes a x b → to_come a ≡ Some (events_of bs)
    → (rest : List ℕ) × (bs ≡ x ++ rest)
front_taken bs x took told = let (rest, whole, still) = known_after bs x took told in (rest, whole)

-- and the others are what is to come then
pub front_gone : {a b : ReaderState} (bs x cs : List ℕ) → TakesBytes a x b → to_come a ≡ Some (events_of bs)
    → to_come b ≡ Some (events_of cs) → bs ≡ x ++ cs
front_gone bs x cs took told left =
    let (rest, whole, still) = known_after bs x took told in
    let same : events_of rest ≡ events_of cs = let both = sym still ∙ left in cc in
    whole ∙ ap (λ l. x ++ l) (sym (bytes-events_of rest) ∙ ap event_bytes same ∙ bytes-events_of cs)

-- all that is to come behind P is all, with P in front
pub IsAll-behind : {a b : ReaderState} (P Q : List Event) → Takes a P b → IsAll b Q → IsAll a (P ++ Q)
IsAll-behind {a} {b} P Q takes all = grind (arith, common_steps)

-- a fault behind events without one
pub EndsInFault-behind : (P Q : List Event) {e : Error} → HasNoFault P → EndsInFault Q e → EndsInFault (P ++ Q) e
EndsInFault-behind P Q {e} no_fault fault = grind (arith, common_steps, append_assoc, HasNoFault-append)

-- Bytes that are taken, one after another.

-- how it ended behind events without a fault
pub ends_so : (c : ReaderState) (P Q : List Event) (how : Result Bool Error) → HasNoFault P → GathersTo Q how c → GathersTo (P ++ Q) how c
ends_so c P Q how none ends = grind (arith, common_steps, HasNoFault-append, EndsInFault-behind)

-- bytes and then others
pub Took-then : {a b c : ReaderState} {x y : List ℕ} {how : Result Bool Error} → Took a x (Ok true) b → Took b y how c
    → Took a (x ++ y) how c
Took-then {c = c} {x = x} {how = how} first next = record {
  taken = first.taken ++ next.taken;
  takes = takes_then first.takes next.takes;
  are = bytes-append first.taken next.taken ∙ ap (λ l. l ++ event_bytes next.taken) first.are ∙ ap (λ l. x ++ l) next.are;
  ends = ends_so c first.taken next.taken how first.ends next.ends;
}

-- a buffer was filled
pub TakesBytes-fills : {X : Type 0} {R : Reader X} {old new : X} {buf buf' : List ℕ} {u : Unit {0}} → ReadExactLaw R old buf (Ok u) buf' new
    → TakesBytes (tells R old) buf' (tells R new)
TakesBytes-fills law = record { taken = law.taken; takes = law.takes; are = law.ends.0.given; ends = law.ends.0.no_fault }

-- two buffers were filled, one after the other
pub TakesBytes-pair : {X : Type 0} {R : Reader X} {old mid new : X} {first first' second second' : List ℕ} {u : Unit {0}}
    (reply : Result (Unit {0}) Error) → ReadExactLaw R old first (Ok u) first' mid → ReadExactLaw R mid second reply second' new
    → OnOk reply (TakesBytes (tells R old) (first' ++ second') (tells R new))
TakesBytes-pair (Ok u) one next = Took-then (TakesBytes-fills one) (TakesBytes-fills next)
TakesBytes-pair (Err e) one next = tt

module _ {X : Type 0} (R : Reader X) where
  -- a call that keeps its law is one that the reader may make
  read_may : (a b : X) (call : ReadCall) → ReadCallLaw R a call b → R.may a call b
  read_may a b call law = grind (arith, common_steps)

  -- and it takes something
  law_takes : (a b : X) (call : ReadCall) → ReadCallLaw R a call b → (P : List Event) × Takes (tells R a) P (tells R b)
  law_takes a b call law = grind (arith, common_steps)

  -- calls, without their laws
  pub made_may : (C : List ReadCall) (a b : X) → Made (ReadCallLaw R) a C b → Made R.may a C b
  made_may C a b made = made_map (ReadCallLaw R) R.may (λ x. x) read_may C a b made

  -- calls take something
  pub made_takes : (C : List ReadCall) (a b : X) → Made (ReadCallLaw R) a C b → (P : List Event) × Takes (tells R a) P (tells R b)
  made_takes [] a b made = ([], subst (λ x. Takes (tells R a) [] (tells R x)) (sym made) (takes_none (tells R a)))
  made_takes (call ∷ C) a b made =
      let first = law_takes a made.0 call made.1 in
      let rest = made_takes C made.0 b made.2 in
      (first.0 ++ rest.0, takes_then first.1 rest.1)

-- a `read` is a call
pub read_law : {X : Type 0} {R : Reader X} {old new : X} {buf buf' : List ℕ} (reply : Result ℕ Error)
    → ReadLaw R old buf reply buf' new → GaveLaw R old (length buf') (gave_front reply buf') new
read_law {buf' = buf'} (Ok n) read = record {
  bound = omega (arith, read.bound, length-take-le n buf' read.bound);
  takes = read.takes;
  end = λ none room. read.end (omega (arith, length-take-le n buf' read.bound, ap (λ r. length (bytes_given r)) none)) room;
  call = read.call;
}
read_law (Err e) read = record { bound = omega arith; takes = read.takes; end = λ none. absurd (let no : ⊥ = cc in no); call = read.call }

-- and a call that fits is a `read`
pub read_by : {X : Type 0} {R : Reader X} {old new : X} {buf buf' : List ℕ} (reply : Result ℕ Error) → IfOk reply (λ n. n ≤ length buf')
    → GaveLaw R old (length buf') (gave_front reply buf') new → ReadLaw R old buf reply buf' new
read_by reply bound law = grind (arith, common_steps)

-- a read that gives some bytes spends a turn
pub read_spends : {X : Type 0} {R : Reader X} {old new : X} {buf buf' : List ℕ} {n : ℕ} → ReadLaw R old buf (Ok n) buf' new → (n ≡ 0 → ⊥)
    → R.turns new < R.turns old
read_spends {buf' = buf'} {n} law some = grind (arith, common_steps)

-- a read of no bytes
pub nothing_read : {X : Type 0} {R : Reader X} {old new : X} {buf buf' : List ℕ} {reply : Result ℕ Error} {n : ℕ}
    → ReadLaw R old buf reply buf' new → reply ≡ Ok n → n ≡ 0 → GaveLaw R old (length buf') (Ok []) new
nothing_read {R = R} {old} {new} {buf} {buf'} law is none = grind (arith, common_steps)

-- a read of no bytes into some room met the end
pub met_end : {X : Type 0} {R : Reader X} {old new : X} {buf buf' : List ℕ} {reply : Result ℕ Error} {n : ℕ}
    → ReadLaw R old buf reply buf' new → reply ≡ Ok n → n ≡ 0 → 0 < length buf'
    → Takes (tells R old) [] (tells R new) × IsAtEnd (tells R new)
met_end law is none some = let zero = nothing_read law is none in (zero.takes, zero.end refl some)

-- then all of it was taken
pub all_taken : (P : List Event) (room : ℕ) (left : Option (List Event)) → IfSome left (λ E. E ≡ []) → IfSome left (AllOrNone P room)
all_taken P room left end = grind (arith, common_steps)

-- how a `read_to_end` ended, as one call
pub drains_ended : (lacks : Type 0) (P : List Event) (reply : Result ℕ Error) (new : ReaderState) → DrainsOrStops lacks P reply new
    → DrainsOrStops (Unit {0}) P (without_number reply) new
drains_ended lacks P reply new ends = grind (arith, common_steps)

pub cut-none : (k : ℕ) → cut k [] ≡ []
cut-none k = grind (arith, common_steps)

-- a cut past all bytes keeps them
pub cut-fitting : (k : ℕ) (bs : List ℕ) → length bs ≤ k → cut k (events_of bs) ≡ events_of bs
cut-fitting k [] fits = cut-none k
cut-fitting zero (b ∷ bs) fits = absurd (omega arith)
cut-fitting (suc k) (b ∷ bs) fits = ap (λ l. byte b ∷ l) (cut-fitting k bs (omega arith))

-- and an error, if it comes before the last byte
pub cut-error : (k : ℕ) (e : Error) → 0 < k → cut k (fails e ∷ []) ≡ fails e ∷ []
cut-error k e some = grind (arith, common_steps)

-- bytes that fit fill the room alone
pub gives_whole : {room : ℕ} (x : List ℕ) → length x ≤ room → Gives room (events_of x) x
gives_whole {room} x fits = record { no_fault = HasNoFault-events_of x; given = bytes-events_of x; within = cut-fitting room x fits }

-- Whose fault an error is.

-- what is known of a writer that failed
pub may_fail : {old new : WriterState} {x : List ℕ} {e : Error} → Moves old x (error_kind e ∷ []) new → MayFail old e
may_fail {old} {new} {e = e} moves = grind (arith, common_steps)

-- if what was taken ends in a fault, that is the first fault of the events to come
pub first_fault_taken : {a b : ReaderState} {P : List Event} {e : Error} → Takes a P b → EndsInFault P e
    → IfSome (to_come a) (λ E. HasFirstFault E e)
first_fault_taken {a} {b} {P} {e} takes fault = grind (arith, common_steps)

-- past a front, an error of events without a fault is an interruption
no_fault_at : (front rest : List Event) (e : Error) → HasNoFault (front ++ fails e ∷ rest) → IsInterruption e
no_fault_at [] rest e h = h.0
no_fault_at (byte b ∷ front) rest e h = no_fault_at front rest e h
no_fault_at (fails x ∷ front) rest e h = no_fault_at front rest e h.1

-- events without a fault have no first one
pub no_first_fault : (E : List Event) (e : Error) → HasNoFault E → HasFirstFault E e → ⊥
no_first_fault E e none f = grind (arith, common_steps, append_assoc, no_fault_at)

-- a reader without a fault and a writer without a mishap leave no failure
pub no_failure : (E : List Event) (old : WriterState) → HasNoFault E → old.mishaps ≡ Some [] → (e : Error)
    → HasFirstFault E e ⊎ MayFail old e → ⊥
no_failure E old none steady e (inl f) = no_first_fault E e none f
no_failure E old none steady e (inr f) = absurd (omega (arith, subst (λ m. TellsMishap m (error_kind e)) steady f.mishap))

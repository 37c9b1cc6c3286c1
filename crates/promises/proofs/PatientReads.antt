-- For `system` and `memory`: what reads give.
use Rattle.std.{proofs.{lemmas.Grind.{common_steps}, KnownBytes.{Consumes-nil, Consumes-trans}}, specs.{Prelude.{min}, Result.{IsErrAnd}}}
use Rattle.std.specs.Io.KnownBytes.{Consumes, Keeps}
use Rattle.no_std_io2.proofs.Words.{◌≡◌, ℕ, zero, suc, ◌+◌, ◌<◌, ◌≤◌, List, [], ◌∷◌, Option, Result, Ok, Err, length, refl, sym, ap, subst}
use Rattle.no_std_io2.proofs.Words.{◌∙◌, arith, inl, inr, ◌⊎◌, append-nil, length-append, OnOk, IsFault, ReadCall, Gave, bytes_given}
use Rattle.no_std_io2.proofs.Words.{answered, GaveLaw, ReadCallLaw, GathersUntil, ExactCalls, Made, IsFront, ◌++◌, Vec, Some, Event}
use Rattle.no_std_io2.proofs.{Words.{event_bytes, to_come, Reader, tells}, CallsLemmas.{made_split}, TakesLemmas.{length-events_of}}
use Rattle.no_std_io2.proofs.{CallsAdd.{EachAdds, gathers_add}, CopyLoop.{took_told}}
use lib.Seq.{take-append_seam}
use Rattle.no_std_io2.specs.{declared.io.Error.{Error}, inner.Kinds.{is_interruption}, Takes.{gave_front}, Read.{ToEndLaw}, Calls.{ByCalls}}
use Rattle.system_streams.specs.{declared.{patient.Patient.{Patient}, system.SystemRead.{Ghosts as Source}}, Patient.{patient_device}}
use Rattle.system_streams.specs.{Patient.{patient_turns, patient_taken, AsksOnce, AsksDevice}, Turns.{IsOutOfTurns, IsDeviceFault}}
use Rattle.promises.specs.Patience.{EndsReads, Fills}
use Rattle.system_streams.proofs.PatientLemmas.{patient_reader}

-- For `system`: what the reads of a patient give.

-- known bytes that stay lose nothing
keeps_consumes : (a b : Option (List ℕ)) → Keeps a b → Consumes a b []
keeps_consumes a b kept = grind (arith, common_steps)

-- an error gives no bytes
no_bytes : (answer : Result (List ℕ) Error) → IsErrAnd answer IsOutOfTurns → bytes_given answer ≡ []
no_bytes answer failed = grind (arith, common_steps)

-- the events of an answer are as many as its bytes, or one error
given_events : (answer : Result (List ℕ) Error) → length (bytes_given answer) ≤ length (answered answer)
given_events (Ok x) = omega (arith, length-events_of x)
given_events (Err e) = omega arith

module _ {D : Type 0} (I : Source D) where
  -- x is gone from the known bytes of the device
  abbrev Lost : Patient D → List ℕ → Patient D → Type 0
  Lost old x new = Consumes (I.known (patient_device old)) (I.known (patient_device new)) x

  -- the same device has lost nothing
  lost_none : (old new : Patient D) (answer : Result (List ℕ) Error) → bytes_given answer ≡ [] → patient_device new ≡ patient_device old
      → Lost old (bytes_given answer) new
  lost_none old new answer none same = grind (arith, common_steps, Consumes-nil)

  -- one read of the device
  asked_loses : (old new : Patient D) {answer : Result (List ℕ) Error} (reply : Result ℕ Error) (buf : List ℕ)
      → answer ≡ gave_front reply buf
      → AsksDevice I old reply buf new → Lost old (bytes_given answer) new
  asked_loses old new reply buf is asks = grind (arith, common_steps, bytes_given, keeps_consumes)

  -- what a read gave is gone from the known bytes of the device, and nothing else
  loses : {old new : Patient D} (room : ℕ) (answer : Result (List ℕ) Error) → AsksOnce I old room answer new
      → Lost old (bytes_given answer) new
  loses {old} {new} zero answer once =
      let none = once.empty refl in lost_none old new answer (ap bytes_given none.0) (ap patient_device none.1)
  loses {old} {new} (suc k) answer once = by (patient_turns old) refl
    where
      by : (n : ℕ) → patient_turns old ≡ n → Lost old (bytes_given answer) new
      by zero is = let over = once.over is in lost_none old new answer (ap bytes_given over.0) (ap patient_device over.1)
      by (suc zero) is = let last = once.last (omega arith) is in lost_none old new answer (no_bytes answer last.0) last.2
      by (suc (suc n)) is = let asked = once.asked (omega arith) (omega (arith, is)) in asked_loses old new asked.0 asked.1 asked.3 asked.4

  -- From old to new, reads gave x.
  record ReadsGave (old : Patient D) (x : List ℕ) (new : Patient D) : Type 0 where
    pub lost : Lost old x new
    pub turns : patient_turns new + min 1 (length x) ≤ patient_turns old
    pub taken : patient_taken new ≡ patient_taken old

  read_gave : (old new : Patient D) (room : ℕ) (answer : Result (List ℕ) Error) → GaveLaw (patient_reader I) old room answer new
      → ReadsGave old (bytes_given answer) new
  read_gave old new room answer law = record {
    lost = loses room answer law.call;
    turns = omega (arith, law.takes.turns, given_events answer);
    taken = law.call.taken;
  }

  adds : EachAdds (ReadCallLaw (patient_reader I)) ReadsGave
  adds = record {
    joins = record {
      none = λ a. record { lost = Consumes-nil _; turns = omega arith; taken = refl };
      more = λ a b c x y p q. record {
        lost = Consumes-trans _ _ _ x y p.lost q.lost;
        turns = omega (arith, p.turns, q.turns, length-append x y);
        taken = q.taken ∙ p.taken;
      };
    };
    gave = read_gave;
    exactly = λ a b room answer law. absurd law.0;
    all = λ a b x answer law. absurd law.0;
    lent = λ a b answer law. absurd law.call;
    took = λ a b c x n law next within. absurd law.call;
  }

  -- reads gave x, and then a last one this
  until_gave : {asks : ℕ → ℕ → Type 0} {C : List ReadCall} {x : List ℕ} (answer : Result (List ℕ) Error) → GathersUntil asks C x answer
      → (old new : Patient D) → Made (ReadCallLaw (patient_reader I)) old C new
      → (mid : Patient D) × (room : ℕ) × asks (length x) room × ReadsGave old x mid × GaveLaw (patient_reader I) mid room answer new
  until_gave answer (D, room, so_far, into, is) old new made =
      let parts = made_split (ReadCallLaw (patient_reader I)) D old (Gave room answer ∷ []) new (rw is at made) in
      (parts.0, room, into, gathers_add adds so_far old parts.0 parts.1, rw (← parts.2.2) at parts.2.1)

  -- if that gave nothing, all gave x
  nothing_more : {old mid new : Patient D} {x : List ℕ} {room : ℕ} (answer : Result (List ℕ) Error) → bytes_given answer ≡ []
      → ReadsGave old x mid → GaveLaw (patient_reader I) mid room answer new → ReadsGave old x new
  nothing_more {old} {mid} {new} {x} {room} answer none before law =
      rw (none, append-nil) at (adds.joins.more old mid new x (bytes_given answer) before (read_gave mid new room answer law))

  -- the device's fault, or that no turns are left
  fault_spends : {old new : Patient D} {room : ℕ} (e : Error) → IsFault e → 0 < room → AsksOnce I old room (Err e) new
      → (IsOutOfTurns e × (patient_turns new ≡ 0)) ⊎ IsDeviceFault e
  fault_spends {old} {new} e fault some once = by (patient_turns old) refl
    where
      device : (reply : Result ℕ Error) (buf : List ℕ) → Err e ≡ gave_front reply buf → AsksDevice I old reply buf new → IsDeviceFault e
      device (Ok n) buf is asks = absurd (cc is)
      device (Err f) buf is asks = elim asks.turns.1 [
        | inl plain ↦ let no = ap is_interruption plain.0 in absurd cc
        | inr failed ↦ let same : f ≡ e = cc in subst IsDeviceFault same failed
      ]

      by : (n : ℕ) → patient_turns old ≡ n → (IsOutOfTurns e × (patient_turns new ≡ 0)) ⊎ IsDeviceFault e
      by zero is = let over = (once.over is).0 in absurd (cc over)
      by (suc zero) is = let last = once.last some is in inl (last.0, last.1)
      by (suc (suc n)) is = let asked = once.asked some (omega (arith, is)) in inr (device asked.0 asked.1 asked.3 asked.4)

  -- the device gave the front x of the buffer
  front_fills : {old new : Patient D} {buf x : List ℕ} (reply : Result (Unit {0}) Error) → IsFront x buf
      → OnOk reply (length x ≡ length buf) → ReadsGave old x new
      → EndsReads (length buf) reply (patient_turns old) (patient_turns new) → Fills I.known reply buf old new
  front_fills {x = x} reply front whole all ends = record {
    bytes = record {
      count = length x;
      within = omega (arith, ap length front.1, length-append x front.0);
      whole = whole;
      device = rw (front.1, take-append_seam) all.lost;
    };
    ends = ends;
    taken = all.taken;
  }

  -- a `read_exact`
  pub fills : {old new : Patient D} {buf : List ℕ} (reply : Result (Unit {0}) Error)
      → ByCalls (ReadCallLaw (patient_reader I)) old (λ C. ExactCalls C reply buf) new → Fills I.known reply buf old new
  fills {old} {new} {buf} reply exact = by reply exact.are
    where
      by : (reply : Result (Unit {0}) Error) → ExactCalls exact.calls reply buf → Fills I.known reply buf old new
      by reply (inl own) =
          let made = subst (λ K. Made (ReadCallLaw (patient_reader I)) old K new) own exact.made in absurd made.1.0
      by (Ok u) (inr reads) =
          let all = gathers_add adds reads old new exact.made in
          front_fills (Ok u) ([], sym (append-nil buf)) refl all (omega (arith, all.turns), λ some. omega (arith, all.turns, some))
      by (Err e) (inr (x, front, inl (kind, until))) =
          let (mid, room, into, before, law) = until_gave (Ok []) until old new exact.made in
          let all = nothing_more (Ok []) refl before law in
          front_fills (Err e) front tt all (omega (arith, all.turns), inr (inr kind))
      by (Err e) (inr (x, front, inr (fault, until))) =
          let (mid, room, into, before, law) = until_gave (Err e) until old new exact.made in
          let fell : patient_turns new < patient_turns old = omega (arith, before.turns, law.takes.turns) in
          let all = nothing_more (Err e) refl before law in
          front_fills (Err e) front tt all (
            omega (arith, fell),
            elim (fault_spends e fault into.1 law.call) [
              | inl over ↦ inl (over.0, over.1, omega (arith, fell))
              | inr failed ↦ inr (inl (failed, fell))
            ],
          )

-- For `memory`: what a `read_to_end` gave.

-- a `read_to_end` appends all bytes that were to come
pub drained : {X A : Type 0} {lacks : ℕ → Type 0} {R : Reader X} {old new : X} {buf buf' : Vec ℕ A} {E : List Event} {x : List ℕ}
    (reply : Result ℕ Error) → ToEndLaw lacks R old buf reply buf' new → to_come (tells R old) ≡ Some E → event_bytes E ≡ x
    → OnOk reply (buf'.items ≡ buf.items ++ x)
drained reply law told is =
    grind (arith, common_steps, took_told)

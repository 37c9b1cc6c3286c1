-- What a `Take` takes, its inner reader takes.
use Rattle.std.proofs.{lemmas.Grind.{common_steps}, Common.{◌≡◌, ℕ, zero, suc, ◌+◌, ◌-◌, ◌<◌, ◌≤◌, min, List, [], ◌∷◌, ◌++◌, Result, Ok}}
use Rattle.std.proofs.Common.{IsOkAnd, IfSome, length, take, drop, refl, sym, ap, subst, ◌∙◌, arith, Option, None, Some, inl, inr}
use Rattle.std.proofs.Common.{length-append, length-take, length-take-le, length-drop, Err, OnOk, ◌⊎◌, Vec, String, string_bytes, ◌^◌}
use Rattle.std.proofs.lemmas.{Bool.{cases_lt}, List.{drop-take, append_cancel_right}}
use Rattle.no_std_io2_base.proofs.{CallsAdd.{EachAdds, exact_adds, to_end_adds, piece_adds, line_appended}, Forwards.{law_keeps}}
use Rattle.no_std_io2_base.proofs.{GivenPieces.{few_bytes}, InMemoryReads.{drawn, fills_by, fills_told}, ReadsLemmas.{begins_cut}}
use Rattle.no_std_io2_base.proofs.TakesLemmas.{bytes-append, bytes-events_of, takes_then, cut-none, cut-fitting, cut-error, read_law}
use Rattle.no_std_io2_base.{proofs.TakesLemmas.{read_by, length-events_of}, specs.{BufRead.{ReadUntilLaw, ReadLineLaw}, Calls.{ReadCall}}}
use Rattle.no_std_io2_base.specs.{Calls.{Gave, Filled, Consumed, Sought}, Events.{Event, byte, fails, events_of, event_bytes}}
use Rattle.no_std_io2_base.specs.{Meter.{FillsRoom}, Read.{ReadCallLaw, ReadLaw, ConsumeLaw, ReadExactLaw, ToEndLaw}, Seek.{Seeker}}
use Rattle.no_std_io2_base.specs.Takes.{Takes, ReaderState, to_come, Reader, tells, gave_front, answered, bytes_left}
use Rattle.no_std_io2_base.specs.{declared.{error.Error.{Error}, traits.take.Take.{Take}}, inner.{Events.{cut, BeginsWith}, Read.{GaveLaw}}}
use Rattle.no_std_io2_base.specs.inner.{Read.{bytes_given, fault_of, without_number}, Seek.{here}, Take.{limit_held, limit_inner}}
use Rattle.no_std_io2_base.specs.inner.Take.{limit_left, limit_set, limit_events, cut_to_come, lent_within, LimitTakes, LimitAsks, LimitMay}
use Rattle.no_std_io2_base.specs.inner.{Take.{limit_position, LimitGoes, LimitMaySeek, arrived}, Takes.{AreTaken}}
use lib.Seq.{take-take}

-- a `Take`, as the laws of its calls see it
abbrev pub limit_reader : {T : Type 0} → Reader T → Reader (Take T)
limit_reader inner = record {
  store = λ t. None;
  turns = λ t. inner.turns (limit_inner t);
  events = limit_events (tells inner);
  may = LimitMay inner;
  held = limit_held inner.held;
}

-- events within a limit are the first of those that are cut there
pub cut-within : (P R : List Event) (k k' : ℕ) → cut k P ≡ P → k' + length (event_bytes P) ≡ k → cut k (P ++ R) ≡ P ++ cut k' R
cut-within [] R k k' within falls = let same : k ≡ k' = omega (arith, falls) in ap (λ n. cut n R) same
cut-within (byte b ∷ P) R zero k' within falls = absurd (omega (arith, falls))
cut-within (byte b ∷ P) R (suc k) k' within falls =
    let rest : cut k P ≡ P = cc in ap (λ l. byte b ∷ l) (cut-within P R k k' rest (omega (arith, falls)))
cut-within (fails e ∷ P) R zero k' within falls = absurd (let no : ⊥ = cc in no)
cut-within (fails e ∷ P) R (suc k) k' within falls =
    let rest : cut (suc k) P ≡ P = cc in ap (λ l. fails e ∷ l) (cut-within P R (suc k) k' rest falls)

cut_taken : (E E' : Option (List Event)) (P : List Event) (k k' : ℕ) → AreTaken E P E' → cut k P ≡ P → k' + length (event_bytes P) ≡ k
    → AreTaken (cut_to_come k E) P (cut_to_come k' E')
cut_taken E E' P k k' taken within falls = grind (arith, common_steps, cut-within)

-- the end is the end of the cut events
pub cut_end : (k : ℕ) (E : Option (List Event)) → IfSome E (λ l. l ≡ []) → IfSome (cut_to_come k E) (λ l. l ≡ [])
cut_end k E end = grind (arith, common_steps, cut-none)

-- at limit 0 it is at its end
pub cut_zero : (k : ℕ) (E : Option (List Event)) → k ≡ 0 → IfSome (cut_to_come k E) (λ l. l ≡ [])
cut_zero k E none = grind (arith, common_steps)

-- bytes that fit and an error before the last of them are within
answered_within : (k : ℕ) (answer : Result (List ℕ) Error) → 0 < k → length (bytes_given answer) ≤ k
    → cut k (answered answer) ≡ answered answer
answered_within k answer some fits = grind (arith, common_steps, cut-fitting, cut-error)

pub bytes-answered : (answer : Result (List ℕ) Error) → event_bytes (answered answer) ≡ bytes_given answer
bytes-answered answer = grind (arith, common_steps, bytes-events_of)

-- the error that was lent is that which came from the inner reader
fault_within : (k : ℕ) (lent : Result (List ℕ) Error) → fault_of (lent_within k lent) ≡ fault_of lent
fault_within k lent = grind (arith, common_steps)

pub fault-bytes : (answer : Result (List ℕ) Error) → event_bytes (fault_of answer) ≡ []
fault-bytes answer = grind (arith, common_steps)

fault-within : (k : ℕ) (answer : Result (List ℕ) Error) → 0 < k → cut k (fault_of answer) ≡ fault_of answer
fault-within k answer some = grind (arith, common_steps)

-- bytes that are cut are their first ones
cut-events_of : (k : ℕ) (bs : List ℕ) → cut k (events_of bs) ≡ events_of (take k bs)
cut-events_of zero bs = refl
cut-events_of (suc k) [] = refl
cut-events_of (suc k) (b ∷ bs) = ap (λ l. byte b ∷ l) (cut-events_of k bs)

-- as many bytes as fit in the room up to the limit are as many of those up to the limit as fit in the room
gave_most : (room limit left some : ℕ) (answer : Result (List ℕ) Error) → some ≡ min limit left
    → IsOkAnd answer (λ x. length x ≡ min (min room limit) left) → IsOkAnd answer (λ x. length x ≡ min room some)
gave_most room limit left some answer is gave_front = grind (arith, common_steps)

module _ {T : Type 0} {inner : Reader T} where
  -- what the inner reader took, the `Take` took
  pub limit_takes : {old new : Take T} (P : List Event) → LimitTakes inner old P new
      → Takes (tells (limit_reader inner) old) P (tells (limit_reader inner) new)
  limit_takes {old} {new} P took = grind (arith, common_steps, cut_taken)

  -- nothing
  pub limit_none : (t : Take T) → LimitTakes inner t [] t
  limit_none t = grind (arith, common_steps)

  -- some events and then others
  pub limit_then : {a b c : Take T} {P Q : List Event} → LimitTakes inner a P b → LimitTakes inner b Q c → LimitTakes inner a (P ++ Q) c
  limit_then {P = P} {Q} first next = grind (arith, common_steps, takes_then, cut-within, bytes-append, length-append)

  -- a call took what its inner call took
  asked : {old new : Take T} {call : ReadCall} {n : ℕ} (P : List Event) → LimitAsks inner old call n new → (limit_left old ≡ 0 → P ≡ [])
      → (0 < limit_left old → Takes (tells inner (limit_inner old)) P (tells inner (limit_inner new)) × (cut (limit_left old) P ≡ P)
      × (length (event_bytes P) ≡ n)) → LimitTakes inner old P new
  asked {old} {new} P asks none took = grind (arith, common_steps)

  pub gave_took : {old new : Take T} (room : ℕ) (answer : Result (List ℕ) Error) → LimitMay inner old (Gave room answer) new
      → LimitTakes inner old (answered answer) new
  gave_took {old} room answer (at_limit, asks) = grind (arith, common_steps, asked, answered_within, bytes-answered)

  pub filled_took : {old new : Take T} (answer : Result (List ℕ) Error) → LimitMay inner old (Filled answer) new
      → LimitTakes inner old (fault_of answer) new
  filled_took {old} {new} answer (lent, at_limit, above, asks) = grind (arith, common_steps, asked, fault_within, fault-within, fault-bytes)

  pub consumed_took : {old new : Take T} {n : ℕ} → LimitMay inner old (Consumed n) new
      → (P : List Event) × (length (event_bytes P) ≡ n) × LimitTakes inner old P new
  consumed_took {old} {new} {n} asks = grind (arith, common_steps, cases_lt, bytes-events_of, cut-fitting, limit_none)

  -- at limit 0 a `read` gives nothing
  pub gave_at_limit : {t : Take T} (room : ℕ) → limit_left t ≡ 0 → GaveLaw (limit_reader inner) t room (Ok []) t
  gave_at_limit {t} room low = grind (arith, common_steps)

  -- above 0 it is one inner read into as much of the room as the limit allows
  pub gave_inner : {old new : Take T} (room : ℕ) (answer : Result (List ℕ) Error) → 0 < limit_left old → GaveLaw inner (limit_inner old)
      (min room (limit_left old)) answer (limit_inner new) → limit_left new + length (bytes_given answer) ≡ limit_left old
      → limit_set new ≡ limit_set old → GaveLaw (limit_reader inner) old room answer new
  gave_inner {old} {new} room answer some law falls same = grind (arith, common_steps, limit_takes, gave_took, cut_end)

  -- so it is, if the inner reader read into a part of the buffer
  pub reads_inner : {old new : Take T} {before into part : List ℕ} (whole : List ℕ) (reply : Result ℕ Error) → 0 < limit_left old
      → ReadLaw inner (limit_inner old) into reply part (limit_inner new) → length part ≡ min (length whole) (limit_left old)
      → gave_front reply whole ≡ gave_front reply part → limit_left new + length (bytes_given (gave_front reply part)) ≡ limit_left old
      → limit_set new ≡ limit_set old → ReadLaw (limit_reader inner) old before reply whole new
  reads_inner {old} {new} {into = into} {part} whole reply some read room same falls stays =
      grind (arith, common_steps, read_by, gave_inner, read_law)

  -- above 0 a `fill_buf` is one inner `fill_buf`, of whose bytes a part is lent
  pub filled_inner : {old new : Take T} (lent : Result (List ℕ) Error) {answer : Result (List ℕ) Error} → 0 < limit_left old
      → limit_left new ≡ limit_left old → limit_set new ≡ limit_set old → answer ≡ lent_within (limit_left old) lent
      → ReadCallLaw inner (limit_inner old) (Filled lent) (limit_inner new) → LimitMay inner old (Filled answer) new
  filled_inner lent some same len is law = grind (arith, common_steps)

  -- at limit 0 it lends nothing
  pub filled_at_limit : (t : Take T) → limit_left t ≡ 0 → LimitMay inner t (Filled (Ok [])) t
  filled_at_limit t low = (
    Ok [],
    λ _. refl,
    λ some. absurd (omega (arith, some, low)),
    record { limit = omega arith; len = refl; at_limit = λ _. refl; asks = λ some. absurd (omega (arith, some, low)) },
  )

  -- it is filling if its inner reader is
  pub limit_fills : (t : Take T) → FillsRoom inner (limit_inner t) → FillsRoom (limit_reader inner) t
  limit_fills t fills = fills_by {R = limit_reader inner} (λ t. FillsRoom inner (limit_inner t))
      (λ t. take (limit_left t) (bytes_left inner (limit_inner t))) (λ t now. ap (cut_to_come (limit_left t)) (fills_told now)
      ∙ ap Some (cut-events_of (limit_left t) (bytes_left inner (limit_inner t))))
      (λ old room answer new now law. elim (cases_lt 0 (limit_left old)) [
        | inl some ↦
            let one = drawn answer now (law.call.1.asks some) in (
              gave_most room (limit_left old) _ _ answer (length-take (limit_left old) (bytes_left inner (limit_inner old)))
                  (subst (λ a. IsOkAnd a (λ x. length x ≡ min (min room (limit_left old)) (length (bytes_left inner (limit_inner old)))))
                  (sym one.is) one.count),
              one.fills,
            )
        | inr low ↦
            let none : limit_left old ≡ 0 = omega (arith, low) in (
              subst (λ a. IsOkAnd a (λ x. length x ≡ min room (length (take (limit_left old) (bytes_left inner (limit_inner old))))))
                  (sym (law.call.0 none)) (omega (arith, none, length-take (limit_left old) (bytes_left inner (limit_inner old)))),
              subst (λ t. FillsRoom inner (limit_inner t)) (sym (law.call.1.at_limit none)) now,
            )
      ])
      t fills

module _ {T : Type 0} (inner : Reader T) where
  -- above 0 the inner reader's first bytes are consumed
  pub consumed_inner : {old new : Take T} {n : ℕ} → 0 < limit_left old → n ≤ length (limit_held inner.held old)
      → ConsumeLaw inner (limit_inner old) n (limit_inner new) → limit_left new + n ≡ limit_left old → limit_set new ≡ limit_set old
      → ConsumeLaw (limit_reader inner) old n new
  consumed_inner {old} {new} {n} some fits law falls same =
      let held = inner.held (limit_inner old) in
      let within : (n ≤ length held) × (n ≤ limit_left old) = omega (arith, fits, length-take (limit_left old) held) in
      let part : take n (take (limit_left old) held) ≡ take n held = take-take n (limit_left old) held within.1 in
      let call : LimitMay inner old (Consumed n) new = grind (arith, common_steps) in
      let took : LimitTakes inner old (events_of (take n held)) new =
      grind (arith, common_steps, cut-fitting, length-take-le, bytes-events_of) in
      record {
        held = ap (take (limit_left new)) law.held ∙ sym (subst (λ k. drop n (take k held) ≡ take (limit_left new) (drop n held)) falls'
            (drop-take n (limit_left new) held));
        takes = subst (λ l. Takes (tells (limit_reader inner) old) (events_of l) (tells (limit_reader inner) new)) (sym part)
            (limit_takes (events_of (take n held)) took);
        call = call;
      }
    where
      falls' : n + limit_left new ≡ limit_left old
      falls' = omega (arith, falls)

-- what comes next under the limit begins with a part of what comes next
pub front_cut : (E : Option (List Event)) (bs : List ℕ) (n k : ℕ) → n ≤ k → IfSome E (λ l. BeginsWith l bs)
    → IfSome (cut_to_come k E) (λ l. BeginsWith l (take n bs))
front_cut E bs n k within front = grind (arith, common_steps, begins_cut)

-- some bytes under the limit are some bytes
pub some_within : (k : ℕ) (bs : List ℕ) → 0 < length (take k bs) → 0 < length bs
some_within k bs some = omega (arith, some, length-take k bs)

-- no bytes under a limit above 0 are none
pub none_within : (k : ℕ) (bs : List ℕ) → 0 < k → take k bs ≡ [] → bs ≡ []
none_within k bs some none = grind (arith, common_steps)

-- of no bytes none are under the limit
pub none_lent : (k : ℕ) {bs : List ℕ} → bs ≡ [] → take k bs ≡ []
none_lent k none = grind (arith, common_steps)

-- at limit 0 nothing is held
pub none_at_limit : {k : ℕ} (bs : List ℕ) → k ≡ 0 → take k bs ≡ []
none_at_limit bs low = ap (λ n. take n bs) low

-- a part of a buffer that is cut to the limit has as much room as that allows
pub part_length : (most k : ℕ) (buf part : List ℕ) → most ≡ min (length buf) k → length part ≡ length (take most buf)
    → length part ≡ min (length (part ++ drop most buf)) k
part_length most k buf part is same =
    omega (arith, is, same, length-append part (drop most buf), length-take most buf, length-drop most buf)

-- the limit falls by the given bytes
pub limit_falls : (k n : ℕ) (buf : List ℕ) → n ≤ length buf → length buf ≤ k → k - n + length (take n buf) ≡ k
limit_falls k n buf fits within = omega (arith, fits, within, length-take-le n buf fits)

-- the first k bytes are cut to as many as there are
pub take_most : (most k : ℕ) (x : List ℕ) → most ≡ min (length x) k → take most x ≡ take k x
take_most most k x is = grind (arith, common_steps)

-- What the loops of a `Take` take, its inner reader takes.

-- Each call of a `Take` takes as many bytes of its inner reader as it gives.
pub limit_each : {T : Type 0} {inner : Reader T} → EachAdds (ReadCallLaw (limit_reader inner))
    (λ old x new. (P : List Event) × (length (event_bytes P) ≡ length x) × LimitTakes inner old P new)
limit_each = record {
  joins = record {
    none = λ t. ([], refl, limit_none t);
    more = λ a b c x y first next. (
      first.0 ++ next.0,
      omega (
        arith,
        first.1,
        next.1,
        length-append x y,
        ap length (bytes-append first.0 next.0),
        length-append (event_bytes first.0) (event_bytes next.0),
      ),
      limit_then first.2 next.2,
    );
  };
  gave = λ a b room answer law. (answered answer, ap length (bytes-answered answer), gave_took room answer law.call);
  exactly = λ a b room answer law. absurd law.0;
  all = λ a b x answer law. absurd law.0;
  lent = λ a b answer law. (fault_of answer, ap length (fault-bytes answer), filled_took answer law.call);
  took = λ a b c x n lent took within.
      let first = filled_took (Ok x) lent.call in
      let next = consumed_took took.1.call in
      (next.0, next.1 ∙ sym (length-take-le n x within), limit_then first next.2);
}

-- what the cut events lost, the inner events lost; or these are not told
lost_below : (E E' : Option (List Event)) (k k' : ℕ) (P Q : List Event) → AreTaken (cut_to_come k E) P (cut_to_come k' E') → AreTaken E Q E'
    → cut k Q ≡ Q → k' + length (event_bytes Q) ≡ k → (Q ≡ P) ⊎ (E ≡ None)
lost_below None E' k k' P Q above below within falls = inr refl
lost_below (Some E) None k k' P Q above below within falls = absurd below
lost_below (Some E) (Some E') k k' P Q above below within falls = inl (append_cancel_right Q P (cut k' E')
    (sym (ap (cut k) below ∙ cut-within Q E' k k' within falls) ∙ above))

-- if no events are told, any with as many bytes were taken
untold : {a b : ReaderState} {Q : List Event} (P : List Event) → to_come a ≡ None → length (event_bytes P) ≡ length (event_bytes Q)
    → min 1 (length P) ≤ min 1 (length Q) → Takes a Q b → Takes a P b
untold {a} {b} P none same fewer takes = grind (arith, common_steps)

-- so what the `Take` took, its inner reader took
limit_taken : {T : Type 0} {inner : Reader T} {old new : Take T} (P Q : List Event)
    → Takes (tells (limit_reader inner) old) P (tells (limit_reader inner) new) → LimitTakes inner old Q new
    → length (event_bytes Q) ≡ length (event_bytes P) → (R : List Event) × (event_bytes R ≡ event_bytes P) × LimitTakes inner old R new
limit_taken {inner = inner} {old} {new} P Q above below same = elim (lost_below (to_come (tells inner (limit_inner old)))
    (to_come (tells inner (limit_inner new))) (limit_left old)
    (limit_left new) P Q above.events below.takes.events below.within below.limit) [
      | inl is ↦ (Q, ap event_bytes is, below)
      | inr none ↦
          let x = event_bytes P in
          let long = ap length (bytes-events_of x) in (
            events_of x,
            bytes-events_of x,
            record {
              takes = untold (events_of x) none (omega (arith, long, same))
                  (omega (arith, same, length-events_of x, few_bytes Q)) below.takes;
              within = cut-fitting (limit_left old) x (omega (arith, same, below.limit));
              limit = omega (arith, below.limit, same, long);
              len = below.len;
              at_limit = below.at_limit;
            },
          )
    ]

-- what a `read_exact` of a `Take` took
pub limit_exact : {T : Type 0} {inner : Reader T} {old new : Take T} {buf buf' : List ℕ} (reply : Result (Unit {0}) Error)
    → ReadExactLaw (limit_reader inner) old buf reply buf' new
    → (P : List Event) × OnOk reply (event_bytes P ≡ buf') × LimitTakes inner old P new
limit_exact {old = old} {new} (Ok u) law =
    let calls = exact_adds limit_each _ (Ok u) old new law.calls in
    let given = law.ends.0.given in
    let took = limit_taken law.taken calls.2.0 law.takes calls.2.2 (calls.2.1 ∙ ap length (calls.1 ∙ sym given)) in
    (took.0, took.1 ∙ given, took.2)
limit_exact {old = old} {new} (Err e) law = let calls = exact_adds limit_each _ (Err e) old new law.calls in (calls.2.0, tt, calls.2.2)

-- what a `read_to_end` of a `Take` appended, its inner reader took, within the limit
pub limit_to_end : {T A : Type 0} {lacks : ℕ → Type 0} {inner : Reader T} {old new : Take T} {buf buf' : Vec ℕ A} {reply : Result ℕ Error}
    → ToEndLaw lacks (limit_reader inner) old buf reply buf' new
    → (P : List Event) × (buf'.items ≡ buf.items ++ event_bytes P) × LimitTakes inner old P new
limit_to_end {old = old} {new} {buf} {buf'} {reply} law =
    let calls = to_end_adds limit_each (without_number reply) old new law.calls in
    let took = limit_taken law.taken calls.0 law.takes calls.2 calls.1 in
    (took.0, law.appends.0 ∙ ap (λ l. buf.items ++ l) (sym took.1), took.2)

pub limit_until : {T A : Type 0} (inner : Reader T) {old new : Take T} {d : ℕ} {buf buf' : Vec ℕ A} {reply : Result ℕ Error}
    → ReadUntilLaw (limit_reader inner) old d buf reply buf' new
    → (P : List Event) × (buf'.items ≡ buf.items ++ event_bytes P) × LimitTakes inner old P new
limit_until inner {old} {new} {buf = buf} {reply = reply} law =
    let calls = piece_adds limit_each _ _ reply old new law.calls in
    let took = limit_taken law.taken calls.0 law.takes calls.2 calls.1 in
    (took.0, law.appends ∙ ap (λ l. buf.items ++ l) (sym took.1), took.2)

pub limit_line : {T A : Type 0} (inner : Reader T) {old new : Take T} {buf buf' : String A} {reply : Result ℕ Error}
    → ReadLineLaw (limit_reader inner) old buf reply buf' new
    → (P : List Event) × OnOk reply (string_bytes buf' ≡ string_bytes buf ++ event_bytes P) × LimitTakes inner old P new
limit_line inner {old} {new} {buf} {buf'} {reply} law =
    let calls = piece_adds limit_each _ _ law.read old new law.calls in
    let took = limit_taken law.taken calls.0 law.takes calls.2 calls.1 in
    let appended = line_appended _ _ (event_bytes law.taken) reply law.read law.answers in
    (took.0, subst (λ l. OnOk reply (string_bytes buf' ≡ string_bytes buf ++ l)) (sym took.1) appended, took.2)

-- what each call of the inner reader keeps, each call of a `Take` keeps
pub limit_keeps : {T V : Type 0} (R : Reader T) (of : T → V) → ((a b : T) (call : ReadCall) → R.may a call b → of b ≡ of a)
    → (a b : Take T) (call : ReadCall) → LimitMay R a call b → of (limit_inner b) ≡ of (limit_inner a)
limit_keeps R of each a b call did = grind (arith, common_steps, law_keeps R of each)

-- for a loan that is cut at the limit
pub ruleset lends_within = (take_most, filled_inner, limit_takes, filled_took, some_within, front_cut, cut_end, none_within)

-- How a `Take` goes to a position, step by step.

-- however it goes on from here, so it does from the start
abbrev pub LimitGoesOn : {T : Type 0} → Seeker T → ℕ → Take T → Take T → Type 0
LimitGoesOn {T} S n old now = (reply : Result ℕ Error) (new : Take T) → LimitGoes S n now reply new → LimitGoes S n old reply new

-- a seek by 0 bytes makes no step
pub stays_here : {T : Type 0} (S : Seeker T) (t : Take T) → limit_position t < 2 ^ 64
    → LimitMaySeek S t (Sought here (Ok (limit_position t))) t
stays_here S t small = (
  λ n target. let is : limit_position t ≡ n = omega (arith, target.0.0) in
      subst (λ k. LimitGoes S n t (Ok k) t) (sym is) (arrived is),
  λ none. absurd (none (limit_position t) ((omega arith, small), omega arith)),
)

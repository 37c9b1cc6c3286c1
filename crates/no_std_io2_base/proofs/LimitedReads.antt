-- A `Take` does by reads of its inner reader what these do, up to its limit.
use Rattle.std.proofs.{lemmas.{Bool.{cases_lt}, Grind.{common_steps}}, Common.{◌≡◌, ℕ, ◌+◌, ◌-◌, ◌<◌, min, List, [], ◌∷◌, ◌++◌, Result, Ok}}
use Rattle.std.proofs.Common.{Err, length, refl, sym, ap, subst, ◌∙◌, arith, Vec, vec_len, vec_capacity, inl, inr, length-append}
use Rattle.no_std_io2_base.specs.{declared.{error.Error.{Error}, traits.take.Take.{Take}}, Events.{Event, event_bytes}, Calls.{ReadCall}}
use Rattle.no_std_io2_base.specs.{Calls.{Gave, Made, ByCalls}, Takes.{Reader, ReaderState, tells, to_come}, Read.{ReadAtMostLaw, ToEndLaw}}
use Rattle.no_std_io2_base.specs.{Read.{ReadCallLaw}, inner.Read.{IsRoomWithin, Gathers, no_read, and_gave, and_again, GathersUntil}}
use Rattle.no_std_io2_base.specs.inner.Read.{AtMostCalls, ToEndCalls, DrainsOrStops, EndsWithin, without_number, GaveLaw, bytes_given}
use Rattle.no_std_io2_base.{specs.inner.{Read.{least_room}, Take.{limit_inner, limit_left, LimitTakes}}, proofs.CallsLemmas.{made_split}}
use Rattle.no_std_io2_base.proofs.{CallsLemmas.{made_more}, KnownBytes.{bytes_within}, AtMostLemmas.{in_room, until_in_room}}
use Rattle.no_std_io2_base.proofs.LimitLemmas.{limit_reader, gave_inner, limit_takes, gave_at_limit, cut_end, cut_zero}

-- a `Take` after reads of its inner reader that gave n bytes
abbrev pub limited : {T : Type 0} → Take T → T → ℕ → Take T
limited old now n = record old { inner = now; limit = limit_left old - n }

module _ {T : Type 0} (inner : Reader T) (old : Take T) where
  -- such a read is one of the `Take`
  gave_limited : (mid now : T) (n room : ℕ) (answer : Result (List ℕ) Error) → IsRoomWithin (limit_left old) n room
      → GaveLaw inner mid room answer now
      → GaveLaw (limit_reader inner) (limited old mid n) room answer (limited old now (n + length (bytes_given answer)))
  gave_limited mid now n room answer within law =
      let same : room ≡ min room (limit_left old - n) = omega (arith, within.1) in
      let some : 0 < limit_left old - n = omega (arith, within.0, within.1) in
      let falls : limit_left old - (n + length (bytes_given answer)) + length (bytes_given answer) ≡ limit_left old - n =
      omega (arith, law.bound, within.1) in
      gave_inner {old = limited old mid n} {new = limited old now (n + length (bytes_given answer))} room answer some
      (subst (λ k. GaveLaw inner mid k answer now) same law) falls refl

  -- and so is one more
  more_limited : (C : List ReadCall) (n room : ℕ) (answer : Result (List ℕ) Error) → IsRoomWithin (limit_left old) n room → (mid now : T)
      → Made (ReadCallLaw (limit_reader inner)) old C (limited old mid n) → Made (ReadCallLaw inner) mid (Gave room answer ∷ []) now
      → Made (ReadCallLaw (limit_reader inner)) old (C ++ Gave room answer ∷ []) (limited old now (n + length (bytes_given answer)))
  more_limited C n room answer within mid now first last =
      made_more (ReadCallLaw (limit_reader inner)) C old first
      (subst (λ t. ReadCallLaw (limit_reader inner) (limited old mid n) (Gave room answer)
      (limited old t (n + length (bytes_given answer)))) (sym last.2) (gave_limited mid last.0 n room answer within last.1))

  -- and so are all of them
  made_limited : {C : List ReadCall} {x : List ℕ} → Gathers (IsRoomWithin (limit_left old)) C x → (now : T)
      → Made (ReadCallLaw inner) (limit_inner old) C now → Made (ReadCallLaw (limit_reader inner)) old C (limited old now (length x))
  made_limited no_read now made = grind (arith, common_steps)
  made_limited (and_gave C x y room so_far within some) now made =
      let (mid, first, last) = made_split (ReadCallLaw inner) C (limit_inner old) (Gave room (Ok y) ∷ []) now made in
      subst (λ n. Made (ReadCallLaw (limit_reader inner)) old (C ++ Gave room (Ok y) ∷ []) (limited old now n)) (sym (length-append x y))
      (more_limited C (length x) room (Ok y) within mid now (made_limited so_far mid first) last)
  made_limited (and_again C x room e so_far within waited) now made =
      let (mid, first, last) = made_split (ReadCallLaw inner) C (limit_inner old) (Gave room (Err e) ∷ []) now made in
      subst (λ n. Made (ReadCallLaw (limit_reader inner)) old (C ++ Gave room (Err e) ∷ []) (limited old now n)) (omega arith)
      (more_limited C (length x) room (Err e) within mid now (made_limited so_far mid first) last)

  until_limited : {C : List ReadCall} (x : List ℕ) (answer : Result (List ℕ) Error)
      → GathersUntil (IsRoomWithin (limit_left old)) C x answer → (now : T) → Made (ReadCallLaw inner) (limit_inner old) C now
      → Made (ReadCallLaw (limit_reader inner)) old C (limited old now (length x + length (bytes_given answer)))
  until_limited x answer (D, room, so_far, within, is) now made =
      let (mid, first, last) = made_split (ReadCallLaw inner) D (limit_inner old) (Gave room answer ∷ []) now
      (subst (λ l. Made (ReadCallLaw inner) (limit_inner old) l now) is made) in
      subst (λ l. Made (ReadCallLaw (limit_reader inner)) old l (limited old now (length x + length (bytes_given answer)))) (sym is)
      (more_limited D (length x) room answer within mid now (made_limited so_far mid first) last)

  -- if the limit was reached, one more `read` of the `Take` would meet the end
  calls_limited : (C : List ReadCall) (x : List ℕ) (answer : Result (Unit {0}) Error) → AtMostCalls C (limit_left old) x answer → (now : T)
      → Made (ReadCallLaw inner) (limit_inner old) C now
      → ByCalls (ReadCallLaw (limit_reader inner)) old (λ D. ToEndCalls D x answer) (limited old now (length x))
  calls_limited C x (Ok u) (inl (gathers, whole)) now made = record {
    calls = C ++ Gave 1 (Ok []) ∷ [];
    made = made_more (ReadCallLaw (limit_reader inner)) C old (made_limited gathers now made) (gave_at_limit 1 (omega (arith, whole)));
    are = inr (C, 1, in_room gathers, omega arith, refl);
  }
  calls_limited C x (Ok u) (inr until) now made = record {
    calls = C;
    made = subst (λ n. Made (ReadCallLaw (limit_reader inner)) old C (limited old now n)) (omega arith)
        (until_limited x (Ok []) until now made);
    are = inr (until_in_room until);
  }
  calls_limited C x (Err e) (inl (fault, until)) now made = record {
    calls = C;
    made = subst (λ n. Made (ReadCallLaw (limit_reader inner)) old C (limited old now n)) (omega arith)
        (until_limited x (Err e) until now made);
    are = inr (inl (fault, until_in_room until));
  }
  calls_limited C x (Err e) (inr (refused, gathers)) now made = record {
    calls = C;
    made = made_limited gathers now made;
    are = inr (inr (refused, in_room gathers));
  }

  -- it ended as the reads of its inner reader did
  ended_limited : (lacks : Type 0) (P : List Event) (now : T) (reply : Result ℕ Error)
      → EndsWithin (limit_left old) lacks P reply (tells inner now)
      → DrainsOrStops lacks P reply (tells (limit_reader inner) (limited old now (length (event_bytes P))))
  ended_limited lacks P now (Ok n) (free, end) = (
    free,
    elim (cases_lt (length (event_bytes P)) (limit_left old)) [
      | inl less ↦ cut_end _ (to_come (tells inner now)) (end less)
      | inr past ↦ cut_zero _ (to_come (tells inner now)) (omega (arith, past))
    ],
  )
  ended_limited lacks P now (Err e) stops = stops.1

  -- a read of at most as many bytes as the limit left is the `read_to_end` of the `Take`
  pub limited_to_end : {A : Type 0} {buf buf' : Vec ℕ A} (reply : Result ℕ Error) {now : T} {new : Take T}
      → ReadAtMostLaw inner (limit_left old) (limit_inner old) buf reply buf' now → new ≡ limited old now (vec_len buf' - vec_len buf)
      → ToEndLaw (λ n. vec_capacity buf < vec_len buf + min (limit_left old) (n + least_room)) (limit_reader inner) old buf reply buf' new
  limited_to_end {A} {buf} {buf'} reply {now} {new} law is =
      let P = law.taken in
      let long : vec_len buf' - vec_len buf ≡ length (event_bytes P) =
      omega (arith, ap length law.appends.0, length-append buf.items (event_bytes P), buf.ok.0, buf'.ok.0) in
      let took : LimitTakes inner old P (limited old now (length (event_bytes P))) = record {
        takes = law.takes;
        within = law.within;
        limit = omega (arith, bytes_within (limit_left old) P law.within);
        len = refl;
        at_limit = λ none. same_at_limit now (length (event_bytes P)) none (law.none none).1;
      } in
      subst (λ t. ToEndLaw (λ n. vec_capacity buf < vec_len buf + min (limit_left old) (n + least_room)) (limit_reader inner) old buf reply
      buf' t) (sym (is ∙ ap (limited old now) long)) (record {
        taken = P;
        takes = limit_takes P took;
        appends = law.appends;
        ends = ended_limited _ P now reply law.ends;
        capacity = law.capacity;
        calls = calls_limited law.calls.calls (event_bytes P) (without_number reply) law.calls.are now law.calls.made;
      })
    where
      same_at_limit : (now : T) (n : ℕ) → limit_left old ≡ 0 → now ≡ limit_inner old → limited old now n ≡ old
      same_at_limit now n none same =
          ap (λ l. record old { inner = now; limit = l }) (omega (arith, none)) ∙ ap (λ t. record old { inner = t }) same

-- the reason for a failed allocation is one for a weaker promise
pub lacks_less : {X A : Type 0} {lacks lacks' : ℕ → Type 0} {R : Reader X} {old new : X} {buf buf' : Vec ℕ A} {reply : Result ℕ Error}
    → ToEndLaw lacks R old buf reply buf' new → ((n : ℕ) → lacks n → lacks' n) → ToEndLaw lacks' R old buf reply buf' new
lacks_less {R = R} {new = new} {reply = reply} law less = record {
  taken = law.taken;
  takes = law.takes;
  appends = law.appends;
  ends = weaker law.taken _ reply (less (length (event_bytes law.taken))) law.ends;
  capacity = law.capacity;
  calls = law.calls;
}
  where
    weaker : {l l' : Type 0} (P : List Event) (t : ReaderState) (reply : Result ℕ Error) → (l → l') → DrainsOrStops l P reply t
        → DrainsOrStops l' P reply t
    weaker P t (Ok n) less ends = ends
    weaker P t (Err e) less (inl fault) = inl fault
    weaker P t (Err e) less (inr (free, refused, why)) = inr (free, refused, less why)

-- at limit 0 it gives none
pub none_at_end : {X A : Type 0} {R : Reader X} {limit : ℕ} {old new : X} {buf buf' : Vec ℕ A} (reply : Result ℕ Error)
    → ReadAtMostLaw R limit old buf reply buf' new → limit ≡ 0 → reply ≡ Ok 0
none_at_end {limit = limit} (Ok n) law none = ap Ok (omega (arith, none, law.appends.1, bytes_within limit law.taken law.within))
none_at_end (Err e) law none = absurd (omega (arith, none, law.ends.0))

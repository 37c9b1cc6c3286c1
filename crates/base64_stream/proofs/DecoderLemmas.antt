-- What a decoder gives, one step after another, and the law of its `read`.
use Rattle.no_std_io2.proofs.Words.{common_steps, ◌≡◌, ℕ, ◌+◌, ◌-◌, ◌*◌, ◌/◌, ◌%◌, ◌<◌, ◌≤◌, min, Bool, true, false, List, [], ◌∷◌, ◌++◌}
use Rattle.no_std_io2.proofs.Words.{length, take, drop, Option, Some, None, Result, Ok, Err, refl, sym, ap, ap₂, subst, ◌∙◌, arith, inl}
use Rattle.no_std_io2.proofs.Words.{inr, append_assoc, append-nil, length-append, length-take, length-drop, take-append-drop}
use Rattle.no_std_io2.proofs.Words.{nil_from_length, Event, byte, fails, events_of, event_bytes, HasNoFault, Reader, ReadLaw, tells, Takes}
use Rattle.no_std_io2.proofs.{Words.{to_come, IsAtEnd, AreTaken, nat_lt, cases_lt, length-take-le}, TakesLemmas.{HasNoFault-append}}
use Rattle.no_std_io2.proofs.TakesLemmas.{HasNoFault-events_of, bytes-append, bytes-behind, events_of-append, length-events_of, takes_none}
use Rattle.no_std_io2.{proofs.ReadsLemmas.{Reads-none, Reads-takes}, specs.declared.io.{Error.{Error}, ErrorKind.TheVariants.{InvalidData}}}
use Rattle.no_std_io2.specs.{inner.{Kinds.{error_of}, Buffer.{AsksOn, HasTo}, Reads.{GathersTo, Reads}}, Reads.{Took}}
use Rattle.base64.specs.declared.engine.general_purpose.GeneralPurpose.{GeneralPurpose}
use Rattle.std.specs.Option.{IfSome, option_map}
use Rattle.base64_stream.specs.{declared.decoder.DecoderReader.{DecoderReader}, Held.{GathersText}, Decoding.{closed_after, decoded_events}}
use Rattle.base64_stream.specs.{Decoding.{decoded_group, group_events}, Decoder.{Decodes, goes_on, cut_off, DecoderMay, DecodesFront}}
use Rattle.base64_stream.specs.Decoder.{FillsWaiting, TakesText, decoder_closed, decoder_engine, decoder_events, decoder_gives}
use Rattle.base64_stream.{specs.Decoder.{decoder_inner, decoder_text, decoder_turns, decoder_waiting}, proofs.DecodingLemmas.{passes_fault}}
use Rattle.base64_stream.proofs.DecodingLemmas.{last_group_given, group_given, group_in_front, groups_in_front, text_first}
use Rattle.base64_stream.proofs.{DecodingLemmas.{without_interruptions}, GroupsLemmas.{decodes_some}}

-- no more bytes than events
bytes_fewer : (P : List Event) → length (event_bytes P) ≤ length P
bytes_fewer [] = omega arith
bytes_fewer (byte b ∷ P) = omega (arith, bytes_fewer P)
bytes_fewer (fails e ∷ P) = omega (arith, bytes_fewer P)

-- a whole number of groups, or the last characters
abbrev pub AreGroups : ℕ → List ℕ → Type 0
AreGroups n text = (0 < n) × (n ≤ length text) × (4 ≤ length text → n % 4 ≡ 0) × (length text < 4 → n ≡ length text)

module _ {R : Type 0} (I : Reader R) where
  -- The text was gathered, and nothing else has changed.
  abbrev pub Gathers : DecoderReader R → Result Bool Error → DecoderReader R → Type 0
  Gathers old how new = GathersText I (decoder_inner old) (decoder_text old) how (decoder_inner new) (decoder_text new)
      × (new.engine ≡ old.engine) × (new.closed ≡ old.closed) × (decoder_waiting new ≡ decoder_waiting old)

  -- a decoder, as the laws of its calls see it
  abbrev pub decoder_reader : Reader (DecoderReader R)
  decoder_reader = record {
    store = λ r. None;
    turns = decoder_turns I.turns;
    events = decoder_events (tells I);
    may = DecoderMay I;
    held = λ r. [];
  }

  -- nothing
  pub decodes_nothing : (r : DecoderReader R) → Decodes I r [] r
  decodes_nothing r = goes_on [] (record {
    takes = takes_none (tells I (decoder_inner r));
    how = Ok true;
    ends = tt;
    reads = Reads-none (decoder_inner r);
  }) (λ E. refl)

  -- what is told is what is given, and then the rest
  gives_told : (old new : Option (List Event)) (P given : List Event) (f g : List Event → List Event) → AreTaken old P new
      → ((E : List Event) → f (P ++ E) ≡ given ++ g E) → AreTaken (option_map f old) given (option_map g new)
  gives_told None new P given f g taken is = tt
  gives_told (Some E) None P given f g taken is = absurd taken
  gives_told (Some E) (Some after) P given f g taken is = ap f taken ∙ is after

  -- at the end
  gives_last : (old new : Option (List Event)) (P given : List Event) (f g : List Event → List Event) → AreTaken old P new
      → IfSome new (λ l. l ≡ []) → f P ≡ given ++ g [] → AreTaken (option_map f old) given (option_map g new)
  gives_last None new P given f g taken end is = tt
  gives_last (Some E) None P given f g taken end is = absurd taken
  gives_last (Some E) (Some after) P given f g taken end is =
      ap f (taken ∙ ap (λ l. P ++ l) end ∙ append-nil P) ∙ is ∙ ap (λ l. given ++ g l) (sym end)

  -- so a decoder takes what it gives of what it tells
  pub decodes_takes : {old new : DecoderReader R} {given : List Event} → Decodes I old given new
      → decoder_turns I.turns new + min 1 (length given) ≤ decoder_turns I.turns old
      → Takes (tells decoder_reader old) given (tells decoder_reader new)
  decodes_takes {old} {new} {given} (goes_on P takes gives) turns = record {
    events = gives_told (to_come (tells I (decoder_inner old))) (to_come (tells I (decoder_inner new))) P given (decoder_gives old)
        (decoder_gives new) takes.takes.events gives;
    store = tt;
    turns = turns;
  }
  decodes_takes {old} {new} {given} (cut_off P takes end gives) turns = record {
    events = gives_last (to_come (tells I (decoder_inner old))) (to_come (tells I (decoder_inner new))) P given (decoder_gives old)
        (decoder_gives new) takes.takes.events end gives;
    store = tt;
    turns = turns;
  }

  -- at most 192 bytes wait
  waiting_most : (r : DecoderReader R) → length (decoder_waiting r) ≤ 192
  waiting_most r = grind (arith, common_steps, length-take, r.waiting.end)

  -- and then gives something that does not depend on what comes,
  pub decodes_more : {a b c : DecoderReader R} (P : List Event) → Decodes I a [] b → decoder_inner c ≡ decoder_inner b
      → ((E : List Event) → decoder_gives b E ≡ P ++ decoder_gives c E) → Decodes I a P c
  decodes_more {a} {b} {c} P (goes_on T takes gives) same is =
      goes_on T (subst (λ i. TakesText I a T i) (sym same) takes) (λ E. gives E ∙ is E)
  decodes_more {a} {b} {c} P (cut_off T takes end gives) same is =
      cut_off T (subst (λ i. TakesText I a T i) (sym same) takes) (subst (λ i. IsAtEnd (tells I i)) (sym same) end) (gives ∙ is [])

  -- or what it gives at the end
  decodes_last : {a b c : DecoderReader R} (P : List Event) → Decodes I a [] b → decoder_inner c ≡ decoder_inner b
      → IsAtEnd (tells I (decoder_inner b)) → decoder_gives b [] ≡ P ++ decoder_gives c [] → Decodes I a P c
  decodes_last {a} {b} {c} P (goes_on T takes gives) same end is =
      cut_off T (subst (λ i. TakesText I a T i) (sym same) takes) (subst (λ i. IsAtEnd (tells I i)) (sym same) end)
      (ap (decoder_gives a) (sym (append-nil T)) ∙ gives [] ∙ is)
  decodes_last {a} {b} {c} P (cut_off T takes end gives) same _ is =
      cut_off T (subst (λ i. TakesText I a T i) (sym same) takes) (subst (λ i. IsAtEnd (tells I i)) (sym same) end) (gives ∙ is)

  -- bytes that wait come first
  pub waiting_first : (b c : DecoderReader R) (x : List ℕ) → decoder_waiting b ≡ x ++ decoder_waiting c
      → decoder_engine c ≡ decoder_engine b
      → decoder_closed c ≡ decoder_closed b → decoder_text c ≡ decoder_text b → (E : List Event)
      → decoder_gives b E ≡ events_of x ++ decoder_gives c E
  waiting_first b c x split engine closed text E =
      let rest = decoded_events b.engine b.closed [] (events_of (decoder_text b) ++ E) in
      rw (engine, closed, text)
      (ap (λ l. events_of l ++ rest) split ∙ ap (λ l. l ++ rest) (events_of-append x (decoder_waiting c))
      ∙ append_assoc (events_of x) (events_of (decoder_waiting c)) rest)

  -- if no bytes wait, the text is next
  pub text_next : (r : DecoderReader R) (E : List Event) → decoder_waiting r ≡ []
      → decoder_gives r E ≡ decoded_events r.engine r.closed [] (events_of (decoder_text r) ++ E)
  text_next r E none = ap (λ l. events_of l ++ decoded_events r.engine r.closed [] (events_of (decoder_text r) ++ E)) none

  -- at most 256 characters are there
  text_most : (r : DecoderReader R) → length (decoder_text r) ≤ 256
  text_most r = omega (arith, length-take (r.text.end - r.text.start) (drop r.text.start r.text.bytes), r.text.ordered, r.text.in_range)

  -- the events that the reads of a group took
  text_took : (old mid : DecoderReader R) {how : Result Bool Error} (gathers : Gathers old how mid)
      → Took (tells I (decoder_inner old)) gathers.0.given how (tells I (decoder_inner mid))
  text_took old mid gathers = Reads-takes (λ at room asks. omega (arith, asks.0, asks.1)) _ gathers.0.reads

  -- the reader below gave them
  text_taken : (old mid : DecoderReader R) {how : Result Bool Error} (gathers : Gathers old how mid)
      → TakesText I old (text_took old mid gathers).taken (decoder_inner mid)
  text_taken old mid {how} gathers = record {
    takes = (text_took old mid gathers).takes;
    how = how;
    ends = (text_took old mid gathers).ends;
    reads = subst (λ x. Reads I (AsksOn 256 4 (decoder_text old)) (decoder_inner old) x how (decoder_inner mid))
        (sym (text_took old mid gathers).are) gathers.0.reads;
  }

  -- and the text grew by their bytes
  text_grows : (old mid : DecoderReader R) {how : Result Bool Error} (gathers : Gathers old how mid)
      → decoder_text old ++ event_bytes (text_took old mid gathers).taken ≡ decoder_text mid
  text_grows old mid gathers = ap (λ l. decoder_text old ++ l) (text_took old mid gathers).are ∙ sym gathers.0.holds

  -- the turns did not rise
  text_turns : (old mid : DecoderReader R) {how : Result Bool Error} → Gathers old how mid
      → 257 * I.turns mid.inner + length (decoder_text mid) ≤ 257 * I.turns old.inner + length (decoder_text old)
  text_turns old mid gathers =
      let took = text_took old mid gathers in
      let long = length-append (decoder_text old) (event_bytes took.taken) in
      omega (arith, took.takes.turns, ap length (text_grows old mid gathers), long, text_most mid, bytes_fewer took.taken)

  -- no fault came, and if there is no group the end did
  ended : (mid : DecoderReader R) (full : Bool) (P : List Event) → HasTo 4 (Ok full) (length (decoder_text mid))
      → GathersTo P (Ok full) (tells I (decoder_inner mid))
      → HasNoFault P × (length (decoder_text mid) < 4 → IsAtEnd (tells I (decoder_inner mid)))
  ended mid true P enough ends = (ends, λ short. absurd (omega (arith, short, enough)))
  ended mid false P enough ends = (ends.0, λ short. ends.1)

  -- characters were read, and nothing is given yet
  text_read : (old mid : DecoderReader R) {full : Bool} → Gathers old (Ok full) mid → Decodes I old [] mid
  text_read old mid {full} gathers =
      let took = text_took old mid gathers in
      let P = took.taken in
      let held = events_of (decoder_text old) in
      let (free, end) = ended mid full P gathers.0.enough took.ends in
      let (text, engine, closed, waiting) = gathers in
      goes_on P (text_taken old mid gathers) (λ E. ap₂ (λ w l. events_of w ++ l) (sym waiting)
      (ap (decoded_events old.engine old.closed []) (sym (append_assoc held P E))
      ∙ without_interruptions old.engine old.closed [] (held ++ P) E
      (HasNoFault-append held P (HasNoFault-events_of (decoder_text old)) free)
      ∙ ap (λ l. decoded_events old.engine old.closed [] (events_of l ++ E))
      (bytes-behind (decoder_text old) P ∙ text_grows old mid gathers)
      ∙ ap₂ (λ e c. decoded_events e c [] (events_of (decoder_text mid) ++ E)) (sym engine) (sym closed)))

  -- the end came before a group was whole
  text_ends : (old mid : DecoderReader R) {full : Bool} → Gathers old (Ok full) mid → length (decoder_text mid) < 4
      → IsAtEnd (tells I (decoder_inner mid))
  text_ends old mid {full} gathers short =
      let took = text_took old mid gathers in (ended mid full took.taken gathers.0.enough took.ends).1 short

  -- a fault came before
  pub refill_fails : (old mid : DecoderReader R) {e : Error} → Gathers old (Err e) mid → decoder_waiting old ≡ []
      → FillsWaiting I old (Err e) mid
  refill_fails old mid {e} gathers none =
      let took = text_took old mid gathers in
      let P = took.taken in
      let (Q, split, free, fault) = took.ends in
      let short : length (decoder_text mid) < 4 = gathers.0.enough in
      let (text, engine_kept, closed_kept, waiting_kept) = gathers in
      let idle : decoder_waiting mid ≡ [] = waiting_kept ∙ none in
      let held = events_of (decoder_text old) in
      let chars : event_bytes (held ++ Q) ≡ decoder_text mid =
      bytes-behind (decoder_text old) Q
      ∙ ap (λ l. decoder_text old ++ l)
      (sym (append-nil (event_bytes Q)) ∙ sym (bytes-append Q (fails e ∷ [])) ∙ ap event_bytes (sym split))
      ∙ text_grows old mid gathers in
      let engine = old.engine in
      let closed = old.closed in
      let some : 0 < length P = omega (arith, ap length split, length-append Q (fails e ∷ [])) in (
        goes_on P (text_taken old mid gathers) (λ E. text_next old (P ++ E) none
            ∙ ap (λ l. decoded_events engine closed [] (held ++ (l ++ E))) split
            ∙ ap (decoded_events engine closed []) (sym (append_assoc held (Q ++ fails e ∷ []) E)
            ∙ ap (λ l. l ++ E) (sym (append_assoc held Q (fails e ∷ []))))
            ∙ passes_fault engine closed [] (held ++ Q) E (HasNoFault-append held Q (HasNoFault-events_of (decoder_text old)) free) fault
            (omega (arith, ap length chars, short))
            ∙ ap (λ l. fails e ∷ decoded_events engine closed l E) chars
            ∙ ap (λ l. fails e ∷ l) (sym (text_first engine closed (decoder_text mid) E short))
            ∙ ap₂ (λ g c. fails e ∷ decoded_events g c [] (events_of (decoder_text mid) ++ E)) (sym engine_kept) (sym closed_kept)
            ∙ ap (λ l. fails e ∷ l) (sym (text_next mid E idle))),
        omega (arith, took.takes.turns, some, short, ap length idle),
      )

  -- the end came before a group
  pub refill_ends : (old mid : DecoderReader R) {full : Bool} → Gathers old (Ok full) mid → decoder_waiting old ≡ []
      → length (decoder_text mid) ≡ 0 → FillsWaiting I old (Ok tt) mid
  refill_ends old mid gathers none zero = (
    text_read old mid gathers,
    omega (arith, text_turns old mid gathers, ap length gathers.3),
    λ idle. (text_ends old mid gathers (omega (arith, zero)), nil_from_length (decoder_text mid) zero),
  )

  -- the text in two parts
  in_two : (engine : GeneralPurpose) (closed : Bool) (n : ℕ) (text : List ℕ) (E : List Event)
      → decoded_events engine closed [] (events_of text ++ E)
      ≡ decoded_events engine closed [] (events_of (take n text) ++ (events_of (drop n text) ++ E))
  in_two engine closed n text E =
      ap (λ l. decoded_events engine closed [] (l ++ E)) (ap events_of (sym (take-append-drop n text))
      ∙ events_of-append (take n text) (drop n text))
      ∙ ap (decoded_events engine closed []) (append_assoc (events_of (take n text)) (events_of (drop n text)) E)

  -- a refusal changes nothing
  pub still_gathered : (old mid new : DecoderReader R) (n : ℕ) {full : Bool} → Gathers old (Ok full) mid
      → DecodesFront n mid false new → decoder_waiting old ≡ [] → Gathers old (Ok full) new
  still_gathered old mid new n {full} (gathers, was, before, waited) (refused, idle, engine, closed, inner, text) none = (
    rw (inner, text) gathers,
    engine ∙ was,
    closed ∙ before,
    idle ∙ sym none,
  )

  -- the groups were decoded at once
  pub refill_gives : (old mid new : DecoderReader R) (n : ℕ) {full : Bool} → Gathers old (Ok full) mid → decoder_waiting mid ≡ []
      → AreGroups n (decoder_text mid) → DecodesFront n mid true new → FillsWaiting I old (Ok tt) new
  refill_gives old mid new n gathers none (some, within, whole, last) (opened, decodes, engine, closed, inner, text) =
      let e = mid.engine in
      let s = take n (decoder_text mid) in
      let rest = drop n (decoder_text mid) in
      let x = decoder_waiting new in
      let long : length s ≡ n = length-take-le n (decoder_text mid) within in
      let given : 0 < length x = decodes_some e s x (omega (arith, some, long)) decodes in
      let read = text_read old mid gathers in
      let left : length (decoder_text new) + n ≡ length (decoder_text mid) =
      omega (arith, within, ap length text, length-drop n (decoder_text mid)) in
      let after = λ (E : List Event). ap (λ l. events_of x ++ decoded_events e new.closed [] (events_of l ++ E)) (sym text)
      ∙ ap (λ g. events_of x ++ decoded_events g new.closed [] (events_of (decoder_text new) ++ E)) (sym engine) in (
        elim (cases_lt (length (decoder_text mid)) 4) [
          | inr many ↦
              let groups : length s / 4 ≡ (n + 3) / 4 = omega (arith, whole many, long) in
              decodes_more [] read inner (λ E. text_next mid E none ∙ in_two e mid.closed n (decoder_text mid) E
              ∙ ap (λ c. decoded_events e c [] (events_of s ++ (events_of rest ++ E))) opened
              ∙ groups_in_front e s x (events_of rest ++ E) (omega (arith, some, long)) (omega (arith, whole many, long)) decodes
              ∙ ap (λ c. events_of x ++ decoded_events e c [] (events_of rest ++ E))
              (ap (λ k. nat_lt (length x) (k * 3)) groups ∙ sym closed) ∙ after E)
          | inl few ↦
              let all : rest ≡ [] = nil_from_length rest (omega (arith, last few, length-drop n (decoder_text mid))) in
              decodes_last [] read inner (text_ends old mid gathers few)
              (text_next mid [] none ∙ in_two e mid.closed n (decoder_text mid) []
              ∙ ap (λ c. decoded_events e c [] (events_of s ++ (events_of rest ++ []))) opened
              ∙ ap (λ l. decoded_events e false [] (events_of s ++ (events_of l ++ []))) all
              ∙ text_first e false s [] (omega (arith, few, last few, long))
              ∙ last_group_given e false s (omega (arith, some, long)) ∙ rw decodes (group_given x given)
              ∙ sym (append-nil (events_of x))
              ∙ ap (λ l. events_of x ++ decoded_events e new.closed [] (events_of l ++ [])) (sym all) ∙ after [])
        ],
        omega (arith, text_turns old mid gathers, some, left, waiting_most new, ap I.turns inner),
        λ idle. absurd (omega (arith, given, ap length idle)),
      )

  -- a group that is refused gives an error
  pub refill_refuses : (old mid new : DecoderReader R) (n : ℕ) {full : Bool} {e : Error} → Gathers old (Ok full) mid
      → decoder_waiting mid ≡ [] → 0 < length (decoder_text mid) → n ≡ min (length (decoder_text mid)) 4
      → decoded_group mid.engine mid.closed (take n (decoder_text mid)) ≡ [] → decoder_waiting new ≡ []
      → new.engine ≡ mid.engine → new.closed ≡ mid.closed → decoder_inner new ≡ decoder_inner mid
      → decoder_text new ≡ drop n (decoder_text mid) → e ≡ error_of InvalidData → FillsWaiting I old (Err e) new
  refill_refuses old mid new n {e = e} gathers none some first refused idle engine closed inner text error =
      let g = mid.engine in
      let c = mid.closed in
      let s = take n (decoder_text mid) in
      let rest = drop n (decoder_text mid) in
      let long : length s ≡ n = length-take-le n (decoder_text mid) (omega (arith, first)) in
      let read = text_read old mid gathers in
      let given : group_events (decoded_group g c s) ≡ fails e ∷ [] = ap group_events refused ∙ ap (λ e. fails e ∷ []) (sym error) in
      let left : length (decoder_text new) + n ≡ length (decoder_text mid) =
      omega (arith, first, ap length text, length-drop n (decoder_text mid)) in
      let after = λ (E : List Event). ap₂ (λ e c. decoded_events e c [] (events_of rest ++ E)) (sym engine) (sym closed)
      ∙ ap (λ l. decoded_events new.engine new.closed [] (events_of l ++ E)) (sym text) ∙ sym (text_next new E idle) in (
        elim (cases_lt (length (decoder_text mid)) 4) [
          | inr many ↦ decodes_more (fails e ∷ []) read inner (λ E. text_next mid E none ∙ in_two g c n (decoder_text mid) E
              ∙ group_in_front g c s (events_of rest ++ E) (omega (arith, first, many, long))
              ∙ ap₂ (λ l d. l ++ decoded_events g d [] (events_of rest ++ E)) given (ap (closed_after c) refused)
              ∙ ap (λ l. fails e ∷ l) (after E))
          | inl few ↦
              let all : rest ≡ [] = nil_from_length rest (omega (arith, first, few, length-drop n (decoder_text mid))) in
              decodes_last (fails e ∷ []) read inner (text_ends old mid gathers few) (text_next mid [] none
              ∙ in_two g c n (decoder_text mid) []
              ∙ ap (λ l. decoded_events g c [] (events_of s ++ (events_of l ++ []))) all
              ∙ text_first g c s [] (omega (arith, few, first, long))
              ∙ last_group_given g c s (omega (arith, some, first, long)) ∙ given
              ∙ ap (λ l. fails e ∷ l) (ap (λ l. decoded_events g c [] (events_of l ++ [])) (sym all) ∙ after []))
        ],
        omega (arith, text_turns old mid gathers, some, first, left, ap length idle, ap I.turns inner),
      )

  -- bytes wait
  pub fill_ready : (r : DecoderReader R) → 0 < length (decoder_waiting r) → FillsWaiting I r (Ok tt) r
  fill_ready r some = (decodes_nothing r, omega arith, λ none. absurd (omega (arith, some, ap length none)))

  -- nothing is read into no room
  pub gave_nothing : (r : DecoderReader R) (buf buf' : List ℕ) → length buf' ≡ 0 → ReadLaw decoder_reader r buf (Ok 0) buf' r
  gave_nothing r buf buf' none = record {
    bound = omega arith;
    takes = takes_none (tells decoder_reader r);
    end = λ zero room. absurd (omega (arith, none, room));
    call = decodes_nothing r;
  }

  -- an error was returned
  pub gave_error : {old new : DecoderReader R} {e : Error} (buf buf' : List ℕ) → FillsWaiting I old (Err e) new
      → ReadLaw decoder_reader old buf (Err e) buf' new
  gave_error buf buf' fills = record {
    bound = tt;
    takes = decodes_takes fills.0 (omega (arith, fills.1));
    end = tt;
    call = fills.0;
  }

  -- at the end nothing is told
  end_told : (o : Option (List Event)) (f : List Event → List Event) → IfSome o (λ l. l ≡ []) → f [] ≡ []
      → IfSome (option_map f o) (λ l. l ≡ [])
  end_told None f end is = tt
  end_told (Some E) f end is = ap f end ∙ is

  -- some bytes were given, or the end has come
  pub gave_waiting : {old mid new : DecoderReader R} (buf buf' : List ℕ) (n : ℕ) → FillsWaiting I old (Ok tt) mid
      → n ≡ min (length buf') (length (decoder_waiting mid)) → decoder_waiting mid ≡ take n buf' ++ decoder_waiting new
      → decoder_inner new ≡ decoder_inner mid → decoder_engine new ≡ decoder_engine mid → decoder_closed new ≡ decoder_closed mid
      → decoder_text new ≡ decoder_text mid → ReadLaw decoder_reader old buf (Ok n) buf' new
  gave_waiting {old} {mid} {new} buf buf' n (decodes, turns, end) count split inner engine closed text =
      let x = take n buf' in
      let given : Decodes I old (events_of x) new = decodes_more (events_of x) decodes inner
      (waiting_first mid new x split engine closed text) in
      let fewer : length (decoder_waiting mid) ≡ length x + length (decoder_waiting new) =
      ap length split ∙ length-append x (decoder_waiting new) in
      let falls : decoder_turns I.turns new + min 1 (length (events_of x)) ≤ decoder_turns I.turns old =
      omega (arith, turns, fewer, ap I.turns inner, ap length text, length-events_of x) in
      let at_end = λ (zero : n ≡ 0) (room : 0 < length buf').
      let none : decoder_waiting mid ≡ [] = nil_from_length (decoder_waiting mid) (omega (arith, zero, room, count)) in
      let none_left : decoder_waiting new ≡ [] = nil_from_length (decoder_waiting new) (omega (arith, fewer, ap length none)) in
      let ended = end none in
      end_told (to_come (tells I (decoder_inner new))) (decoder_gives new) (subst (λ i. IsAtEnd (tells I i)) (sym inner) ended.0)
      (text_next new [] none_left ∙ ap (λ t. decoded_events new.engine new.closed [] (events_of t ++ [])) (text ∙ ended.1)) in
      record { bound = omega (arith, count); takes = decodes_takes given falls; end = at_end; call = given }

module _ {R : Type 0} (I : Reader R) where
  -- a new decoder tells the decoding of what the reader below tells
  pub starts_decoding : (r : DecoderReader R) (engine : GeneralPurpose) (E : List Event) → decoder_engine r ≡ engine
      → decoder_closed r ≡ false → decoder_text r ≡ [] → decoder_waiting r ≡ [] → to_come (tells I (decoder_inner r)) ≡ Some E
      → decoder_events (tells I) r ≡ Some (decoded_events engine false [] E)
  starts_decoding r engine E is opened no_text idle told = grind (arith, common_steps, text_next)

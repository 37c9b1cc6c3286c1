-- What is decoded of events that are characters of a group, then others.
use Rattle.no_std_io2.proofs.Words.{common_steps, ◌≡◌, ℕ, suc, ◌+◌, ◌*◌, ◌/◌, ◌%◌, ◌<◌, ◌≤◌, Bool, true, false, List, [], ◌∷◌, ◌++◌, length}
use Rattle.no_std_io2.proofs.Words.{Ok, nat_lt, refl, sym, ap, ◌∙◌, arith, inl, inr, append_assoc, append-nil, length-append, cases_lt}
use Rattle.no_std_io2.proofs.Words.{nat_tests, nil_from_length, Event, byte, fails, events_of, event_bytes, HasNoFault, IsFault}
use Rattle.no_std_io2.{proofs.TakesLemmas.{events_of-append, bytes-events_of, HasNoFault-events_of}, specs.declared.io.Error.{Error}}
use Rattle.base64.specs.{declared.engine.general_purpose.GeneralPurpose.{GeneralPurpose}, Rfc4648.{encode, encode_symbols}}
use Rattle.base64.specs.GeneralPurpose.{IsBytes, IsConsistent, decode_of, encode_of}
use Rattle.base64.proofs.EngineFacts.{decode_of-encode_of, encode_of-append, encode_of-nil, front_bytes}
use Rattle.base64_stream.specs.Decoding.{closed_after, decoded_events, decoded_group, group_events}
use Rattle.base64_stream.proofs.GroupsLemmas.{decodes_some, first_decoded}

-- a number is below another, as a test
pub below_is_true : (a b : ℕ) → a < b → nat_lt a b ≡ true
below_is_true a b less = grind (arith, nat_tests)

pub above_is_false : (a b : ℕ) → b ≤ a → nat_lt a b ≡ false
above_is_false a b more = grind (arith, nat_tests)

-- both numbers are larger by three
same_test : (a b c d : ℕ) → c ≡ 3 + a → d ≡ 3 + b → nat_lt a b ≡ nat_lt c d
same_test a b c d first second = grind (arith, common_steps, cases_lt, below_is_true, above_is_false)

-- the bytes of the first group, and the others
in_one : (first rest x : List ℕ) (E : List Event) → x ≡ first ++ rest → events_of first ++ (events_of rest ++ E) ≡ events_of x ++ E
in_one first rest x E split = grind (arith, common_steps, append_assoc, events_of-append)

-- some bytes give themselves
pub group_given : (x : List ℕ) → 0 < length x → group_events x ≡ events_of x
group_given [] some = absurd (omega (arith, some))
group_given (b ∷ x) some = refl

-- and close the text if they are fewer than three
pub closed_by : (closed : Bool) (x : List ℕ) → 0 < length x → closed_after closed x ≡ nat_lt (length x) 3
closed_by closed [] some = absurd (omega (arith, some))
closed_by closed (b ∷ x) some = refl

module _ (engine : GeneralPurpose) where
  -- the last characters are decoded as a group
  pub last_group_given : (closed : Bool) (text : List ℕ) → 0 < length text
      → decoded_events engine closed text [] ≡ group_events (decoded_group engine closed text)
  last_group_given closed [] some = absurd (omega (arith, some))
  last_group_given closed (b ∷ text) some = refl

  -- characters that do not make the group whole are collected
  pub collects : (closed : Bool) (text : List ℕ) (P E : List Event) → HasNoFault P → length text + length (event_bytes P) < 4
      → decoded_events engine closed text (P ++ E) ≡ decoded_events engine closed (text ++ event_bytes P) E
  collects closed text [] E no_fault short = ap (λ l. decoded_events engine closed l E) (sym (append-nil text))
  collects closed text (byte b ∷ P) E no_fault short =
      let few : nat_lt (length text) 3 ≡ true = below_is_true (length text) 3 (omega (arith, short)) in
      let more = collects closed (text ++ b ∷ []) P E no_fault (omega (arith, short, length-append text (b ∷ []))) in
      rw few (more ∙ ap (λ l. decoded_events engine closed l E) (append_assoc text (b ∷ []) (event_bytes P)))
  collects closed text (fails e ∷ P) E (again, no_fault) short = rw again (collects closed text P E no_fault short)

  -- the fourth character makes it whole
  pub completes : (closed : Bool) (text : List ℕ) (P E : List Event) → HasNoFault P → length text < 4
      → length text + length (event_bytes P) ≡ 4
      → decoded_events engine closed text (P ++ E) ≡ group_events (decoded_group engine closed (text ++ event_bytes P))
      ++ decoded_events engine (closed_after closed (decoded_group engine closed (text ++ event_bytes P))) [] E
  completes closed text [] E no_fault short whole = absurd (omega (arith, short, whole))
  completes closed text (byte b ∷ P) E no_fault short whole = elim (cases_lt (length text) 3) [
    | inl less ↦
        let more = completes closed (text ++ b ∷ []) P E no_fault (omega (arith, less, length-append text (b ∷ [])))
        (omega (arith, whole, length-append text (b ∷ []))) in
        rw (below_is_true (length text) 3 less) (rw (append_assoc text (b ∷ []) (event_bytes P)) at more)
    | inr full ↦
        let none : event_bytes P ≡ [] = nil_from_length (event_bytes P) (omega (arith, whole, full)) in
        let rest = λ (c : Bool). collects c [] P E no_fault (omega (arith, ap length none)) ∙ ap (λ l. decoded_events engine c l E) none in
        rw (above_is_false (length text) 3 full, none)
        (ap (λ l. group_events (decoded_group engine closed (text ++ b ∷ [])) ++ l) (rest _))
  ]
  completes closed text (fails e ∷ P) E (again, no_fault) short whole = rw again (completes closed text P E no_fault short whole)

  -- a fault stays at its place
  pub passes_fault : (closed : Bool) (text : List ℕ) (Q E : List Event) {e : Error} → HasNoFault Q → IsFault e
      → length text + length (event_bytes Q) < 4
      → decoded_events engine closed text ((Q ++ fails e ∷ []) ++ E) ≡ fails e ∷ decoded_events engine closed (text ++ event_bytes Q) E
  passes_fault closed text Q E {e} no_fault fault short = grind (arith, common_steps, append_assoc, collects)

  -- one group alone
  pub group_alone : (text x : List ℕ) → 0 < length text → length text ≤ 4 → decode_of engine text ≡ Ok x → 0 < length x
      → decoded_events engine false [] (events_of text) ≡ events_of x
  group_alone text x some most decodes given =
      let is : group_events (decoded_group engine false text) ≡ events_of x = rw decodes (group_given x given) in
      let chars = bytes-events_of text in
      let free = HasNoFault-events_of text in
      ap (decoded_events engine false []) (sym (append-nil (events_of text))) ∙ elim (cases_lt (length text) 4) [
        | inl short ↦ collects false [] (events_of text) [] free (omega (arith, short, ap length chars))
            ∙ ap (λ l. decoded_events engine false l []) chars ∙ last_group_given false text some ∙ is
        | inr whole ↦ completes false [] (events_of text) [] free (omega arith) (omega (arith, most, whole, ap length chars))
            ∙ rw (chars) (append-nil (group_events (decoded_group engine false text)) ∙ is)
      ]

  -- one group of three bytes, and what comes behind it
  pub group_first : (text x : List ℕ) (E : List Event) → length text ≡ 4 → decode_of engine text ≡ Ok x → length x ≡ 3
      → decoded_events engine false [] (events_of text ++ E) ≡ events_of x ++ decoded_events engine false [] E
  group_first text x E whole decodes three =
      let chars = bytes-events_of text in
      let is : group_events x ≡ events_of x = group_given x (omega (arith, three)) in
      let open_still : closed_after false x ≡ false = closed_by false x (omega (arith, three)) ∙ ap (λ n. nat_lt n 3) three in
      completes false [] (events_of text) E (HasNoFault-events_of text) (omega arith) (omega (arith, whole, ap length chars))
      ∙ rw (chars, decodes, is, open_still) refl

  -- interruptions go
  pub without_interruptions : (closed : Bool) (text : List ℕ) (P E : List Event) → HasNoFault P
      → decoded_events engine closed text (P ++ E) ≡ decoded_events engine closed text (events_of (event_bytes P) ++ E)
  without_interruptions closed text [] E no_fault = refl
  without_interruptions closed text (byte b ∷ P) E no_fault = elim (cases_lt (length text) 3) [
    | inl less ↦ rw (below_is_true (length text) 3 less) (without_interruptions closed (text ++ b ∷ []) P E no_fault)
    | inr full ↦
        let x = decoded_group engine closed (text ++ b ∷ []) in
        rw (above_is_false (length text) 3 full)
        (ap (λ l. group_events x ++ l) (without_interruptions (closed_after closed x) [] P E no_fault))
  ]
  without_interruptions closed text (fails e ∷ P) E (again, no_fault) = rw again (without_interruptions closed text P E no_fault)

  -- less than a group in front
  pub text_first : (closed : Bool) (text : List ℕ) (E : List Event) → length text < 4
      → decoded_events engine closed [] (events_of text ++ E) ≡ decoded_events engine closed text E
  text_first closed text E short =
      let chars = bytes-events_of text in
      collects closed [] (events_of text) E (HasNoFault-events_of text) (omega (arith, short, ap length chars))
      ∙ ap (λ l. decoded_events engine closed l E) chars

  -- a whole group in front
  pub group_in_front : (closed : Bool) (text : List ℕ) (E : List Event) → length text ≡ 4
      → decoded_events engine closed [] (events_of text ++ E) ≡ group_events (decoded_group engine closed text)
      ++ decoded_events engine (closed_after closed (decoded_group engine closed text)) [] E
  group_in_front closed text E whole =
      let chars = bytes-events_of text in
      completes closed [] (events_of text) E (HasNoFault-events_of text) (omega arith) (omega (arith, whole, ap length chars))
      ∙ ap (λ g. group_events (decoded_group engine closed g) ++ decoded_events engine
      (closed_after closed (decoded_group engine closed g)) [] E)
      chars

  -- Several groups in front that are decoded at once.
  pub groups_in_front : (s x : List ℕ) (E : List Event) → 0 < length s → length s % 4 ≡ 0 → decode_of engine s ≡ Ok x
      → decoded_events engine false [] (events_of s ++ E)
      ≡ events_of x ++ decoded_events engine (nat_lt (length x) (length s / 4 * 3)) [] E
  groups_in_front [] x E some whole is = absurd (omega (arith, some))
  groups_in_front (a ∷ []) x E some whole is = absurd (omega (arith, whole))
  groups_in_front (a ∷ b ∷ []) x E some whole is = absurd (omega (arith, whole))
  groups_in_front (a ∷ b ∷ c ∷ []) x E some whole is = absurd (omega (arith, whole))
  groups_in_front (a ∷ b ∷ c ∷ d ∷ []) x E some whole is =
      let given = decodes_some engine (a ∷ b ∷ c ∷ d ∷ []) x some is in
      group_in_front false (a ∷ b ∷ c ∷ d ∷ []) E refl ∙ rw (is, group_given x given, closed_by false x given) refl
  groups_in_front (a ∷ b ∷ c ∷ d ∷ f ∷ r) x E some whole is =
      let (first, rest, three, split, one, others) =
      first_decoded engine a b c d (f ∷ r) x (omega arith) (omega (arith, whole)) is in
      let here = group_first (a ∷ b ∷ c ∷ d ∷ []) first (events_of (f ∷ r) ++ E) refl one three in
      let there = groups_in_front (f ∷ r) rest E (omega arith) (omega (arith, whole)) others in
      let same : nat_lt (length rest) (length (f ∷ r) / 4 * 3) ≡ nat_lt (length x) (length (a ∷ b ∷ c ∷ d ∷ f ∷ r) / 4 * 3) =
      same_test _ _ _ _ (omega (arith, three, ap length split, length-append first rest)) (omega arith) in
      here ∙ ap (λ l. events_of first ++ l) (there ∙ ap (λ t. events_of rest ++ decoded_events engine t [] E) same)
      ∙ in_one first rest x (decoded_events engine (nat_lt (length x) (length (a ∷ b ∷ c ∷ d ∷ f ∷ r) / 4 * 3)) [] E) split

-- how long the encoding of a last group is
one_long : (t : List ℕ) (pad : ℕ) (padding : Bool) (a : ℕ) → (0 < length (encode t pad padding (a ∷ [])))
    × (length (encode t pad padding (a ∷ [])) ≤ 4)
unfolding encode_symbols
one_long t pad true a = (omega arith, omega arith)
one_long t pad false a = (omega arith, omega arith)

two_long : (t : List ℕ) (pad : ℕ) (padding : Bool) (a b : ℕ) → (0 < length (encode t pad padding (a ∷ b ∷ [])))
    × (length (encode t pad padding (a ∷ b ∷ [])) ≤ 4)
unfolding encode_symbols
two_long t pad true a b = (omega arith, omega arith)
two_long t pad false a b = (omega arith, omega arith)

-- and of a whole one
three_long : (t : List ℕ) (pad : ℕ) (padding : Bool) (a b c : ℕ) → length (encode t pad padding (a ∷ b ∷ c ∷ [])) ≡ 4
unfolding encode_symbols
three_long t pad true a b c = refl
three_long t pad false a b c = refl

module _ (engine : GeneralPurpose) (consistent : IsConsistent engine) where
  -- The encoding of bytes is decoded to them.
  pub decodes_encoding : (x : List ℕ) → IsBytes x → decoded_events engine false [] (events_of (encode_of engine x)) ≡ events_of x
  decodes_encoding [] all = ap (λ l. decoded_events engine false [] (events_of l)) (encode_of-nil engine)
  decodes_encoding (a ∷ []) all =
      let long = one_long engine.encode_table engine.padding.value engine.config.encode_padding a in
      group_alone engine (encode_of engine (a ∷ [])) (a ∷ []) long.0 long.1 (decode_of-encode_of engine (a ∷ []) consistent all)
      (omega arith)
  decodes_encoding (a ∷ b ∷ []) all =
      let long = two_long engine.encode_table engine.padding.value engine.config.encode_padding a b in
      group_alone engine (encode_of engine (a ∷ b ∷ [])) (a ∷ b ∷ []) long.0 long.1 (decode_of-encode_of engine (a ∷ b ∷ []) consistent all)
      (omega arith)
  decodes_encoding (a ∷ b ∷ c ∷ x) all =
      let head = encode_of engine (a ∷ b ∷ c ∷ []) in
      let long = three_long engine.encode_table engine.padding.value engine.config.encode_padding a b c in
      let back = decode_of-encode_of engine (a ∷ b ∷ c ∷ []) consistent (front_bytes (a ∷ b ∷ c ∷ []) x all) in
      let split : events_of (encode_of engine (a ∷ b ∷ c ∷ x)) ≡ events_of head ++ events_of (encode_of engine x) =
      ap events_of (encode_of-append engine (a ∷ b ∷ c ∷ []) x refl) ∙ events_of-append head (encode_of engine x) in
      ap (decoded_events engine false []) split
      ∙ group_first engine head (a ∷ b ∷ c ∷ []) (events_of (encode_of engine x)) long back refl
      ∙ ap (λ l. byte a ∷ byte b ∷ byte c ∷ l) (decodes_encoding x (λ i. all (suc (suc (suc i)))))

-- Under a strict engine only the encoding of bytes is decoded to them.
use Rattle.no_std_io2.proofs.Words.{common_steps, ◌≡◌, ℕ, suc, ◌+◌, ◌%◌, ◌<◌, ◌≤◌, true, false, List, [], ◌∷◌, ◌++◌, length, Result, Ok}
use Rattle.no_std_io2.proofs.Words.{Err, refl, sym, ap, ap₂, subst, ◌∙◌, arith, inl, inr, nat_lt, true≢false, append-nil, length-append}
use Rattle.no_std_io2.proofs.Words.{cases_lt, nil_from_length, events_of, event_bytes, HasNoFault, ⊤, ◌⊎◌, Bool, Event, byte, fails, Some}
use Rattle.no_std_io2.proofs.Words.{Vec, append_assoc, Reader, tells, to_come, IsOutOfMemory}
use Rattle.no_std_io2.proofs.TakesLemmas.{bytes-events_of, bytes-behind, HasNoFault-front, HasNoFault-behind, left_of}
use Rattle.base64.specs.declared.{decode.DecodeError.{DecodeError}, engine.general_purpose.GeneralPurpose.{GeneralPurpose}}
use Rattle.base64.specs.{GeneralPurpose.{IsBytes, IsStrict, decode_of, encode_of}, Rfc4648.{encode_symbols}}
use Rattle.base64.proofs.{EngineFacts.{decode_of_strict, encode_of-append, encode_of-nil, front_bytes}, RoundTrip.{length-encode_symbols}}
use Rattle.no_std_io2.specs.{declared.io.{Error.{Error}, ErrorKind.TheVariants.{InvalidData}}, inner.Kinds.{error_of}, Read.{ReadToEndLaw}}
use Rattle.base64_stream.specs.Decoding.{closed_after, decoded_events, decoded_group, group_events, or_no_bytes}
use Rattle.base64_stream.proofs.DecodingLemmas.{below_is_true, above_is_false, closed_by}

-- a group without an error has bytes
group_clean : (r : Result (List ℕ) DecodeError) → HasNoFault (group_events (or_no_bytes r))
    → (r ≡ Ok (or_no_bytes r)) × (group_events (or_no_bytes r) ≡ events_of (or_no_bytes r)) × (0 < length (or_no_bytes r))
group_clean (Ok []) free = absurd (true≢false (sym free.0))
group_clean (Ok (b ∷ x)) free = (refl, refl, omega arith)
group_clean (Err e) free = absurd (true≢false (sym free.0))

-- a front is no longer than the whole
front_shorter : (a b : List ℕ) → length a ≤ length (a ++ b)
front_shorter a b = omega (arith, length-append a b)

module _ (engine : GeneralPurpose) where
  -- behind padding every text gives an error
  closed_refuses : (text s : List ℕ) → HasNoFault (decoded_events engine true text (events_of s)) → length text + length s ≡ 0
  closed_refuses [] [] free = refl
  closed_refuses (b ∷ text) [] free = absurd (true≢false (sym free.0))
  closed_refuses text (b ∷ s) free = elim (cases_lt (length text) 3) [
    | inl less ↦
        let more = closed_refuses (text ++ b ∷ []) s (rw (below_is_true (length text) 3 less) at free) in
        absurd (omega (arith, more, length-append text (b ∷ [])))
    | inr full ↦ let now = rw (above_is_false (length text) 3 full) at free in absurd (true≢false (sym now.0))
  ]

  -- how many bytes four characters have
  three_most : (x : List ℕ) → length (encode_of engine x) ≡ 4 → length x ≤ 3
  three_most x long =
      let symbols = length-encode_symbols engine.encode_table x in
      let less : length (encode_symbols engine.encode_table x) ≤ length (encode_of engine x) = front_shorter _ _ in
      omega (arith, long, symbols, less)

module _ (engine : GeneralPurpose) (strict : IsStrict engine) where
  -- of a text that is one group
  group_exact : (s : List ℕ) → IsBytes s → HasNoFault (group_events (decoded_group engine false s))
      → s ≡ encode_of engine (event_bytes (group_events (decoded_group engine false s)))
  group_exact s all free = grind (arith, common_steps, group_clean, decode_of_strict, bytes-events_of)

  -- Text that is decoded without an error is the encoding of these bytes.
  pub only_encoding : (s : List ℕ) → IsBytes s → HasNoFault (decoded_events engine false [] (events_of s))
      → s ≡ encode_of engine (event_bytes (decoded_events engine false [] (events_of s)))
  only_encoding [] all free = sym (encode_of-nil engine)
  only_encoding (a ∷ []) all free = group_exact (a ∷ []) all free
  only_encoding (a ∷ b ∷ []) all free = group_exact (a ∷ b ∷ []) all free
  only_encoding (a ∷ b ∷ c ∷ []) all free = group_exact (a ∷ b ∷ c ∷ []) all free
  only_encoding (a ∷ b ∷ c ∷ d ∷ s) all free =
      let head = a ∷ b ∷ c ∷ d ∷ [] in
      let x = decoded_group engine false head in
      let closed = closed_after false x in
      let E = decoded_events engine closed [] (events_of s) in
      let here : HasNoFault (group_events x) = HasNoFault-front (group_events x) E free in
      let there : HasNoFault E = HasNoFault-behind (group_events x) E free in
      let (ok, given, some) = group_clean (decode_of engine head) here in
      let first : head ≡ encode_of engine x = decode_of_strict engine head x strict (front_bytes head s all) ok in
      let both : event_bytes (group_events x ++ E) ≡ x ++ event_bytes E = ap (λ l. event_bytes (l ++ E)) given ∙ bytes-behind x E in
      let most : length x ≤ 3 = three_most engine x (ap length (sym first)) in
      let test : closed ≡ nat_lt (length x) 3 = closed_by false x some in
      elim (cases_lt (length x) 3) [
        | inl few ↦
            let padded : closed ≡ true = test ∙ below_is_true (length x) 3 few in
            let later = subst (λ t. HasNoFault (decoded_events engine t [] (events_of s))) padded there in
            let none : s ≡ [] = nil_from_length s (omega (arith, closed_refuses engine [] s later)) in
            let nothing : E ≡ [] = ap₂ (λ t l. decoded_events engine t [] (events_of l)) padded none in
            ap (λ l. head ++ l) none ∙ append-nil head ∙ first ∙ ap (encode_of engine)
            (sym (both ∙ ap (λ l. x ++ event_bytes l) nothing ∙ append-nil x))
        | inr full ↦
            let three : length x ≡ 3 = omega (arith, most, full) in
            let whole : length x % 3 ≡ 0 = ap (λ n. n % 3) three in
            let still : closed ≡ false = test ∙ above_is_false (length x) 3 full in
            let same : decoded_events engine false [] (events_of s) ≡ E = ap (λ t. decoded_events engine t [] (events_of s)) (sym still) in
            let rest = only_encoding s (λ i. all (suc (suc (suc (suc i))))) (subst HasNoFault (sym same) there) in
            ap (λ l. head ++ l) rest ∙ ap₂ (λ l m. l ++ encode_of engine (event_bytes m)) first same
            ∙ sym (encode_of-append engine x (event_bytes E) whole) ∙ ap (encode_of engine) (sym both)
      ]

-- every error among these events is that of a refused group
abbrev Refusals : List Event → Type 0
Refusals [] = ⊤
Refusals (byte b ∷ E) = Refusals E
Refusals (fails e ∷ E) = (e ≡ error_of InvalidData) × Refusals E

refusals_joined : (P Q : List Event) → Refusals P → Refusals Q → Refusals (P ++ Q)
refusals_joined [] Q p q = q
refusals_joined (byte b ∷ P) Q p q = refusals_joined P Q p q
refusals_joined (fails e ∷ P) Q p q = (p.0, refusals_joined P Q p.1 q)

refusal_at : (P Q : List Event) {e : Error} → Refusals (P ++ fails e ∷ Q) → e ≡ error_of InvalidData
refusal_at [] Q all = all.0
refusal_at (byte b ∷ P) Q all = refusal_at P Q all
refusal_at (fails e ∷ P) Q all = refusal_at P Q all.1

bytes_refuse_none : (x : List ℕ) → Refusals (events_of x)
bytes_refuse_none [] = tt
bytes_refuse_none (b ∷ x) = bytes_refuse_none x

group_refuses : (x : List ℕ) → Refusals (group_events x)
group_refuses [] = (refl, tt)
group_refuses (b ∷ x) = bytes_refuse_none x

-- the errors of a text are refusals
pub text_refuses : (engine : GeneralPurpose) (closed : Bool) (text s : List ℕ) → Refusals (decoded_events engine closed text (events_of s))
text_refuses engine closed [] [] = tt
text_refuses engine closed (b ∷ text) [] = group_refuses (decoded_group engine closed (b ∷ text))
text_refuses engine closed text (b ∷ s) = elim (cases_lt (length text) 3) [
  | inl less ↦ rw (below_is_true (length text) 3 less) (text_refuses engine closed (text ++ b ∷ []) s)
  | inr full ↦
      let x = decoded_group engine closed (text ++ b ∷ []) in
      rw (above_is_false (length text) 3 full)
      (refusals_joined (group_events x) (decoded_events engine (closed_after closed x) [] (events_of s)) (group_refuses x)
      (text_refuses engine (closed_after closed x) [] s))
]

-- a `read_to_end` of them fails by one, or since an allocation failed
pub drained_error : {S A : Type 0} {R : Reader S} {old new : S} {buf buf' : Vec ℕ A} {e : Error} (E : List Event)
    → ReadToEndLaw R old buf (Err e) buf' new → to_come (tells R old) ≡ Some E → Refusals E → IsOutOfMemory e ⊎ (e ≡ error_of InvalidData)
drained_error {e = e} E law told all = elim law.ends [
  | inl fault ↦
      let (after, still, split) = left_of law.takes told in
      let (Q, is, free, no_interruption) = fault in
      let whole : E ≡ Q ++ fails e ∷ after = split ∙ ap (λ l. l ++ after) is ∙ append_assoc Q (fails e ∷ []) after in
      inr (refusal_at Q after (subst Refusals whole all))
  | inr refused ↦ inl refused.1
]

-- all that was told was read, without a fault
pub drained_whole : {X A : Type 0} {R : Reader X} {old new : X} {buf buf' : Vec ℕ A} {n : ℕ} (E : List Event)
    → ReadToEndLaw R old buf (Ok n) buf' new → to_come (tells R old) ≡ Some E → HasNoFault E × (buf'.items ≡ buf.items ++ event_bytes E)
drained_whole {buf = buf} E law told = grind (arith, common_steps, left_of, append-nil)

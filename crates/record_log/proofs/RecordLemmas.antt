-- A list of records is read back from its bytes, also from a front of them.
use Rattle.no_std_io2.proofs.Words.{◌≡◌, ℕ, ◌<◌, ◌≤◌, ◌^◌, List, [], ◌∷◌, ◌++◌, length, take, drop, refl, sym, ap, subst, ◌∙◌, arith}
use Rattle.no_std_io2.proofs.Words.{append_assoc, append-nil, length-append, length-drop, take-append_seam, drop-append_seam, common_steps}
use Rattle.no_std_io2.proofs.Words.{take-append-le, take-append-drop, cases_lt, inl, inr, nil_from_length}
use Rattle.std.proofs.{Math.Seq.{drop-nil}, lemmas.{List.{drop-drop, append_cancel_left}, Nat.{from_le_bytes-to_le_bytes_4}}}
use Rattle.std.specs.Int.{w32, from_le_bytes}
use Rattle.record_log.specs.Records.{record_of, log_of, AreShort, HasNoRecord, HasRecords, NoneByChance}

-- the first bytes of a record say the length of its payload
pub told_record : (p rest : List ℕ) → length p < 2 ^ 32 → from_le_bytes w32 (take 4 (record_of p ++ rest)) ≡ length p
told_record p rest small = from_le_bytes-to_le_bytes_4 (length p) small

-- the payload is behind the header
pub behind_header : (p rest : List ℕ) → drop 8 (record_of p ++ rest) ≡ p ++ rest
behind_header p rest = refl

-- two records that begin the same bytes are one
pub same_record : (p q rest more : List ℕ) → length p < 2 ^ 32 → length q < 2 ^ 32 → record_of p ++ rest ≡ record_of q ++ more
    → (p ≡ q) × (rest ≡ more)
same_record p q rest more small small' e =
    let size : length p ≡ length q =
    sym (told_record p rest small) ∙ ap (λ l. from_le_bytes w32 (take 4 l)) e ∙ told_record q more small' in
    let tails : p ++ rest ≡ q ++ more = sym (behind_header p rest) ∙ ap (drop 8) e ∙ behind_header q more in (
      sym (take-append_seam p rest) ∙ ap (take (length p)) tails ∙ ap (λ n. take n (q ++ more)) size ∙ take-append_seam q more,
      sym (drop-append_seam p rest) ∙ ap (drop (length p)) tails ∙ ap (λ n. drop n (q ++ more)) size ∙ drop-append_seam q more,
    )

-- no front of a record that is cut short has a record
pub cut_short : (p front lost : List ℕ) → length p < 2 ^ 32 → record_of p ≡ front ++ lost → 0 < length lost → HasNoRecord front
cut_short p front lost small is some = λ q rest short same.
    grind (arith, common_steps, same_record p q [] (rest ++ lost), append-nil, append_assoc, length-append)

-- a list whose front is c, and that is no longer than a, is a front of a
pub front_of : (a b c d : List ℕ) → a ++ b ≡ c ++ d → length c ≤ length a → a ≡ c ++ drop (length c) a
front_of a b c d same le = grind (arith, common_steps, take-append-le (length c) a b, take-append_seam c d, take-append-drop (length c) a)

-- records, and then others
pub log-append : (ps qs : List (List ℕ)) → log_of (ps ++ qs) ≡ log_of ps ++ log_of qs
log-append [] qs = refl
log-append (p ∷ ps) qs = ap (λ l. record_of p ++ l) (log-append ps qs) ∙ sym (append_assoc (record_of p) (log_of ps) (log_of qs))

pub AreShort-append : (ps qs : List (List ℕ)) → AreShort ps → AreShort qs → AreShort (ps ++ qs)
AreShort-append [] qs a b = b
AreShort-append (p ∷ ps) qs a b = (a.0, AreShort-append ps qs a.1 b)

-- the first of some short payloads are short
pub AreShort-front : (ps qs : List (List ℕ)) → AreShort (ps ++ qs) → AreShort ps
AreShort-front [] qs a = tt
AreShort-front (p ∷ ps) qs a = (a.0, AreShort-front ps qs a.1)

-- the records at the front of some bytes are told by the bytes alone
pub same_records : (bytes : List ℕ) (ps qs : List (List ℕ)) (rest more : List ℕ) → HasRecords bytes ps rest → HasRecords bytes qs more
    → (ps ≡ qs) × (rest ≡ more)
same_records bytes [] [] rest more a b = (refl, sym a.bytes ∙ b.bytes)
same_records bytes [] (q ∷ qs) rest more a b = grind (arith, common_steps, append_assoc, a.none q (log_of qs ++ more) b.short.0)
same_records bytes (p ∷ ps) [] rest more a b = grind (arith, common_steps, append_assoc, b.none p (log_of ps ++ rest) a.short.0)
same_records bytes (p ∷ ps) (q ∷ qs) rest more a b =
    let heads = same_record p q (log_of ps ++ rest) (log_of qs ++ more) a.short.0 b.short.0
    (sym (append_assoc (record_of p) (log_of ps) rest) ∙ sym a.bytes ∙ b.bytes ∙ append_assoc (record_of q) (log_of qs) more) in
    let tails = same_records (log_of ps ++ rest) ps qs rest more (record { short = a.short.1; bytes = refl; none = a.none })
    (record { short = b.short.1; bytes = heads.1; none = b.none }) in
    (ap (λ l. l ∷ ps) heads.0 ∙ ap (λ l. q ∷ l) tails.0, tails.1)

-- Some first bytes of records were written over old ones. What is there are some first records, and behind them none.
pub cut_log : (ps : List (List ℕ)) (front lost tail : List ℕ) → AreShort ps → log_of ps ≡ front ++ lost → NoneByChance tail ps
    → (kept : List (List ℕ)) × (gone : List (List ℕ)) × (rest : List ℕ) × (ps ≡ kept ++ gone)
    × HasRecords (front ++ drop (length front) tail) kept rest
cut_log [] front lost tail short is none =
    let nothing : front ≡ [] = nil_from_length front (omega (arith, ap length is, length-append front lost)) in
    ([], [], tail, refl, record { short = tt; bytes = ap (λ l. l ++ drop (length l) tail) nothing; none = none })
cut_log (p ∷ ps) front lost tail short is none = elim (cases_lt (length front) (length (record_of p))) [
  | inl part ↦
      let split = front_of (record_of p) (log_of ps) front lost is (omega (arith, part)) in
      let some : 0 < length (drop (length front) (record_of p)) = omega (arith, part, length-drop (length front) (record_of p)) in (
        [],
        p ∷ ps,
        front ++ drop (length front) tail,
        refl,
        record { short = tt; bytes = refl; none = none.0 front (drop (length front) (record_of p)) split some },
      )
  | inr whole ↦
      let more = drop (length (record_of p)) front in
      let split : front ≡ record_of p ++ more = front_of front lost (record_of p) (log_of ps) (sym is) whole in
      let next : log_of ps ≡ more ++ lost =
      append_cancel_left (record_of p) (log_of ps) (more ++ lost)
      (is ∙ ap (λ l. l ++ lost) split ∙ append_assoc (record_of p) more lost) in
      let rest = cut_log ps more lost (drop (length (record_of p)) tail) short.1 next none.1 in
      (p ∷ rest.0, rest.1, rest.2, ap (λ l. p ∷ l) rest.3, grown p front more tail rest.0 rest.2 short.0 split rest.4)
]
  where
    grown : (p front more tail : List ℕ) (kept : List (List ℕ)) (rest : List ℕ) → length p < 2 ^ 32 → front ≡ record_of p ++ more
        → HasRecords (more ++ drop (length more) (drop (length (record_of p)) tail)) kept rest
        → HasRecords (front ++ drop (length front) tail) (p ∷ kept) rest
    grown p front more tail kept rest small split has = record {
      short = (small, has.short);
      bytes =
          grind (
            arith,
            common_steps,
            append_assoc,
            length-append (record_of p) more,
            drop-drop (length more) (length (record_of p)) tail,
            has.bytes,
          );
      none = has.none;
    }

-- A new end has no old bytes, so no chance.
pub none_at_end : (ps : List (List ℕ)) → AreShort ps → NoneByChance [] ps
none_at_end [] short = λ p rest small is. omega (arith, ap length is, length-append (record_of p) rest)
none_at_end (p ∷ ps) short = (
  λ front lost is some. subst HasNoRecord (sym (ap (λ l. front ++ l) (drop-nil (length front)) ∙ append-nil front))
      (cut_short p front lost short.0 is some),
  subst (λ t. NoneByChance t ps) (sym (drop-nil (length (record_of p)))) (none_at_end ps short.1),
)

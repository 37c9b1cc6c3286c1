-- What an engine decodes of several groups at once is what it decodes of each of them.
use Rattle.no_std_io2.proofs.Words.{◌≡◌, ◌⊎◌, ℕ, zero, suc, ◌+◌, ◌*◌, ◌%◌, ◌==◌, ◌<◌, Bool, false, List, [], ◌∷◌, ◌++◌, length, drop}
use Rattle.no_std_io2.proofs.Words.{Option, Some, None, Result, Ok, Err, refl, sym, ap, ap₂, ◌∙◌, arith, inl, inr, append_assoc}
use Rattle.no_std_io2.proofs.Words.{common_steps, length-append, length-take}
use Rattle.std.{specs.Prelude.{slice_index}, proofs.lemmas.Bool.{cases_Bool, eqb-true, ltb-false, ne_eqb}}
use Rattle.base64.specs.declared.{decode.DecodeError.{DecodeError}, engine.DecodePaddingMode.{DecodePaddingMode}}
use Rattle.base64.specs.{declared.engine.general_purpose.GeneralPurpose.{GeneralPurpose}, GeneralPurpose.{decode_of}}
use Rattle.base64.specs.Decode.{or_else, symbol_error, group_error, group_bytes, groups_error, groups_bytes, no_leftover}
use Rattle.base64.specs.Decode.{groups_before_last, lone_error, push_leftover, scan_steps, scan_last, leftover_error, leftover_bytes}
use Rattle.base64.specs.Decode.{suffix_error, suffix_bytes, decode_error, decoded_bytes, decode_outcome}
use Rattle.base64.proofs.{Tables.{are_tables_padding}, Decoding.{scan-cons_ok, scan-cons_err, suffix_error_of, suffix_bytes_of}}

-- no error of two
no_error : (x y : Option DecodeError) → or_else x y ≡ None → (x ≡ None) × (y ≡ None)
no_error None y none = (refl, none)
no_error (Some e) y none = cc none

-- the bytes of a text without an error
outcome_ok : (error : Option DecodeError) (bytes x : List ℕ) → decode_outcome error bytes ≡ Ok x → (error ≡ None) × (bytes ≡ x)
outcome_ok None bytes x is = (refl, cc is)
outcome_ok (Some e) bytes x is = cc is

-- the type of a value
abbrev type_of : {A : Type 0} → A → Type 0
type_of {A} a = A

-- the state of a scan of the last group, whose type the crate does not export
abbrev Leftover : Type 0
Leftover = type_of no_leftover

-- the two results of a scan
pub scanned : (r : Result Leftover DecodeError) → ((st : Leftover) × (r ≡ Ok st)) ⊎ ((e : DecodeError) × (r ≡ Err e))
scanned (Ok st) = inl (st, refl)
scanned (Err e) = inr (e, refl)

module _ (dec : List ℕ) where
  -- the character at a place is a symbol
  abbrev IsSymbol : List ℕ → ℕ → Type 0
  IsSymbol s i = (slice_index dec (slice_index s i) == 255) ≡ false

  is_symbol : (s : List ℕ) (i : ℕ) → symbol_error dec s i ≡ None → IsSymbol s i
  is_symbol s i none = grind (arith, common_steps, cases_Bool)

  -- four of them
  abbrev AreSymbols : List ℕ → ℕ → Type 0
  AreSymbols s i = IsSymbol s i × IsSymbol s (i + 1) × IsSymbol s (i + 2) × IsSymbol s (i + 3)

  are_symbols : (s : List ℕ) (i : ℕ) → group_error dec s i ≡ None → AreSymbols s i
  are_symbols s i none = grind (arith, common_steps, no_error, is_symbol)

  no_group_error : (s : List ℕ) (i : ℕ) → AreSymbols s i → group_error dec s i ≡ None
  no_group_error s i (a, b, c, d) = rw (a, b, c, d) refl

  module _ (a b c d : ℕ) (r : List ℕ) where
    -- a character behind the first group
    behind : (i j : ℕ) → j ≡ 4 + i → slice_index (a ∷ b ∷ c ∷ d ∷ r) j ≡ slice_index r i
    behind i j is = let at : j ≡ suc (suc (suc (suc i))) = omega (arith, is) in rw at refl

    -- a group behind the first one
    group_behind : (q : ℕ) → group_error dec (a ∷ b ∷ c ∷ d ∷ r) (4 * suc q) ≡ None
        → (group_error dec r (4 * q) ≡ None) × (group_bytes dec (a ∷ b ∷ c ∷ d ∷ r) (4 * suc q) ≡ group_bytes dec r (4 * q))
    group_behind q none =
        let i = 4 * q in
        let j = 4 * suc q in
        let at0 = behind i j (omega arith) in
        let at1 = behind (i + 1) (j + 1) (omega arith) in
        let at2 = behind (i + 2) (j + 2) (omega arith) in
        let at3 = behind (i + 3) (j + 3) (omega arith) in
        let (s0, s1, s2, s3) = are_symbols (a ∷ b ∷ c ∷ d ∷ r) j none in
        (no_group_error r i (rw at0 at s0, rw at1 at s1, rw at2 at s2, rw at3 at s3), rw (at0, at1, at2, at3) refl)

    -- all groups before the last
    groups_behind : (q : ℕ) → groups_error dec (a ∷ b ∷ c ∷ d ∷ r) (suc q) ≡ None
        → (group_error dec (a ∷ b ∷ c ∷ d ∷ r) 0 ≡ None) × (groups_error dec r q ≡ None)
        × (groups_bytes dec (a ∷ b ∷ c ∷ d ∷ r) (suc q) ≡ group_bytes dec (a ∷ b ∷ c ∷ d ∷ r) 0 ++ groups_bytes dec r q)
    unfolding groups_error groups_bytes
    groups_behind zero none = (none, refl, refl)
    groups_behind (suc q) none =
        let s = a ∷ b ∷ c ∷ d ∷ r in
        let parts = no_error (groups_error dec s (suc q)) (group_error dec s (4 * suc q)) none in
        let (first, others, bytes) = groups_behind q parts.0 in
        let last = group_behind q parts.1 in (
          first,
          rw (others, last.0) refl,
          ap₂ (λ x y. x ++ y) bytes last.1 ∙ append_assoc (group_bytes dec s 0) (groups_bytes dec r q) (group_bytes dec r (4 * q)),
        )

module _ (dec : List ℕ) (pad : ℕ) where
  -- what a symbol does to a scan does not depend on its place in the text
  push_elsewhere : (at at' : ℕ) (st next : Leftover) (i b : ℕ) → push_leftover dec pad at st i b ≡ Ok next
      → push_leftover dec pad at' st i b ≡ Ok next
  push_elsewhere at at' st next i b is = grind (arith, common_steps, cases_Bool)

  -- nor does a whole scan
  scan_elsewhere : (at at' : ℕ) (st end : Leftover) (i : ℕ) (bs : List ℕ) → scan_steps dec pad at (Ok st) i bs ≡ Ok end
      → scan_steps dec pad at' (Ok st) i bs ≡ Ok end
  unfolding scan_steps
  scan_elsewhere at at' st end i [] is = is
  scan_elsewhere at at' st end i (b ∷ bs) is = elim (scanned (push_leftover dec pad at st i b)) [
    | inl (next, ok) ↦
        scan-cons_ok dec pad at' st i b bs next (push_elsewhere at at' st next i b ok)
        ∙ scan_elsewhere at at' next end (i + 1) bs (sym (scan-cons_ok dec pad at st i b bs next ok) ∙ is)
    | inr (e, err) ↦ let no = sym (scan-cons_err dec pad at st i b bs e err) ∙ is in cc no
  ]

  -- nor what is accepted of its end
  leftover_elsewhere : (at at' : ℕ) (allow : Bool) (mode : DecodePaddingMode) (st : Leftover) → leftover_error false at allow mode st ≡ None
      → leftover_error false at' allow mode st ≡ None
  leftover_elsewhere at at' allow mode st none = grind (arith, common_steps)

  -- a last group that is accepted has some bytes
  leftover_some : (at : ℕ) (allow : Bool) (mode : DecodePaddingMode) (st : Leftover) → leftover_error false at allow mode st ≡ None
      → 0 < length (leftover_bytes st)
  leftover_some at allow mode st none = grind (arith, common_steps, cases_Bool, ltb-false, length-take)

  -- the last group of a text with a group in front
  suffix_behind : (a b c d : ℕ) (r : List ℕ) (allow : Bool) (mode : DecodePaddingMode) (at to : ℕ) → to ≡ 4 + at → 0 < length r
      → suffix_error dec pad allow mode to (a ∷ b ∷ c ∷ d ∷ r) ≡ None
      → (suffix_error dec pad allow mode at r ≡ None) × (suffix_bytes dec pad to (a ∷ b ∷ c ∷ d ∷ r) ≡ suffix_bytes dec pad at r)
  suffix_behind a b c d r allow mode at to is some none =
      let s = a ∷ b ∷ c ∷ d ∷ r in
      let rest : drop to s ≡ drop at r = let far : to ≡ suc (suc (suc (suc at))) = omega (arith, is) in rw far refl in
      let long : (length s == 0) ≡ false = ne_eqb (length s) 0 (omega arith) in
      let left : (length r == 0) ≡ false = ne_eqb (length r) 0 (omega (arith, some)) in
      elim (scanned (scan_last dec pad to s)) [
        | inl (st, ok) ↦
            let there : scan_last dec pad at r ≡ Ok st = scan_elsewhere to at no_leftover st 0 (drop at r) (rw rest at ok) in
            let last = rw long at (sym (suffix_error_of dec s pad to allow mode st ok) ∙ none) in (
              suffix_error_of dec r pad at allow mode st there ∙ rw left (leftover_elsewhere to at allow mode st last),
              suffix_bytes_of dec s pad to st ok ∙ sym (suffix_bytes_of dec r pad at st there),
            )
        | inr (e, err) ↦ cc (rw err at none)
      ]

  -- a symbol is no padding
  no_padding : (b : ℕ) → slice_index dec pad ≡ 255 → (slice_index dec b == 255) ≡ false → (b == pad) ≡ false
  no_padding b none symbol = grind (arith, common_steps, cases_Bool, eqb-true)

  -- four symbols are decoded as a group
  one_group : (a b c d : ℕ) (allow : Bool) (mode : DecodePaddingMode) → slice_index dec pad ≡ 255
      → AreSymbols dec (a ∷ b ∷ c ∷ d ∷ []) 0 → (decode_error dec pad allow mode (a ∷ b ∷ c ∷ d ∷ []) ≡ None)
      × (decoded_bytes dec pad (a ∷ b ∷ c ∷ d ∷ []) ≡ group_bytes dec (a ∷ b ∷ c ∷ d ∷ []) 0)
  unfolding scan_steps groups_error groups_bytes
  one_group a b c d allow mode none symbols = grind (arith, common_steps, no_padding)

module _ (e : GeneralPurpose) where
  -- a text without an error has none in its groups and none in its last group
  no_errors : (s x : List ℕ) → decode_of e s ≡ Ok x → (groups_error e.decode_table s (groups_before_last (length s)) ≡ None)
      × (suffix_error e.decode_table e.padding.value e.config.decode_allow_trailing_bits e.config.decode_padding_mode
      (4 * groups_before_last (length s)) s ≡ None) × (decoded_bytes e.decode_table e.padding.value s ≡ x)
  no_errors s x is =
      let (none, bytes) = outcome_ok _ _ x is in
      let behind_lone = no_error (lone_error e.decode_table e.padding.value s) _ none in
      let both = no_error (groups_error e.decode_table s (groups_before_last (length s))) _ behind_lone.1 in
      (both.0, both.1, bytes)

  -- a text that is decoded gives some bytes
  pub decodes_some : (s x : List ℕ) → 0 < length s → decode_of e s ≡ Ok x → 0 < length x
  decodes_some s x some is =
      let dec = e.decode_table in
      let pad = e.padding.value in
      let q = groups_before_last (length s) in
      let (groups, last, bytes) = no_errors s x is in
      let long : (length s == 0) ≡ false = ne_eqb (length s) 0 (omega (arith, some)) in
      elim (scanned (scan_last dec pad (4 * q) s)) [
        | inl (st, ok) ↦
            let accepted = rw long at (sym (suffix_error_of dec s pad (4 * q) _ _ st ok) ∙ last) in
            let given : 0 < length (suffix_bytes dec pad (4 * q) s) =
            rw (suffix_bytes_of dec s pad (4 * q) st ok) (leftover_some dec pad (4 * q) _ _ st accepted) in
            omega (arith, given, length-append (groups_bytes dec s q) (suffix_bytes dec pad (4 * q) s), ap length bytes)
        | inr (error, err) ↦ cc (rw err at last)
      ]

  -- Several groups that are decoded at once: the first gives three bytes, and the others give the rest.
  pub first_decoded : (a b c d : ℕ) (r x : List ℕ) → 0 < length r → length r % 4 ≡ 0 → decode_of e (a ∷ b ∷ c ∷ d ∷ r) ≡ Ok x
      → (first : List ℕ) × (rest : List ℕ) × (length first ≡ 3) × (x ≡ first ++ rest) × (decode_of e (a ∷ b ∷ c ∷ d ∷ []) ≡ Ok first)
      × (decode_of e r ≡ Ok rest)
  first_decoded a b c d r x some whole is =
      let dec = e.decode_table in
      let pad = e.padding.value in
      let allow = e.config.decode_allow_trailing_bits in
      let mode = e.config.decode_padding_mode in
      let s = a ∷ b ∷ c ∷ d ∷ r in
      let q = groups_before_last (length r) in
      let (groups, last, bytes) = no_errors s x is in
      let more : groups_before_last (length s) ≡ suc q = omega (arith, some) in
      let (one, others, split) = groups_behind dec a b c d r q (rw more at groups) in
      let (end, tail) = suffix_behind dec pad a b c d r allow mode (4 * q) (4 * suc q) (omega arith) some (rw more at last) in
      let symbols = are_symbols dec s 0 one in
      let head = one_group dec pad a b c d allow mode (are_tables_padding e.encode_table dec pad e.tables) symbols in
      let no_lone : lone_error dec pad r ≡ None = rw (ne_eqb (length r % 4) 1 (omega (arith, whole))) refl in (
        group_bytes dec s 0,
        decoded_bytes dec pad r,
        refl,
        sym bytes ∙ rw more (ap₂ (λ l m. l ++ m) split tail
            ∙ append_assoc (group_bytes dec s 0) (groups_bytes dec r q) (suffix_bytes dec pad (4 * q) r)),
        rw (head.0, head.1) refl,
        rw (no_lone, others, end) refl,
      )

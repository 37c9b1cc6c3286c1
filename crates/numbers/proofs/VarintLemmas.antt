-- What bytes of numbers of variable length spell, and what was read of them.
use Rattle.no_std_io2.proofs.Words.{◌≡◌, ◌≢◌, ◌⊎◌, ℕ, zero, suc, ◌+◌, ◌*◌, ◌/◌, ◌%◌, ◌^◌, ◌<◌, ◌≤◌, List, [], ◌∷◌, ◌++◌, length, take, drop}
use Rattle.no_std_io2.proofs.Words.{get_or, Result, Ok, Err, Option, None, Some, refl, sym, ap, subst, ◌∙◌, arith, inl, inr, append-nil}
use Rattle.no_std_io2.proofs.Words.{append_assoc, length-append, length-take-le, nil_from_length, ap₂, ◌-◌, cases_lt, Event, events_of}
use Rattle.no_std_io2.proofs.{Words.{common_steps, Reader, tells, to_come}, TakesLemmas.{Took-then}, ReadsLemmas.{Took-none}}
use Rattle.no_std_io2.specs.{declared.io.Error.{Error}, Reads.{TakesBytes}}
use Rattle.std.proofs.{Common.{set, add-one}, lemmas.List.{drop_more, length-set, take_more_set}, Math.Nat.{pow-suc}}
use Rattle.std.specs.Prelude.{IfSome, IfNone}
use Rattle.numbers.specs.{Numbers.{AreRead, ReadsBack, ReadsValue, first_byte, no_number, one_more}, Varint.{varint_value, VarintContinues}}
use Rattle.numbers.specs.Varint.{NoneEnds, IsVarint, SpellsVarint, IsGathered, IsRefused, GathersBack, GathersVarint, ReadsVarintBack}
use Rattle.numbers.proofs.{NumberLemmas.{ReadSoFar, into_none, into_more}, SpelledLemmas.{takes_byte}}

-- bytes that go on, and one more
all_more : (x : List ℕ) (b : ℕ) → NoneEnds x → VarintContinues b → NoneEnds (x ++ b ∷ [])
all_more [] b all on = (on, tt)
all_more (a ∷ x) b all on = (all.0, all_more x b all.1 on)

-- and one that ends them are a number
is_varint : (x : List ℕ) (b : ℕ) → NoneEnds x → b < 128 → (x ≡ []) ⊎ (b ≢ 0) → IsVarint (x ++ b ∷ [])
is_varint [] b all end shortest = end
is_varint (a ∷ []) b all end (inl none) = absurd (let no : ⊥ = cc none in no)
is_varint (a ∷ []) b all end (inr some) = (all.0, λ is. some (ap (λ l. get_or l 0 0) is), end)
is_varint (a ∷ c ∷ x) b all end shortest =
    (all.0, λ is. absurd (omega (arith, all.1.0.0, ap (λ l. get_or l 0 0) is)), is_varint (c ∷ x) b all.1 end (later shortest))
  where
    later : (a ∷ c ∷ x ≡ []) ⊎ (b ≢ 0) → (c ∷ x ≡ []) ⊎ (b ≢ 0)
    later (inl none) = absurd (let no : ⊥ = cc none in no)
    later (inr some) = inr some

-- bytes that all go on are none
not_ended : (x : List ℕ) → NoneEnds x → IsVarint x → ⊥
not_ended [] all is = is
not_ended (a ∷ []) all is = absurd (omega (arith, is, all.0.0))
not_ended (a ∷ c ∷ x) all is = not_ended (c ∷ x) all.1 is.2

-- a number ends at its first byte below 128
ends_there : (x : List ℕ) (b : ℕ) (rest : List ℕ) → b < 128 → IsVarint (x ++ b ∷ rest) → rest ≡ []
ends_there [] b [] end is = refl
ends_there [] b (c ∷ rest) end is = absurd (omega (arith, end, is.0.0))
ends_there (a ∷ []) b rest end is = ends_there [] b rest end is.2
ends_there (a ∷ c ∷ x) b rest end is = ends_there (c ∷ x) b rest end is.2

-- a last 0 stands alone
zero_alone : (x : List ℕ) → IsVarint (x ++ 0 ∷ []) → x ≡ []
zero_alone [] is = refl
zero_alone (a ∷ []) is = absurd (is.1 refl)
zero_alone (a ∷ c ∷ x) is = let none = zero_alone (c ∷ x) is.2 in absurd (let no : ⊥ = cc none in no)

-- a number of more than k bytes has at least 7 k bits
large : (k : ℕ) (l : List ℕ) → IsVarint l → (l ≢ 0 ∷ []) → k < length l → 128 ^ k ≤ varint_value l
large k [] is some long = absurd is
large zero (b ∷ []) is some long = elim (cases_lt 0 b) [
  | inl more ↦ omega (arith, is, more)
  | inr none ↦ absurd (some (ap (λ n. n ∷ []) (omega (arith, none))))
]
large (suc k) (b ∷ []) is some long = absurd (omega (arith, long))
large zero (b ∷ c ∷ l) is some long = let rest = large zero (c ∷ l) is.2 is.1 (omega arith) in omega (arith, rest)
large (suc k) (b ∷ c ∷ l) is some long =
    let rest = large k (c ∷ l) is.2 is.1 (omega (arith, long)) in omega (arith, rest, pow-suc 128 k)

-- the value of later bytes is no larger
later_less : (k : ℕ) (l : List ℕ) → varint_value (drop k l) ≤ varint_value l
later_less zero l = omega arith
later_less (suc k) [] = omega arith
later_less (suc k) (b ∷ l) = omega (arith, later_less k l)

-- one byte before the others
pub value_more : (l : List ℕ) (i : ℕ) → i < length l → varint_value (drop i l) ≡ get_or l i 0 % 128 + 128 * varint_value (drop (i + 1) l)
value_more l i within = ap varint_value (drop_more l i 0 within)

-- a value that grows past 64 bits
pub value_past : (l : List ℕ) (i : ℕ) → 0 < i → i ≤ length l → 2 ^ 57 ≤ varint_value (drop i l) → 2 ^ 64 ≤ varint_value l
value_past l i some within much = grind (arith, common_steps, value_more, later_less)

-- What is refused.
pub refused_long : (l : List ℕ) → NoneEnds l → length l ≡ 10 → IsRefused l
refused_long l all ten [] is = absurd (not_ended l all (rw (append-nil l) at is))
refused_long l all ten (r ∷ rest) is =
    let long : 10 < length (l ++ r ∷ rest) = omega (arith, ten, length-append l (r ∷ rest)) in
    let much = large 10 (l ++ r ∷ rest) is (λ one. absurd (omega (arith, long, ap length one))) long in
    omega (arith, much)

pub refused_zero : (x : List ℕ) → 0 < length x → IsRefused (x ++ 0 ∷ [])
refused_zero x some rest is = grind (arith, common_steps, append_assoc, ends_there, zero_alone)

pub refused_value : (x : List ℕ) (b : ℕ) → b < 128 → 2 ^ 64 ≤ varint_value (x ++ b ∷ []) → IsRefused (x ++ b ∷ [])
refused_value x b end much rest is = grind (arith, common_steps, ends_there, append_assoc, append-nil)

-- at most ten bytes spell a number of 64 bits
pub ten_most : (l : List ℕ) → IsVarint l → varint_value l < 2 ^ 64 → length l ≤ 10
ten_most l is small = elim (cases_lt 10 (length l)) [
  | inr few ↦ few
  | inl many ↦
      let much = large 10 l is (λ one. absurd (omega (arith, many, ap length one))) many in
      absurd (omega (arith, much, small))
]

-- what bytes that were read one by one took
pub read_takes : {V : Type 0} (R : Reader V) {old new : V} {xs : List ℕ} → AreRead R first_byte 1 old xs new
    → TakesBytes (tells R old) xs (tells R new)
read_takes R {old} no_number = Took-none (tells R old)
read_takes R (one_more x before reads) = Took-then (read_takes R before) (takes_byte reads)

-- The bytes that were read so far. If a number is known to come, they are its first ones.
pub record GatheredSoFar {V : Type 0} (R : Reader V) (old : V) (start : List ℕ) (i : ℕ) (buf : List ℕ) (now : V) : Type 0 where
  pub read : ReadSoFar R first_byte 1 old start i buf now
  pub high : NoneEnds (take i buf)
  pub back : (bytes : List ℕ) (rest : List Event) → IsVarint bytes → to_come (tells R old) ≡ Some (events_of bytes ++ rest)
      → (tail : List ℕ) × (bytes ≡ take i buf ++ tail) × IsVarint tail × (to_come (tells R now) ≡ Some (events_of tail ++ rest))

module _ {V : Type 0} {R : Reader V} {old : V} where
  -- none at first
  pub gather_none : (start : List ℕ) → GatheredSoFar R old start 0 start old
  gather_none start = record { read = into_none start; high = tt; back = λ bytes rest is told. (bytes, refl, is, told) }

  module _ (start buf : List ℕ) (i : ℕ) {mid : V} (within : i < length buf) (before : GatheredSoFar R old start i buf mid) where
    -- the next byte of a number that is known to come
    next_known : (reply : Result ℕ Error) (new : V) → ReadsBack R (λ x. x < 256) (λ x. x ∷ []) mid reply new → (bytes : List ℕ)
        (rest : List Event) → IsVarint bytes → to_come (tells R old) ≡ Some (events_of bytes ++ rest)
        → (t : ℕ) × (tail : List ℕ) × (bytes ≡ take i buf ++ t ∷ tail) × IsVarint (t ∷ tail) × (reply ≡ Ok t)
        × (to_come (tells R new) ≡ Some (events_of tail ++ rest))
    next_known reply new back bytes rest is told = let
        (tail, split, ends, known) = before.back bytes rest is told in go tail split ends known
      where
        go : (tail : List ℕ) → bytes ≡ take i buf ++ tail → IsVarint tail → to_come (tells R mid) ≡ Some (events_of tail ++ rest)
            → (t : ℕ) × (tail : List ℕ) × (bytes ≡ take i buf ++ t ∷ tail) × IsVarint (t ∷ tail) × (reply ≡ Ok t)
            × (to_come (tells R new) ≡ Some (events_of tail ++ rest))
        go [] split ends known = absurd ends
        go (t ∷ []) split ends known = let (is, left) = back t rest (omega (arith, ends)) known in (t, [], split, ends, is, left)
        go (t ∷ c ∷ tail) split ends known =
            let (is, left) = back t (events_of (c ∷ tail) ++ rest) ends.0.1 known in (t, c ∷ tail, split, ends, is, left)

    -- one more byte, behind which another one comes
    pub gather_more : (b : ℕ) {new : V} → 128 ≤ b → ReadsValue R first_byte 1 mid (Ok b) new
        → ReadsBack R (λ x. x < 256) (λ x. x ∷ []) mid (Ok b) new → GatheredSoFar R old start (i + 1) (set buf i b) new
    gather_more b {new} high reads back =
        let on : VarintContinues b = (high, omega (arith, reads.spells, reads.are 0)) in
        let grown = take_more_set buf i b within in
        record {
          read = into_more start buf i b within before.read reads;
          high = subst (NoneEnds) (sym grown) (all_more (take i buf) b before.high on);
          back = λ bytes rest is told.
              let (t, tail, split, ends, said, left) = next_known (Ok b) new back bytes rest is told in
              let same : t ≡ b = let both = sym said in cc in
              let joined : bytes ≡ take (i + 1) (set buf i b) ++ tail =
              split ∙ ap (λ x. take i buf ++ x ∷ tail) same ∙ sym (append_assoc (take i buf) (b ∷ []) tail)
              ∙ ap (λ l. l ++ tail) (sym grown) in
              (tail, joined, after tail t ends (subst VarintContinues (sym same) on), left);
        }
      where
        after : (tail : List ℕ) (t : ℕ) → IsVarint (t ∷ tail) → VarintContinues t → IsVarint tail
        after [] t ends on = absurd (omega (arith, ends, on.0))
        after (c ∷ tail) t ends on = ends.2

    -- the last byte
    pub gather_last : (b : ℕ) {new : V} → b < 128 → i < 10 → ReadsValue R first_byte 1 mid (Ok b) new
        → GathersVarint R old (set buf i b) (Ok (i + 1)) new
    gather_last b {new} end most reads =
        let grown = take_more_set buf i b within in (
          omega (arith, within, length-set buf i b),
          omega arith,
          (into_more start buf i b within before.read reads).are,
          inl (take i buf, b, grown, before.high, end),
        )

    pub last_back : (b : ℕ) (new : V) → b < 128 → ReadsBack R (λ x. x < 256) (λ x. x ∷ []) mid (Ok b) new
        → GathersBack R old (set buf i b) (Ok (i + 1)) new
    last_back b new end back bytes rest is few told =
        let (t, tail, split, ends, said, left) = next_known (Ok b) new back bytes rest is told in
        let same : t ≡ b = let both = sym said in cc in
        let none : tail ≡ [] = ends_there [] t tail (omega (arith, end, same)) ends in
        let whole : bytes ≡ take (i + 1) (set buf i b) =
        split ∙ ap₂ (λ x l. take i buf ++ x ∷ l) same none ∙ sym (take_more_set buf i b within) in
        let long : length bytes ≡ i + 1 =
        ap length whole ∙ length-take-le (i + 1) (set buf i b) (omega (arith, within, length-set buf i b)) in
        (ap Ok (sym long), ap (λ n. take n (set buf i b)) long ∙ sym whole, left ∙ ap (λ l. Some (events_of l ++ rest)) none)

    -- the read of the next byte failed
    pub gather_fails : {e : Error} {new : V} → i < 10 → ReadsValue R first_byte 1 mid (Err e) new → (buf' : List ℕ)
        → GathersVarint R old buf' (Err e) new
    gather_fails most reads buf' = grind (arith, common_steps, length-take-le)

    pub fails_back : {e : Error} (new : V) → ReadsBack R (λ x. x < 256) (λ x. x ∷ []) mid (Err e) new → (buf' : List ℕ)
        → GathersBack R old buf' (Err e) new
    fails_back {e} new back buf' bytes rest is few told =
        let (t, tail, split, ends, said, left) = next_known (Err e) new back bytes rest is told in absurd (let no : ⊥ = cc said in no)

  -- ten bytes, and none ends a number
  pub gather_ten : (start buf : List ℕ) (i : ℕ) (now : V) → i ≡ 10 → length buf ≡ 10 → GatheredSoFar R old start i buf now
      → GathersVarint R old buf (Ok 10) now
  gather_ten start buf i now all ten before = grind (arith, common_steps, length-take-le)

  pub ten_back : (start buf : List ℕ) (i : ℕ) (now : V) → i ≡ 10 → length buf ≡ 10 → GatheredSoFar R old start i buf now
      → GathersBack R old buf (Ok 10) now
  ten_back start buf i now all ten before bytes rest is few told =
      grind (arith, common_steps, length-append, nil_from_length, length-take-le)

-- What was gathered is a number, or it is refused.

-- the last byte
last_of : (l x : List ℕ) (b : ℕ) → l ≡ x ++ b ∷ [] → get_or l (length l - 1) 0 ≡ b
last_of l x b is = grind (arith, common_steps, length-append)

-- each byte that goes on is high
all_high : (l : List ℕ) → NoneEnds l → (i : ℕ) → i < length l → 128 ≤ get_or l i 0
all_high [] all i within = absurd (omega (arith, within))
all_high (b ∷ l) all zero within = all.0.0
all_high (b ∷ l) all (suc i) within = all_high l all.1 i (omega (arith, within))

-- a number, by its last byte
pub gathered_is : (l : List ℕ) (last : ℕ) → IsGathered l → 0 < length l → last ≡ get_or l (length l - 1) 0 → last < 128
    → ((last ≡ 0) → (1 < length l) → ⊥) → IsVarint l
gathered_is l last (inl (x, b, is, all, end)) some at below shortest =
    let same : last ≡ b = at ∙ last_of l x b is in
    let long : length l ≡ length x + 1 = ap length is ∙ length-append x (b ∷ []) in
    subst IsVarint (sym is) (is_varint x b all end (elim (cases_lt 0 (length x)) [
      | inl more ↦ inr (λ zero. shortest (same ∙ zero) (omega (arith, more, long)))
      | inr none ↦ inl (nil_from_length x (omega (arith, none)))
    ]))
gathered_is l last (inr (all, ten)) some at below shortest =
    absurd (omega (arith, below, at, ten, all_high l all (length l - 1) (omega (arith, ten))))

-- what is left of a number of 64 bits after so many bytes, at most
abbrev pub most_left : ℕ → ℕ
most_left zero = 18446744073709551615
most_left (suc i) = most_left i / 128

-- The first i bytes of a number were put into a buffer: with those that spell what is left of it, they spell it.
pub record PutSoFar (n left i : ℕ) (buf : List ℕ) : Type 0 where
  pub spells : (tail : List ℕ) → SpellsVarint left tail → SpellsVarint n (take i buf ++ tail)
  pub most : left ≤ most_left i

-- none at first
pub put_none : (n : ℕ) (buf : List ℕ) → n < 2 ^ 64 → PutSoFar n n 0 buf
put_none n buf small = record { spells = λ tail spells. spells; most = omega (arith, small) }

module _ (n left i : ℕ) (buf : List ℕ) (within : i < length buf) (before : PutSoFar n left i buf) where
  -- one more byte
  pub put_more : 128 ≤ left → (b : ℕ) → b ≡ left % 128 + 128 → PutSoFar n (left / 128) (i + 1) (set buf i b)
  put_more more b is = record { spells = spells; most = rw add-one (omega (arith, before.most)) }
    where
      one : (tail : List ℕ) → SpellsVarint (left / 128) tail → SpellsVarint left (b ∷ tail)
      one [] (ends, value) = absurd ends
      one (c ∷ tail) (ends, value) = (
        ((omega (arith, is), omega (arith, is)), λ zero. absurd (omega (arith, more, value, ap varint_value zero)), ends),
        omega (arith, is, value),
      )

      spells : (tail : List ℕ) → SpellsVarint (left / 128) tail → SpellsVarint n (take (i + 1) (set buf i b) ++ tail)
      spells tail those = grind (arith, common_steps, append_assoc, take_more_set, before.spells, one)

  -- the last one
  pub put_last : left < 128 → SpellsVarint n (take (i + 1) (set buf i left))
  put_last end = subst (SpellsVarint n) (sym (take_more_set buf i left within)) (before.spells (left ∷ []) (end, omega (arith, end)))

-- the tenth byte is the last one
pub left_small : (n left : ℕ) (buf : List ℕ) → PutSoFar n left 9 buf → left < 128
left_small n left buf so_far = omega (arith, so_far.most)

-- What is decoded of gathered bytes.
module _ (l : List ℕ) (last : ℕ) (gathered : IsGathered l) (some : 0 < length l) (at : last ≡ get_or l (length l - 1) 0) where
  -- the last byte goes on
  pub decode_high : 128 ≤ last → IsRefused l
  decode_high high = grind (arith, common_steps, last_of, refused_long)

  -- the last one is 0, and others come before it
  pub decode_zero : last ≡ 0 → 1 < length l → IsRefused l
  decode_zero null more = grind (arith, common_steps, last_of, refused_zero, length-append, all_high)

  -- else the bytes are a number
  pub decode_some : last < 128 → ((last ≡ 0) → 1 < length l → ⊥) → (o : Option ℕ) → IfSome o (λ n. n ≡ varint_value l)
      → IfSome o (λ n. SpellsVarint n l)
  decode_some below shortest None value = tt
  decode_some below shortest (Some n) value = (gathered_is l last gathered some at below shortest, sym value)

  -- or they are too many bits
  pub decode_none : last < 128 → (o : Option ℕ) → IfNone o (2 ^ 64 ≤ varint_value l) → IfNone o (IsRefused l)
  decode_none below (Some n) much = tt
  decode_none below None much = elim gathered [
    | inl (x, b, is, all, end) ↦ subst IsRefused (sym is) (refused_value x b end (subst (λ l. 2 ^ 64 ≤ varint_value l) is much))
    | inr (all, ten) ↦ refused_long l all ten
  ]

module _ {V : Type 0} (R : Reader V) (old new : V) (buf : List ℕ) where
  -- A number that is known to come is gathered, so no read of it fails,
  pub back_fails : {e : Error} → GathersBack R old buf (Err e) new → ReadsVarintBack R old (Err e) new
  back_fails back n bytes rest spells small told = grind (arith, common_steps, ten_most)

  -- it is not refused,
  pub back_refused : (len : ℕ) {e : Error} → GathersBack R old buf (Ok len) new → IsRefused (take len buf)
      → ReadsVarintBack R old (Err e) new
  back_refused len back refused n bytes rest (is, value) small told =
      let (said, front, left) = back bytes rest is (ten_most bytes is (omega (arith, value, small))) told in
      let long : len ≡ length bytes = cc said in
      let whole : take len buf ++ [] ≡ bytes = append-nil (take len buf) ∙ ap (λ k. take k buf) long ∙ front in
      let much = refused [] (subst IsVarint (sym whole) is) in
      absurd (omega (arith, much, small, value, ap varint_value whole))

  -- and it is what is read.
  pub back_read : (len m : ℕ) → GathersBack R old buf (Ok len) new → SpellsVarint m (take len buf) → ReadsVarintBack R old (Ok m) new
  back_read len m back spelled n bytes rest spells small told = grind (arith, common_steps, ten_most)

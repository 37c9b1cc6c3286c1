-- A number that was read spells the bytes that were taken: of bytes below 256 none is lost in it.
use Rattle.no_std_io2.proofs.Words.{◌≡◌, ℕ, zero, suc, ◌+◌, ◌*◌, ◌/◌, ◌%◌, ◌^◌, ◌<◌, List, [], ◌∷◌, length, Ok, refl, sym, ap, ap₂, ◌∙◌}
use Rattle.no_std_io2.{proofs.{Words.{common_steps, arith, Reader, tells}, TakesLemmas.{TakesBytes-fills}}, specs.Reads.{TakesBytes}}
use Rattle.std.proofs.{Math.Nat.{pow-suc, pow-succ', div-div-eq-div-mul, div-one, mul_assoc}, lemmas.Nat.{div-mul-add, mod-mul-add}}
use Rattle.std.{proofs.lemmas.Int.{of_z-to_z}, specs.{Int.{Width, byte_at, bytes_high_first, bytes_low_first, cast_unsigned}, Prelude.{ℤ}}}
use mir.Val.{bits}
use Rattle.byteorder.specs.Endian.{big_number, big_bytes, little_number, little_bytes}
use Rattle.byteorder.specs.Numbers.{big_from-cons, big_from-lt, little_from-cons}
use Rattle.numbers.specs.Numbers.{AreBytes, ReadsValue, first_byte, signed_by}

-- byte k of x, without the case of the lowest
byte_is : (k x : ℕ) → byte_at k x ≡ x / 256 ^ k % 256
byte_is zero x = ap (λ y. y % 256) (sym (div-one x))
byte_is (suc k) x = refl

-- the bytes of a number, the highest first, are also those of a longer one that ends in it
high_spelled : (n high : ℕ) (bytes : List ℕ) → length bytes ≡ n → AreBytes bytes
    → bytes_high_first n (high * 256 ^ n + big_number n bytes) ≡ bytes
high_spelled zero high [] long are = refl
high_spelled zero high (b ∷ bytes) long are = absurd (omega (arith, long))
high_spelled (suc n) high [] long are = absurd (omega (arith, long))
high_spelled (suc n) high (b ∷ bytes) long are =
    let rest = big_number n bytes in
    let small : rest < 256 ^ n = big_from-lt 0 n bytes (λ i. are (suc i)) in
    let split : high * 256 ^ suc n + big_number (suc n) (b ∷ bytes) ≡ (high * 256 + b) * 256 ^ n + rest =
    rw (pow-succ' 256 n, big_from-cons 0 n b bytes) (omega (arith, mul_assoc high 256 (256 ^ n))) in
    let first : byte_at n ((high * 256 + b) * 256 ^ n + rest) ≡ b =
    byte_is n _ ∙ ap (λ y. y % 256) (div-mul-add (high * 256 + b) (256 ^ n) rest small) ∙ mod-mul-add high 256 b (are 0) in
    ap (bytes_high_first (suc n)) split
    ∙ ap₂ (λ x l. x ∷ l) first (high_spelled n (high * 256 + b) bytes (omega (arith, long)) (λ i. are (suc i)))

-- the bytes from place k of a number, the lowest first
low_spelled : (n k x : ℕ) (bytes : List ℕ) → length bytes ≡ n → AreBytes bytes → x / 256 ^ k ≡ little_number n bytes
    → bytes_low_first k n x ≡ bytes
low_spelled zero k x [] long are is = refl
low_spelled zero k x (b ∷ bytes) long are is = absurd (omega (arith, long))
low_spelled (suc n) k x [] long are is = absurd (omega (arith, long))
low_spelled (suc n) k x (b ∷ bytes) long are is =
    let rest = little_number n bytes in
    let split : x / 256 ^ k ≡ rest * 256 + b = is ∙ omega (arith, little_from-cons 0 n b bytes) in
    let first : byte_at k x ≡ b = byte_is k x ∙ ap (λ y. y % 256) split ∙ mod-mul-add rest 256 b (are 0) in
    let next : x / 256 ^ suc k ≡ rest =
    ap (λ p. x / p) (pow-suc 256 k) ∙ sym (div-div-eq-div-mul x (256 ^ k) 256) ∙ ap (λ y. y / 256) split
    ∙ div-mul-add rest 256 b (are 0) in
    ap₂ (λ y l. y ∷ l) first (low_spelled n (suc k) x bytes (omega (arith, long)) (λ i. are (suc i)) next)

-- the bytes of the number that some bytes spell are these bytes
pub big_spelled : (bytes : List ℕ) (n : ℕ) → length bytes ≡ n → AreBytes bytes → big_bytes n (big_number n bytes) ≡ bytes
big_spelled bytes n long are = ap (bytes_high_first n) (omega arith) ∙ high_spelled n 0 bytes long are

pub little_spelled : (bytes : List ℕ) (n : ℕ) → length bytes ≡ n → AreBytes bytes → little_bytes n (little_number n bytes) ≡ bytes
little_spelled bytes n long are = low_spelled n 0 _ bytes long are (div-one _)

-- After `Ok` the bytes of the result were taken, and no others.
module _ {V : Type 0} {R : Reader V} {n x : ℕ} {old new : V} where
  pub takes_big : ReadsValue R (big_number n) n old (Ok x) new → TakesBytes (tells R old) (big_bytes n x) (tells R new)
  takes_big reads = grind (arith, common_steps, big_spelled, TakesBytes-fills)

  pub takes_little : ReadsValue R (little_number n) n old (Ok x) new → TakesBytes (tells R old) (little_bytes n x) (tells R new)
  takes_little reads = grind (arith, common_steps, little_spelled, TakesBytes-fills)

-- The same of a byte.
one_byte : (bytes : List ℕ) → length bytes ≡ 1 → first_byte bytes ∷ [] ≡ bytes
one_byte [] long = absurd (omega (arith, long))
one_byte (b ∷ []) long = refl
one_byte (b ∷ c ∷ bytes) long = absurd (omega (arith, long))

pub takes_byte : {V : Type 0} {R : Reader V} {x : ℕ} {old new : V} → ReadsValue R first_byte 1 old (Ok x) new
    → TakesBytes (tells R old) (x ∷ []) (tells R new)
takes_byte {R = R} {x} {old} {new} reads = grind (arith, common_steps, one_byte, TakesBytes-fills)

-- The same of a signed number of width w in either order, of which `number` and `spelled` are the words, as `big_number` and `big_bytes`.
pub takes_signed : {V : Type 0} {R : Reader V} {n : ℕ} {x : ℤ} {old new : V} (w : Width) (number : ℕ → List ℕ → ℕ) (spelled : ℕ → List ℕ)
    → ((bytes : List ℕ) → length bytes ≡ n → AreBytes bytes → (spelled (number n bytes) ≡ bytes) × (number n bytes < 2 ^ bits w))
    → ReadsValue R (signed_by w number n) n old (Ok x) new → TakesBytes (tells R old) (spelled (cast_unsigned w x)) (tells R new)
takes_signed {R = R} {n} {x} {old} {new} w number spelled spells reads = grind (arith, common_steps, of_z-to_z, TakesBytes-fills)

-- in big-endian order
pub big_spells : (n : ℕ) (bytes : List ℕ) → length bytes ≡ n → AreBytes bytes
    → (big_bytes n (big_number n bytes) ≡ bytes) × (big_number n bytes < 256 ^ n)
big_spells n bytes long are = (big_spelled bytes n long are, big_from-lt 0 n bytes are)

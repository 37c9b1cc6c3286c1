-- What a read of a number shows.
use Rattle.no_std_io2.proofs.Words.{◌≡◌, ℕ, ◌+◌, ◌<◌, List, ◌++◌, length, take, drop, Ok, refl, sym, ap, subst, ◌∙◌, arith, append-nil, []}
use Rattle.no_std_io2.proofs.Words.{Reader, to_z-of_z}
use Rattle.std.proofs.{Common.{take_all}, lemmas.List.{length-set, take_more_set, drop-set-lt, drop-drop}}
use Rattle.std.specs.{Prelude.{slice_set, FitsSigned, ℤ}, Int.{Width, cast_signed, cast_unsigned}}
use Rattle.numbers.specs.Numbers.{ReadsValue, AreRead, no_number, one_more}

-- bytes that spell x with others behind them spell it alone
pub spelled_back : (value : List ℕ → ℕ) (spelled : List ℕ) (x : ℕ) → value (spelled ++ []) ≡ x → value spelled ≡ x
spelled_back value spelled x is = ap value (sym (append-nil spelled)) ∙ is

-- So far the first i numbers of dst were read, and the others are as they were in `start`.
pub record ReadSoFar {V X : Type 0} (R : Reader V) (value : List ℕ → X) (n : ℕ) (old : V) (start : List X) (i : ℕ) (dst : List X) (now : V)
    : Type 0 where
  pub are : AreRead R value n old (take i dst) now
  pub rest : drop i dst ≡ drop i start
  pub long : length dst ≡ length start

module _ {V X : Type 0} {R : Reader V} {value : List ℕ → X} {n : ℕ} {old : V} where
  -- none at first
  pub into_none : (start : List X) → ReadSoFar R value n old start 0 start old
  into_none start = record { are = no_number; rest = refl; long = refl }

  -- one more
  pub into_more : (start dst : List X) (i : ℕ) (x : X) {mid new : V} → i < length dst → ReadSoFar R value n old start i dst mid
      → ReadsValue R value n mid (Ok x) new → ReadSoFar R value n old start (i + 1) (slice_set dst i x) new
  into_more start dst i x {new = new} within before reads = record {
    are = subst (λ l. AreRead R value n old l new) (sym (take_more_set dst i x within)) (one_more x before.are reads);
    rest = drop-set-lt (i + 1) dst i x (omega arith) ∙ sym (drop-drop 1 i dst) ∙ ap (drop 1) before.rest ∙ drop-drop 1 i start;
    long = length-set dst i x ∙ before.long;
  }

  -- these were all
  pub into_all : (start dst : List X) (i : ℕ) {now : V} → i ≡ length dst → ReadSoFar R value n old start i dst now
      → AreRead R value n old dst now
  into_all start dst i {now} all before = subst (λ l. AreRead R value n old l now) (take_all i dst (omega (arith, all))) before.are

-- one more signed number of width w, which is stored as it is
pub into_signed : {V : Type 0} {R : Reader V} {value : List ℕ → ℤ} {n : ℕ} {old : V} (w : Width) (start dst : List ℤ) (i : ℕ) (x : ℤ)
    {mid new : V} → FitsSigned w x → i < length dst → ReadSoFar R value n old start i dst mid → ReadsValue R value n mid (Ok x) new
    → ReadSoFar R value n old start (i + 1) (slice_set dst i (cast_signed w (cast_unsigned w x))) new
into_signed w start dst i x fits within before reads = rw (to_z-of_z w x fits) (into_more start dst i x within before reads)

-- how a loop that reads numbers into a slice begins and ends
pub ruleset into_steps = (into_none, into_all)

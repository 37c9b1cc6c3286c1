-- For `push_escaped` and `unescape`: a text with escapes, and the bytes that it stands for.
use Rattle.no_std_io2.proofs.Words.{◌≡◌, ℕ, ◌+◌, ◌≤◌, ◌<◌, List, [], ◌∷◌, ◌++◌, length, take, drop, get_or, arith, append-nil, take_more}
use Rattle.no_std_io2.proofs.Words.{common_steps, ◌≢◌, Bool, true, false, Option, Some, None, sym}
use Rattle.std.proofs.lemmas.Grind.{flat_map-append}
use Rattle.tower_play.specs.Script.{escaped, escaped_byte, joined_if, unescaped, IsAppended}

-- For `push_escaped`: a text that is shown run by run.

-- one byte more is shown
escaped_more : (bytes : List ℕ) (i : ℕ) → i < length bytes
    → escaped (take (i + 1) bytes) ≡ escaped (take i bytes) ++ escaped_byte (get_or bytes i 0)
escaped_more bytes i in' = rw (take_more bytes i 0 in') (simp (flat_map-append, append-nil))

-- a byte that is shown as it is makes the run longer
pub run_on : (old text bytes : List ℕ) (start i : ℕ) → start ≤ i → i < length bytes
    → escaped_byte (get_or bytes i 0) ≡ get_or bytes i 0 ∷ []
    → text ++ drop start (take i bytes) ≡ old ++ escaped (take i bytes)
    → text ++ drop start (take (i + 1) bytes) ≡ old ++ escaped (take (i + 1) bytes)
run_on old text bytes start i le in' plain so = let more = escaped_more bytes i in' in grind (arith, common_steps)

-- a byte that is shown by another text ends the run
pub run_ends : (old text text2 text3 run shown bytes : List ℕ) (start i : ℕ) → start ≤ i → i < length bytes
    → run ≡ drop start (take i bytes)
    → shown ≡ escaped_byte (get_or bytes i 0) → text2 ≡ text ++ run → text3 ≡ text2 ++ shown
    → text ++ drop start (take i bytes) ≡ old ++ escaped (take i bytes)
    → text3 ++ drop (i + 1) (take (i + 1) bytes) ≡ old ++ escaped (take (i + 1) bytes)
run_ends old text text2 text3 run shown bytes start i le in' is shows e2 e3 so = grind (arith, common_steps, escaped_more)

-- For `unescape`: the bytes that an escaped text stands for, byte by byte.

-- the text that is left, after a backslash that was read
abbrev pub waiting : Bool → List ℕ → List ℕ
waiting true rest = 92 ∷ rest
waiting false rest = rest

-- The bytes that were appended so far come before those that the rest stands for.
pub record Halfway (old new text left : List ℕ) : Type 0 where
  pub so_far : List ℕ
  pub appends : new ≡ old ++ so_far
  pub meant : unescaped text ≡ joined_if so_far (unescaped left)

-- bytes before bytes
before-before : (x y : List ℕ) (o : Option (List ℕ)) → joined_if x (joined_if y o) ≡ joined_if (x ++ y) o
before-before x y o = grind (arith, common_steps)

-- nothing before bytes changes nothing
before-nothing : (o : Option (List ℕ)) → joined_if [] o ≡ o
before-nothing o = grind (arith, common_steps)

-- nothing is appended at first
pub none_yet : (old text : List ℕ) → Halfway old old text text
none_yet old text = record { so_far = []; appends = sym (append-nil old); meant = sym (before-nothing (unescaped text)) }

-- the bytes at the front of the rest are appended
goes_on : {old new new2 text left left2 : List ℕ} (x : List ℕ) → unescaped left ≡ joined_if x (unescaped left2)
    → new2 ≡ new ++ x → Halfway old new text left → Halfway old new2 text left2
goes_on x is more so = record {
  so_far = so.so_far ++ x;
  appends = grind (arith, common_steps);
  meant = grind (arith, before-before, is, so.meant);
}

-- a byte that is no backslash stands for itself
by_itself : (b : ℕ) (rest : List ℕ) → b ≢ 92 → unescaped (b ∷ rest) ≡ joined_if (b ∷ []) (unescaped rest)
by_itself b rest plain = grind (arith, common_steps)

-- a byte of the text, and what follows it
at_front : (text : List ℕ) (i : ℕ) → i < length text → drop i text ≡ get_or text i 0 ∷ drop (i + 1) text
at_front text i in' = grind (arith, common_steps)

module _ {old new new2 text : List ℕ} (i : ℕ) {was is : Bool} (in' : i < length text) where
  -- a byte after a backslash ends an escape
  pub ends_escape : (b : ℕ) (x : List ℕ) → get_or text i 0 ≡ b → was ≡ true → is ≡ false
      → unescaped (92 ∷ b ∷ drop (i + 1) text) ≡ joined_if x (unescaped (drop (i + 1) text))
      → new2 ≡ new ++ x → Halfway old new text (waiting was (drop i text)) → Halfway old new2 text (waiting is (drop (i + 1) text))
  ends_escape b x at was is meant more so = rw is (goes_on x meant more (rw (was, at_front text i in', at) at so))

  -- a backslash begins one
  pub begins_escape : get_or text i 0 ≡ 92 → was ≡ false → is ≡ true → new2 ≡ new → Halfway old new text (waiting was (drop i text))
      → Halfway old new2 text (waiting is (drop (i + 1) text))
  begins_escape at was is same so = rw (is, same) (rw (was, at_front text i in', at) at so)

  -- any other byte stands for itself
  pub goes_by_itself : get_or text i 0 ≢ 92 → was ≡ false → is ≡ false → new2 ≡ new ++ get_or text i 0 ∷ []
      → Halfway old new text (waiting was (drop i text)) → Halfway old new2 text (waiting is (drop (i + 1) text))
  goes_by_itself plain was is more so = grind (arith, common_steps, at_front, by_itself, get_or, goes_on)

-- the bytes that a good text stands for follow the old bytes
pub is_meant : (o : Option (List ℕ)) (old new : List ℕ) → IsAppended o true old new
    → (bytes : List ℕ) × (o ≡ Some bytes) × (new ≡ old ++ bytes)
is_meant o old new so = grind (arith, common_steps)

-- a bad text stands for nothing
pub is_not_meant : (o : Option (List ℕ)) (old new : List ℕ) → IsAppended o false old new → o ≡ None
is_not_meant o old new so = grind (arith, common_steps)

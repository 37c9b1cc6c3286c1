-- What several calls leave at a place, for the proofs of their callers.
use Rattle.no_std_io2.proofs.Words.{◌≡◌, ℕ, ◌+◌, ◌-◌, ◌<◌, ◌≤◌, ◌^◌, List, [], ◌++◌, length, take, drop, refl, arith, append_assoc}
use Rattle.no_std_io2.proofs.Words.{append-nil, length-append, length-drop, take-append_seam, drop-append_seam, OnOk, Result, Ok, Err}
use Rattle.no_std_io2.{proofs.{Words.{common_steps, Writer}, CursorLemmas.{fits_at}}, specs.declared.io.Error.{Error}}
use Rattle.no_std_io2.specs.{declared.io.SeekFrom.TheVariants.{Start}, Writers.{WriteAllOf}, Seek.{Seeker, SeekLaw, StreamPositionLaw}}
use Rattle.no_std_io2.specs.{Takes.{Reader}, Reads.{ReadAtLaw}, inner.Cursor.{bytes_before}}
use Rattle.std.proofs.Math.Seq.{take-append-add, drop-nil}
use Rattle.record_log.specs.{Placed.{IsPutAt, PutsAt}, Places.{TellsStore, HasRoom, HasPut, StandsAt}}
use Rattle.record_log.proofs.{PlacedLemmas.{put_within, put_form, put_over, length-before, put_then}, BufferLemmas.{passed_all}}

-- bytes and then more were put, one behind the other
pub then_puts : (c mid c' : List ℕ) (p at p' : ℕ) (x y : List ℕ) → HasPut c p x mid at → HasPut mid at y c' p' → HasPut c p (x ++ y) c' p'
then_puts c mid c' p at p' x y first next = grind (arith, common_steps, put_then p x y c mid c')

-- at the end of a content they are appended
pub end_puts : (c mid c' : List ℕ) (p at p' : ℕ) (x y : List ℕ) → p ≡ length c → HasPut c p x mid at → HasPut mid at y c' p'
    → c' ≡ c ++ (x ++ y)
end_puts c mid c' p at p' x y end first next =
    grind (arith, common_steps, put_within c [] (x ++ y) c c' p, then_puts c mid c' p at p' x y first next, append-nil, drop-nil)

-- what was put stands there
pub put_stands : (p : ℕ) (x c c' : List ℕ) → IsPutAt p x c c' → StandsAt p x c'
put_stands p x c c' put = grind (arith, common_steps, put_form p c x, length-before p c, drop-append_seam, take-append_seam)

-- the length that it then has
pub put_small : (n p : ℕ) (x c c' : List ℕ) → IsPutAt p x c c' → length c < n → p + length x < n → length c' < n
put_small n p x c c' put small near = grind (arith, common_steps, put_form p c x, length-before p c, length-append, length-drop)

-- bytes over as many first ones of those that were put
pub put_first : (p : ℕ) (x y z c mid c' : List ℕ) → 0 < length x → length x ≡ length y → IsPutAt p (x ++ z) c mid → IsPutAt p y mid c'
    → IsPutAt p (y ++ z) c c'
put_first p x y z c mid c' some long first next =
    grind (arith, common_steps, put_over p c (x ++ z) y, put_form p c (y ++ z), append_assoc, drop-append_seam, length-append)

-- what is before a place behind some bytes
before_behind : (a b : List ℕ) (q : ℕ) → length a ≤ q → bytes_before q (a ++ b) ≡ a ++ bytes_before (q - length a) b
before_behind a b q behind = grind (arith, common_steps, take-append-add a b (q - length a), length-append a b, append_assoc)

-- what was put behind other bytes leaves them there
pub put_apart : (p q : ℕ) (x y c mid c' : List ℕ) → p + length x ≤ q → IsPutAt p x c mid → IsPutAt q y mid c' → StandsAt p x c'
put_apart p q x y c mid c' apart first next =
    let form = put_form p c x in
    let before = before_behind (bytes_before p c ++ x) (drop (p + length x) c) q in
    grind (arith, common_steps, form, length-before p c, put_form q mid y, before, append_assoc, drop-append_seam, take-append_seam)

-- of a result that is `Ok` more is known
pub ok_then : {A B : Type 0} (reply : Result (Unit {0}) Error) → (A → B) → OnOk reply A → OnOk reply B
ok_then (Ok u) f did = f did
ok_then (Err e) f did = tt

-- From a content and a place that fit, a call kept the content, and this holds.
abbrev pub Keeps : List ℕ → ℕ → List ℕ → Type 0 → Type 0
Keeps c p c' P = length c < 2 ^ 64 → p < 2 ^ 64 → (c' ≡ c) × P

module _ {W : Type 0} (S : Seeker W) (content : W → List ℕ) (place : W → ℕ) (tells : TellsStore S content place) {old new : W} where
  -- a `stream_position`
  pub stood : {n : ℕ} → StreamPositionLaw S old (Ok n) new
      → Keeps (content old) (place old) (content new) ((place new ≡ place old) × (n ≡ place old))
  stood law small near = grind (arith, common_steps, fits_at, tells old, tells new)

  -- a seek to a place
  pub sought : {at n : ℕ} → SeekLaw S old (Start at) (Ok n) new → Keeps (content old) (place old) (content new) (place new ≡ at)
  sought law small near = grind (arith, common_steps, fits_at, tells old, tells new)

  -- what a `read_exact_at` gives
  pub read_told : {R : Reader W} {at : ℕ} {buf buf' : List ℕ} {reply : Result (Unit {0}) Error}
      → ReadAtLaw S R old (Start at) buf reply buf' new → OnOk reply (Keeps (content old) (place old) (content new)
      ((buf' ≡ take (length buf') (drop at (content old))) × (place new ≡ at + length buf')))
  read_told {reply = Ok u} law = λ small near. grind (arith, common_steps, fits_at, tells old, tells new)
  read_told {reply = Err e} law = tt

-- a `write_all`
pub all_puts : {W : Type 0} (I : Writer W) (content : W → List ℕ) (place : W → ℕ) → PutsAt I content place → {old new : W} {x : List ℕ}
    {reply : Result (Unit {0}) Error} → WriteAllOf I old x reply new
    → OnOk reply (HasPut (content old) (place old) x (content new) (place new))
all_puts I content place puts {reply = Err e} law = tt
all_puts I content place puts {old = old} {new = new} {x = x} {reply = Ok u} law =
    let did = passed_all I content place puts x [] [] (Ok tt) old new refl refl law.calls.are law.calls.made in
    grind (arith, common_steps, did)

-- a write, a seek behind it, and a write
pub apart_stands : (a b d e x y : List ℕ) (pa pb pd pe at : ℕ) → HasRoom a pa (length x) → pa + length x ≤ at → HasPut a pa x b pb
    → Keeps b pb d (pd ≡ at) → HasPut d pd y e pe → StandsAt pa x e × StandsAt at y e
apart_stands a b d e x y pa pb pd pe at room behind first seek second =
    grind (arith, common_steps, put_small (2 ^ 64), put_apart, put_stands)

-- a write, and a read of what it put
pub comes_back : (a b d e x buf : List ℕ) (pa pb pd pe at : ℕ) → HasRoom a pa (length x) → length buf ≡ length x
    → Keeps a pa b ((pb ≡ pa) × (at ≡ pa)) → HasPut b pb x d pd
    → Keeps d pd e ((buf ≡ take (length buf) (drop at d)) × (pe ≡ at + length buf)) → (buf ≡ x) × HasPut a pa x e pe
comes_back a b d e x buf pa pb pd pe at room long first put read = grind (arith, common_steps, put_small (2 ^ 64), put_stands)

-- zeros and bytes behind them, and then a head over the zeros
pub patches : (a b d e f g h i zeros head said x : List ℕ) (pa pb pd pe pf pg ph pi at end : ℕ) → length zeros ≡ 4 → length head ≡ 4
    → said ≡ head → HasRoom a pa (4 + length x) → Keeps a pa b ((pb ≡ pa) × (at ≡ pa)) → HasPut b pb zeros d pd → HasPut d pd x e pe
    → Keeps e pe f ((pf ≡ pe) × (end ≡ pe)) → Keeps f pf g (pg ≡ at) → HasPut g pg said h ph → Keeps h ph i (pi ≡ end)
    → HasPut a pa (head ++ x) i pi
patches a b d e f g h i zeros head said x pa pb pd pe pf pg ph pi at end four as_many same room first put_zeros put_x second back put over =
    let both = then_puts b d e pb pd pe zeros x put_zeros put_x in
    let small = put_small (2 ^ 64) pa (zeros ++ x) a e in
    grind (arith, common_steps, both, small, put_small (2 ^ 64) pa head e h, put_first pa zeros head x a e h)

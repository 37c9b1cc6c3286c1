-- Writers that put their bytes into a content, at a place.
use Rattle.std.specs.{Prelude.{◌≡◌, ◌⊎◌, ℕ, ◌+◌, ◌≤◌, List, [], ◌∷◌, length, take, Ok, Err}, declared.vec.Vec.{Vec}}
use Rattle.no_std_io2.specs.{declared.io.{Error.{Error}, Cursor.{Cursor}}, Calls.{WriteCall, Wrote, WroteAll, Flushed}, Writers.{Writer}}
use Rattle.no_std_io2.specs.{inner.{Cursor.{put_at}, Writers.{CallOf}}, Cursor.{cursor_inner}}

-- A content became another: x was put at a place, with zeros before it if the content ended before the place. An x of no byte may leave
-- all as it was.
abbrev pub IsPutAt : ℕ → List ℕ → List ℕ → List ℕ → Type 0
IsPutAt place x old new = (new ≡ put_at place x old) ⊎ ((x ≡ []) × (new ≡ old))

-- What one call does to a content and a place. The bytes that it accepted are put at the place, which moves behind them. A call that
-- fails may leave more bytes of x there, behind the place, as a power cut does.
abbrev pub PutsCall : List ℕ → ℕ → WriteCall → List ℕ → ℕ → Type 0
PutsCall content place (Wrote x (Ok n)) content' place' = IsPutAt place (take n x) content content' × (place' ≡ place + n)
PutsCall content place (Wrote x (Err e)) content' place' = ((n : ℕ) × IsPutAt place (take n x) content content') × (place' ≡ place)
PutsCall content place (WroteAll x (Ok u)) content' place' = IsPutAt place x content content' × (place' ≡ place + length x)
PutsCall content place (WroteAll x (Err e)) content' place' =
    (n : ℕ) × (m : ℕ) × (n ≤ m) × IsPutAt place (take m x) content content' × (place' ≡ place + n)
PutsCall content place (Flushed reply) content' place' = (content' ≡ content) × (place' ≡ place)

-- Each call of this writer does so to this content and this place of it.
abbrev pub PutsAt : {W : Type 0} → Writer W → (W → List ℕ) → (W → ℕ) → Type 0
PutsAt {W} I content place = (old new : W) (call : WriteCall) → CallOf I old call new
    → PutsCall (content old) (place old) call (content new) (place new)

-- a `write_all` of this writer that fails goes no further than its bytes
abbrev pub GoesNoFurther : {W : Type 0} → Writer W → (W → ℕ) → Type 0
GoesNoFurther {W} I place =
    (old new : W) (x : List ℕ) (e : Error) → CallOf I old (WroteAll x (Err e)) new → place new ≤ place old + length x

-- the content of a cursor over a vector
abbrev pub vector_content : {A : Type 0} → Cursor (Vec ℕ A) → List ℕ
vector_content c = (cursor_inner c).items

-- a content once the bytes that a buffer holds are put at a place of it
abbrev pub held_over : List ℕ → ℕ → List ℕ → List ℕ
held_over content place [] = content
held_over content place (b ∷ held) = put_at place (b ∷ held) content

-- the content of a writer B with a buffer, by that of its inner writer: with the held bytes at their place
abbrev pub content_through : {W B : Type 0} → (B → W) → (B → List ℕ) → (W → List ℕ) → (W → ℕ) → B → List ℕ
content_through inner buffer content place b = held_over (content (inner b)) (place (inner b)) (buffer b)

-- and its place, which is behind them
abbrev pub place_through : {W B : Type 0} → (B → W) → (B → List ℕ) → (W → ℕ) → B → ℕ
place_through inner buffer place b = place (inner b) + length (buffer b)

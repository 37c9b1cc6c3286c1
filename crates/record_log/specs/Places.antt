-- What is at a place, and what a stream tells of it.
use Rattle.std.specs.Prelude.{◌≡◌, ℕ, ◌+◌, ◌<◌, ◌^◌, List, length, take, drop}
use Rattle.no_std_io2.specs.{Seek.{Seeker}, Takes.{store_at}}
use Rattle.record_log.specs.Placed.{IsPutAt}

-- this seeker tells this content and this place of it as its store, if both fit
abbrev pub TellsStore : {W : Type 0} → Seeker W → (W → List ℕ) → (W → ℕ) → Type 0
TellsStore {W} S content place = (w : W) → S.store w ≡ store_at (content w) (place w)

-- a content fits, and n bytes at a place of it do
abbrev pub HasRoom : List ℕ → ℕ → ℕ → Type 0
HasRoom content place n = (length content < 2 ^ 64) × (place + n < 2 ^ 64)

-- x was put at a place of a content, and the place is then behind it
abbrev pub HasPut : List ℕ → ℕ → List ℕ → List ℕ → ℕ → Type 0
HasPut content place x content' place' = IsPutAt place x content content' × (place' ≡ place + length x)

-- a content has x at a place
abbrev pub StandsAt : ℕ → List ℕ → List ℕ → Type 0
StandsAt place x content = take (length x) (drop place content) ≡ x

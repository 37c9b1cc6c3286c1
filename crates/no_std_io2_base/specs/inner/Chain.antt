-- The two readers of a `Chain`, its mark, what it tells, and what its calls do.
use Rattle.std.specs.Prelude.{◌≡◌, ℕ, ◌<◌, true, false, Bool, List, [], ◌++◌, if◌then◌else◌, Option, None, Some, Ok, IsErr}
use Rattle.no_std_io2_base.specs.{declared.traits.chain.Chain.{Chain}, Events.{Event}, Takes.{ReaderState, to_come, IsAtEnd, Reader, tells}}
use Rattle.no_std_io2_base.specs.{Calls.{ReadCall, Gave, GaveExactly, GaveAll, Filled, Consumed, ByCalls}, Read.{ReadCallLaw}}
use Rattle.no_std_io2_base.specs.inner.Read.{ToEndCalls}

-- `c.into_inner().0`
abbrev pub chain_first : {T U : Type 0} → Chain T U → T
chain_first c = c.first

-- `c.into_inner().1`
abbrev pub chain_second : {T U : Type 0} → Chain T U → U
chain_second c = c.second

-- the chain c, with other readers and the same mark
abbrev pub chain_with_readers : {T U : Type 0} → Chain T U → T → U → Chain T U
chain_with_readers c x y = record c { first = x; second = y }

-- whether the first reader is done: it was read to its end, and is not read any more
abbrev pub chain_is_done : {T U : Type 0} → Chain T U → Bool
chain_is_done c = c.done_first

-- the events of both, if both are told
abbrev pub both_to_come : Option (List Event) → Option (List Event) → Option (List Event)
both_to_come None F = None
both_to_come (Some E) None = None
both_to_come (Some E) (Some F) = Some (E ++ F)

-- the events of both readers, or, once the first is done, those of the second
abbrev chain_to_come : Bool → ReaderState → ReaderState → Option (List Event)
chain_to_come true first second = to_come second
chain_to_come false first second = both_to_come (to_come first) (to_come second)

-- the events of a chain of readers that tell this
abbrev pub chain_events : {T U : Type 0} → (T → ReaderState) → (U → ReaderState) → Chain T U → Option (List Event)
chain_events first second c = chain_to_come c.done_first (first c.first) (second c.second)

-- the bytes that the current reader holds
abbrev pub chain_held : {T U : Type 0} → (T → List ℕ) → (U → List ℕ) → Chain T U → List ℕ
chain_held first second c = if c.done_first then second c.second else first c.first

-- a call uses one reader after the other: it does not touch the first once it is done, nor the second before that
pub record InTurn {T U : Type 0} (was now : Chain T U) : Type 0 where
  pub stays_done : was.done_first ≡ true → now.done_first ≡ true
  pub first_alone : was.done_first ≡ true → now.first ≡ was.first
  pub second_alone : now.done_first ≡ false → now.second ≡ was.second

-- The readers that a call of a chain used.
pub data InParts {T U : Type 0} (of_first ends_first : T → T → Type 0) (of_second : U → U → Type 0) (old new : Chain T U) : Type 0 where
  -- only the first reader, which is not done
  by_first : chain_is_done old ≡ false → new ≡ record old { first = chain_first new } → of_first (chain_first old) (chain_first new)
      → InParts of_first ends_first of_second old new
  -- both: the first was not done, and is from now on, and the same call is one of the second
  by_both : chain_is_done old ≡ false → chain_is_done new ≡ true → ends_first (chain_first old) (chain_first new)
      → of_second (chain_second old) (chain_second new) → InParts of_first ends_first of_second old new
  -- only the second reader: the first is done
  by_second : chain_is_done old ≡ true → new ≡ record old { second = chain_second new } → of_second (chain_second old) (chain_second new)
      → InParts of_first ends_first of_second old new

-- What a call may do to a chain. The first reader is done after a `read` into some room that gives nothing, after a `fill_buf` that lends
-- nothing, and after a `read_to_end`, which gives y; the second reader then gives z.
abbrev pub ChainMay : {T U : Type 0} → Reader T → Reader U → Chain T U → ReadCall → Chain T U → Type 0
ChainMay R S old (Gave room answer) new = InParts (λ a b. ReadCallLaw R a (Gave room answer) b × (0 < room → answer ≡ Ok [] → ⊥))
    (λ a b. (0 < room) × ReadCallLaw R a (Gave room (Ok [])) b) (λ a b. ReadCallLaw S a (Gave room answer) b) old new
ChainMay R S old (GaveAll x answer) new = (y : List ℕ) × (z : List ℕ) × (x ≡ y ++ z) × (chain_is_done old ≡ true → y ≡ [])
    × InParts (λ a b. IsErr answer × ByCalls (ReadCallLaw R) a (λ C. ToEndCalls C x answer) b)
    (λ a b. ByCalls (ReadCallLaw R) a (λ C. ToEndCalls C y (Ok tt)) b)
    (λ a b. ByCalls (ReadCallLaw S) a (λ C. ToEndCalls C z answer) b) old new
ChainMay R S old (Filled answer) new = InParts (λ a b. ReadCallLaw R a (Filled answer) b × (answer ≡ Ok [] → ⊥))
    (λ a b. ReadCallLaw R a (Filled (Ok [])) b × IsAtEnd (tells R a)) (λ a b. ReadCallLaw S a (Filled answer) b) old new
ChainMay R S old (Consumed n) new =
    InParts (λ a b. ReadCallLaw R a (Consumed n) b) (λ a b. ⊥) (λ a b. ReadCallLaw S a (Consumed n) b) old new
ChainMay R S old (GaveExactly room answer) new = ⊥

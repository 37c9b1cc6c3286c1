-- The items that a call appends to a list.
use Rattle.std.specs.Prelude.{List, length, drop}

-- the items after the old ones
abbrev pub appended : {X : Type 0} → List X → List X → List X
appended old new = drop (length old) new

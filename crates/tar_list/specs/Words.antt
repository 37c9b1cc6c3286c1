-- The arguments that each command has.
use Rattle.std.specs.{Prelude.{◌≡◌, ◌≤◌, length, List, [], ◌∷◌, String}, Global.{Global}}
use Rattle.tar_list.specs.declared.Command.{Command, TheVariants.{List as Listed, Copy}}

-- the arguments ask for this: they are at most the program's name, or that and the name of a member
abbrev pub Asks : Command → List (String Global) → Type 0
Asks Listed words = length words ≤ 1
Asks (Copy name) words = (program : String Global) × (words ≡ program ∷ name ∷ [])

-- The arguments that each command has.
use Rattle.std.specs.{Prelude.{◌≡◌, ◌≤◌, length, List, ◌∷◌, String}, Global.{Global}}
use Rattle.frame_lines.specs.declared.Command.{Command, TheVariants.{Print, Word}}

-- The arguments ask for this. Behind the program's name no word stands; or this word does, and others may follow.
abbrev pub AsksFor : Command → List (String Global) → Type 0
AsksFor Print words = length words ≤ 1
AsksFor (Word word) words = (program : String Global) × (others : List (String Global)) × (words ≡ program ∷ word ∷ others)

-- The arguments that name each command.
use Rattle.std.specs.Prelude.{◌≡◌, ◌≢◌, ℕ, codes, List, [], ◌∷◌, true, false, Option, Some, None, Result, Ok, Err, String, string_bytes}
use Rattle.std.specs.Global.{Global}
use Rattle.no_std_io2.specs.{declared.io.Error.{Error}, Errors.{IsOutOfMemory}}
use Rattle.iotower.specs.declared.Command.{Command, TheVariants.{Copy, Play}}
use Rattle.tower_play.specs.declared.playing.{Fault.{Fault, TheVariants.{Io as io_fault}}, Shape.TheVariants.{Buf, Line, BufBuf, LineBuf}}
use Rattle.std.specs.IoError as Io
use Rattle.std.specs.declared.io.Error as Std
use Rattle.std.specs.declared.io.ErrorKind.TheVariants as kind

-- the first word
abbrev pub verb_of : Command → List ℕ
verb_of (Copy line) = codes "copy"
verb_of (Play shape) = codes "play"

-- the second word
abbrev pub mode_of : Command → List ℕ
mode_of (Copy false) = codes "buf"
mode_of (Copy true) = codes "line"
mode_of (Play Buf) = codes "buf"
mode_of (Play Line) = codes "line"
mode_of (Play BufBuf) = codes "buf-buf"
mode_of (Play LineBuf) = codes "line-buf"

-- the arguments are the program's name and these two words
abbrev pub AreWords : {X : Type 0} → List X → X → X → Type 0
AreWords {X = X} words verb mode = (program : X) × (words ≡ program ∷ verb ∷ mode ∷ [])

-- the arguments are the program's name and the two words of this command
abbrev pub NamesCommand : Command → List (String Global) → Type 0
NamesCommand command words = (verb : String Global) × (mode : String Global) × AreWords words verb mode
    × (string_bytes verb ≡ verb_of command) × (string_bytes mode ≡ mode_of command)

-- What arguments that were found ask for: a command, if they name one. If they did not fit in memory, that is a fault; if they were not
-- found for another reason, such as one that is not UTF-8, they name none.
abbrev pub AsksOf : {T : Type 0} → (T → List (String Global)) → Result T Std.Error → Result (Option Command) Fault → Type 0
AsksOf words (Ok found) (Ok (Some command)) = NamesCommand command (words found)
AsksOf words (Ok found) (Ok None) = (command : Command) → NamesCommand command (words found) → ⊥
AsksOf words (Ok found) (Err fault) = ⊥
AsksOf words (Err e) (Ok (Some command)) = ⊥
AsksOf words (Err e) (Ok None) = Io.error_kind e ≢ kind.OutOfMemory
AsksOf words (Err e) (Err fault) =
    (Io.error_kind e ≡ kind.OutOfMemory) × ((refused : Error) × (fault ≡ io_fault refused) × IsOutOfMemory refused)

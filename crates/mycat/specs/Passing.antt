-- How one file is written to standard output.
use Rattle.std.specs.Prelude.{◌≡◌, ◌≢◌, ◌⊎◌, ℕ, List, codes, Option, Result, Ok, Err}
use Rattle.std.specs.declared.io.Error as Std
use Rattle.no_std_io2.specs.{Takes.{Reader}, Writers.{Writer}, Copy.{SidesCopied}}
use Rattle.no_std_io2.specs.declared.util.sides.CopyError.{CopyError, TheVariants.{Read, Write}}
use Rattle.cli.specs.{declared.files.FileFault.{FileFault, TheVariants.{File, Output}}, About.{TellsLine}}
use Rattle.system_streams.specs.{declared.patient.Patient.{Patient}, Patient.{IsFresh}}

-- whose fault a copy's result was: after the file's own the next one may follow, after one of the output none
abbrev pub Blames : Result ℕ CopyError → Result (Unit {0}) (FileFault Std.Error) → Type 0
Blames (Ok n) reply = reply ≡ Ok tt
Blames (Err (Read e)) reply = (why : Std.Error) × (reply ≡ Err (File why))
Blames (Err (Write e)) reply = (why : Std.Error) × (reply ≡ Err (Output why))

-- A stream was copied to standard output, through a buffer of `room` bytes. K are the ghost members of the stream, I those of the output.
pub record PassesStream {X W : Type 0} (K : Reader X) (I : Writer W) (room : ℕ) (from : X) (old : W)
    (reply : Result (Unit {0}) (FileFault Std.Error))
    (to : X) (new : W) : Type 0 where
  pub copied : Result ℕ CopyError
  pub copies : SidesCopied K I room from old copied to new
  pub blames : Blames copied reply

-- a stream that was just opened was copied
abbrev PassesFresh : {D W : Type 0} → Reader (Patient D) → Writer W → ℕ → W → Result (Unit {0}) (FileFault Std.Error) → W → Type 0
PassesFresh {D = D} K I room old reply new = (from to : Patient D) × IsFresh from × PassesStream K I room from old reply to new

-- The file of this name was written, or standard input if the name is `-`. If the file could not be opened, the output got no call.
abbrev pub WritesFile : {D F W : Type 0} → Reader (Patient D) → Reader (Patient F) → Writer W → ℕ → List ℕ → W
    → Result (Unit {0}) (FileFault Std.Error) → W → Type 0
WritesFile stdin file I room name old reply new = ((name ≡ codes "-") × PassesFresh stdin I room old reply new)
    ⊎ ((name ≢ codes "-") × (PassesFresh file I room old reply new ⊎ (((why : Std.Error) × (reply ≡ Err (File why))) × (new ≡ old))))

-- a line was handed to standard error
abbrev pub TellsSome : {R : Type 0} → (R → Option (List ℕ) → Result (Unit {0}) Std.Error → Type 0) → R → Type 0
TellsSome may rt = (text : Option (List ℕ)) × TellsLine may rt text

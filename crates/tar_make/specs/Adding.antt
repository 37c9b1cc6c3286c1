-- How a member is added to the archive on standard output, and what is told of it. K are the ghost members of the reader of a file's bytes,
-- and I those of the output.
use Rattle.std.specs.{Prelude.{◌≡◌, ◌⊎◌, ℕ, Bool, List, [], ◌∷◌, codes, decimal, Option, Some, Result, Ok, Err, bit_and}, Fmt.{◌++?◌}}
use Rattle.std.specs.Fs.{metadata_mode, file_type, IsSymlink}
use Rattle.no_std_io2.specs.{declared.io.{BufWriter.{BufWriter}, Error.{Error}}, Takes.{Reader}, Writers.{Writer}}
use Rattle.no_std_io2.specs.declared.util.sides.CopyError.{CopyError, TheVariants.{Read, Write}}
use Rattle.cli.specs.{declared.{files.FileFault.{FileFault, TheVariants.{File, Output}}, reason.Reason.{Reason}}, Reasons.{IsReason}}
use Rattle.system_streams.specs.{declared.patient.Patient.{Patient}, Patient.{IsFresh, patient_error}}
use Rattle.tar.specs.{declared.header.Kind.{Kind, TheVariants.{Symlink}}, Builders.{AppendsHeader, Finishes, builder_inner}}
use Rattle.tar.specs.{Says.{IsHeaderOf}, Sides.{AppendsFilled}, declared.{write.Builder.{Builder}, header_block.HeaderBlock.{HeaderBlock}}}
use Rattle.tar.specs.declared.header_block.Metadata.{Metadata}
use Rattle.std.specs.declared.fs.attrs.Metadata as Found

-- what a try of a member returned
abbrev Tried : Type 0
Tried = Result (Unit {0}) (FileFault Reason)

-- the line that is told of a member of this name
abbrev pub member_fault : List ℕ → Option (List ℕ) → Option (List ℕ)
member_fault name text = Some (codes "tar_make: ") ++? Some name ++? Some (codes ": ") ++? text

-- the text that is told of a run in which so many files are done. A carriage return ends it, so that the next line overwrites it
abbrev pub progress_text : ℕ → ℕ → Option (List ℕ)
progress_text done all =
    Some (codes "tar_make: ") ++? Some (decimal done) ++? Some (codes " of ") ++? Some (decimal all) ++? Some (13 ∷ [])

-- the output failed by this error, and the reason is that of its device, if that failed
abbrev pub BlamesOutput : {D : Type 0} {S : ℕ} → Error → Tried → Builder (Patient D) S → Type 0
BlamesOutput e reply archive = (why : Reason) × (reply ≡ Err (Output why)) × IsReason (patient_error (builder_inner archive)) e why

-- After a fault of the output no member may follow. After any other fault, for the reason of the file, the next one may.
abbrev pub BlamesMember : {D E : Type 0} {S : ℕ} → Result (Unit {0}) CopyError → Tried → Patient D → Builder (Patient E) S
    → Type 0
BlamesMember (Ok u) reply body archive = reply ≡ Ok tt
BlamesMember (Err (Read e)) reply body archive =
    (why : Reason) × (reply ≡ Err (File why)) × IsReason (patient_error body) e why
BlamesMember (Err (Write e)) reply body archive = BlamesOutput e reply archive

-- The bytes of a file were appended, and zeros for those that it lacks.
pub record AddsBody {D E : Type 0} {S : ℕ} (K : Reader (Patient D)) (I : Writer (Patient E))
    (from : Patient D) (old : Builder (Patient E) S) (reply : Tried) (to : Patient D)
    (new : Builder (Patient E) S) : Type 0 where
  pub filled : Result (Unit {0}) CopyError
  pub appends : AppendsFilled K I from old filled to new
  pub blames : BlamesMember filled reply to new

-- a header was appended, or the output failed
abbrev pub AddsHeader : {E : Type 0} {S : ℕ} → Writer (Patient E) → HeaderBlock → Builder (Patient E) S → Tried → Builder (Patient E) S
    → Type 0
AddsHeader I h old reply new = ((reply ≡ Ok tt) × AppendsHeader I h old (Ok tt) new)
    ⊎ ((e : Error) × BlamesOutput e reply new × AppendsHeader I h old (Err e) new)

-- A header was appended, and then the bytes of a file. If the header was not, no byte of the file was read.
abbrev pub AddsFile : {D E : Type 0} {S : ℕ} → Reader (Patient D) → Writer (Patient E) → HeaderBlock
    → Patient D → Builder (Patient E) S → Tried → Patient D → Builder (Patient E) S → Type 0
AddsFile {E = E} {S = S} K I h from old reply to new =
    ((mid : Builder (Patient E) S) × AppendsHeader I h old (Ok tt) mid × AddsBody K I from mid reply to new)
    ⊎ ((e : Error) × BlamesOutput e reply new × AppendsHeader I h old (Err e) new × (to ≡ from))

-- The header is of a member of this name, of which the system said this: it has the twelve bits of its mode, and a link stays one.
abbrev pub IsHeaderFor : List ℕ → Found.Metadata → HeaderBlock → Type 0
IsHeaderFor name found h = (kind : Kind) × (target : List ℕ) × (size : ℕ) × (m : Metadata) × IsHeaderOf kind name target size m h
    × (m.mode ≡ bit_and (metadata_mode found) 0o7777) × (IsSymlink (file_type found) → kind ≡ Symlink)

-- A member of this name was added: a header alone, or a file. Or it was left out, and the archive is as it was.
abbrev pub AddsMember : {D E : Type 0} {S : ℕ} → Reader (Patient D) → Writer (Patient E) → List ℕ → Builder (Patient E) S
    → Tried → Builder (Patient E) S → Type 0
AddsMember {D = D} K I name old reply new = (((why : Reason) × (reply ≡ Err (File why))) × (new ≡ old))
    ⊎ ((h : HeaderBlock) × (found : Found.Metadata) × IsHeaderFor name found h × (AddsHeader I h old reply new
    ⊎ ((from : Patient D) × (to : Patient D) × IsFresh from × AddsFile K I h from old reply to new)))

-- How the archive was ended, after the members were tried with this result: unless the output had failed, `finish` was called. F are the
-- ghost members of the buffer in front of the output.
abbrev pub EndsAll : {E : Type 0} {S : ℕ} → Writer (BufWriter (Patient E) S) → Writer (Patient E) → Result Bool Reason
    → Builder (Patient E) S → Result Bool Reason → Builder (Patient E) S → Type 0
EndsAll F I (Ok whole) old reply new = ((reply ≡ Ok whole) × Finishes F I old (Ok tt) new)
    ⊎ ((e : Error) × (why : Reason) × (reply ≡ Err why) × IsReason (patient_error (builder_inner new)) e why × Finishes F I old (Err e) new)
EndsAll F I (Err why) old reply new = (reply ≡ Err why) × (new ≡ old)

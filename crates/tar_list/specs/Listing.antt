-- What a list of an archive prints.
use Rattle.std.specs.Prelude.{◌≡◌, ◌≢◌, ◌⊎◌, ◌<◌, List, ℕ, [], ◌++◌, ⊤, codes, decimal, map, Option, Some, None, Result, Ok, Err, OnOk}
use Rattle.std.specs.{Prelude.{IsErr, IsErrAnd}, List.{concat}}
use Rattle.no_std_io2.specs.{Errors.{SaysError, IsTextError}, declared.io.{Error.{Error}, ErrorKind.{ErrorKind}}}
use Rattle.no_std_io2.specs.{declared.io.ErrorKind.TheVariants.{InvalidInput, NotFound, UnexpectedEof}, Takes.{Reader}, Copy.{Copied}}
use Rattle.no_std_io2.specs.{Writers.{Writer, FlushOf}, declared.io.Take.{Take}, Moves.{WriterState, Moves, MovesFront, call_mishap}}
use Rattle.tar.specs.{declared.{read.Archive.{Archive}, header.{Header.{Header}, Kind.TheVariants.{Directory}}}, Archives.{member_of}}
use Rattle.tar.specs.{Archives.{with_member, left_of_member}, Headers.{member_length}, Members.{ComesTo, FindHeaderLaw}}
use Rattle.tar.specs.Blocks.{name_bytes}
use Rattle.tar_list.specs.declared.CopyFault.{CopyFault, TheVariants.{Member, Stream}}

-- the line of a member: its size and its name
abbrev pub member_line : Header → List ℕ
member_line h = (decimal (member_length h) ++ codes " ") ++ (name_bytes h.name ++ codes "\n")

-- the lines of these members, joined
abbrev pub member_lines : List Header → List ℕ
member_lines headers = concat (map member_line headers)

-- The line of a member was printed: some front of it was accepted, all of it after `Ok`. Or the error says that a formatter failed.
abbrev pub PrintsMember : Header → WriterState → Result (Unit {0}) Error → WriterState → Type 0
PrintsMember h old reply new = MovesFront old (member_line h) reply new ⊎ IsErrAnd reply IsTextError

-- How a list ended, by the last `next`, after these lines were printed. At the end of the archive the writer was flushed, and holds nothing
-- after `Ok`. At a header the printing of its line failed. At an error of the archive, that is the error of the list.
abbrev pub ListEnds : List ℕ → Result (Option Header) Error → WriterState → Result (Unit {0}) Error → WriterState → Type 0
ListEnds lines (Ok None) old reply new = Moves old lines (call_mishap reply) new × OnOk reply (new.held ≡ [])
ListEnds lines (Ok (Some h)) old reply new = IsErr reply × ((mid : WriterState) × Moves old lines [] mid × PrintsMember h mid reply new)
ListEnds lines (Err e) old reply new = (reply ≡ Err e) × Moves old lines [] new

-- The members of an archive were listed.
pub record Lists {X : Type 0} (R : Reader X) (old : Archive X) (was : WriterState) (reply : Result (Unit {0}) Error) (new : Archive X)
    (told : WriterState) : Type 0 where
  -- the members whose lines were printed
  pub headers : List Header
  -- what the last `next` returned
  pub last : Result (Option Header) Error
  pub comes : ComesTo (λ others. others ≡ headers) (λ h. ⊤) R old last new
  pub prints : ListEnds (member_lines headers) last was reply told

-- a copy failed by an error of this kind and text, about the member
abbrev pub IsMemberFault : ErrorKind → List ℕ → Result (Unit {0}) CopyFault → Type 0
IsMemberFault kind text reply = (e : Error) × (reply ≡ Err (Member e)) × SaysError kind text e

-- the same result, whose error is one of the streams
abbrev pub IsStreamFault : Result (Unit {0}) Error → Result (Unit {0}) CopyFault → Type 0
IsStreamFault (Ok u) reply = reply ≡ Ok tt
IsStreamFault (Err e) reply = reply ≡ Err (Stream e)

-- how a copy of a member's bytes ended, after this result of `copy`, with so many bytes left: its error; or the writer was flushed; or the
-- archive ended inside the member
abbrev pub BytesEnd : {W : Type 0} → Writer W → Result ℕ Error → ℕ → W → Result (Unit {0}) CopyFault → W → Type 0
BytesEnd I (Err e) left out reply now = (reply ≡ Err (Stream e)) × (now ≡ out)
BytesEnd I (Ok n) left out reply now =
    ((left ≡ 0) × ((flushed : Result (Unit {0}) Error) × FlushOf I out flushed now × IsStreamFault flushed reply))
    ⊎ ((0 < left) × IsMemberFault UnexpectedEof (codes "the archive ends inside a member") reply × (now ≡ out))

-- The bytes of the member that was found were copied, until all were, or a fault came, or the archive ended.
pub record CopiesBytes {X W : Type 0} (K : Reader (Take X)) (I : Writer W) (mid : Archive X) (was : W) (reply : Result (Unit {0}) CopyFault)
    (new : Archive X) (now : W) : Type 0 where
  pub copied : Result ℕ Error
  pub out : W
  pub copies : Copied K I 65536 (member_of mid) was copied (member_of new) out
  pub rest : new ≡ with_member mid (member_of new)
  pub ends : BytesEnd I copied (left_of_member new) out reply now

-- no byte was copied: the archive and the writer are as they were
abbrev pub CopiesNone : {X W : Type 0} → Archive X → W → Archive X → W → Type 0
CopiesNone mid was new now = (new ≡ mid) × (now ≡ was)

-- how `copy_member` ended, by what `find` returned: that error; no member has this name; or it is a directory, or its bytes were copied
abbrev pub MemberEnds : {X W : Type 0} → Reader (Take X) → Writer W → Result (Option Header) Error → Archive X → W
    → Result (Unit {0}) CopyFault → Archive X → W → Type 0
MemberEnds K I (Err e) mid was reply new now = (reply ≡ Err (Stream e)) × CopiesNone mid was new now
MemberEnds K I (Ok None) mid was reply new now =
    IsMemberFault NotFound (codes "no member has this name") reply × CopiesNone mid was new now
MemberEnds K I (Ok (Some h)) mid was reply new now =
    ((h.kind ≡ Directory) × IsMemberFault InvalidInput (codes "this member is a directory") reply × CopiesNone mid was new now)
    ⊎ ((h.kind ≢ Directory) × CopiesBytes K I mid was reply new now)

-- `copy_member`: a `find`, and what followed. K are the ghost members of the reader of a member's bytes.
pub record CopiesMember {X W : Type 0} (R : Reader X) (K : Reader (Take X)) (I : Writer W) (name : List ℕ) (old : Archive X) (was : W)
    (reply : Result (Unit {0}) CopyFault) (new : Archive X) (now : W) : Type 0 where
  pub found : Result (Option Header) Error
  pub mid : Archive X
  pub finds : FindHeaderLaw R old name found mid
  pub ends : MemberEnds K I found mid was reply new now

-- What the copies do.
use Rattle.std.specs.Prelude.{◌≡◌, ℕ, List, [], ◌∷◌, Ok, Err, Result}
use Rattle.no_std_io2_base.specs.{declared.error.Error.{Error}, Events.{Event}, Takes.{Takes, Reader, tells}}
use Rattle.no_std_io2_base.specs.{Calls.{Gave, ReadCall, WriteCall, Made}, Writers.{Writer, TakesAll}, Read.{ReadCallLaw}}
use Rattle.no_std_io2_base.specs.inner.Writers.{CallOf}
use Rattle.no_std_io2.specs.{declared.util.sides.CopyError.{CopyError}, declared.util.sides.CopyError.TheVariants.{Read, Write}}
use Rattle.no_std_io2.specs.inner.Copy.{CopyEnds, HandsOn, without_side, HandsLent, LentEnds}

-- The calls of such a copy: it passed on all that it read, up to the read that met the end or returned the reader's error, or up to the
-- piece whose `write_all` failed.
abbrev CopyHands : {R W : Type 0} → Reader R → Writer W → ℕ → R → W → Result ℕ CopyError → R → W → Type 0
CopyHands K I S from old (Ok n) from' new = HandsOn K I S (Gave S (Ok []) ∷ []) from old (Ok tt) from' new
CopyHands K I S from old (Err (Read e)) from' new = HandsOn K I S (Gave S (Err e) ∷ []) from old (Ok tt) from' new
CopyHands K I S from old (Err (Write e)) from' new = HandsOn K I S [] from old (Err e) from' new

-- `copy_sided` through a buffer of S bytes
pub record SidesCopied {R W : Type 0} (K : Reader R) (I : Writer W) (S : ℕ) (from : R) (old : W) (reply : Result ℕ CopyError) (from' : R)
    (new : W) : Type 0 where
  -- what it takes from the reader
  pub taken : List Event
  pub takes : Takes (tells K from) taken (tells K from')
  -- how it ended, and what the writer accepted
  pub ends : CopyEnds S reply taken (tells K from') (I.told old) (I.told new)
  -- a writer that takes all still takes all
  pub all : TakesAll I old → TakesAll I new
  -- which calls it made
  pub calls : CopyHands K I S from old reply from' new

-- `copy`: a `copy_sided`, whose error it returns without the side
abbrev pub Copied : {R W : Type 0} → Reader R → Writer W → ℕ → R → W → Result ℕ Error → R → W → Type 0
Copied K I S from old reply from' new =
    (sided : Result ℕ CopyError) × (reply ≡ without_side sided) × SidesCopied K I S from old sided from' new

-- `copy_lent`
pub record LentCopied {R W : Type 0} (K : Reader R) (I : Writer W) (from : R) (old : W) (reply : Result ℕ CopyError) (from' : R) (new : W)
    : Type 0 where
  -- what it takes from the reader
  pub taken : List Event
  pub takes : Takes (tells K from) taken (tells K from')
  -- how it ended, and what the writer accepted
  pub ends : LentEnds reply taken (K.held from') (tells K from') (I.told old) (I.told new)
  -- a writer that takes all still takes all
  pub all : TakesAll I old → TakesAll I new
  -- which calls it made
  pub calls : (C : List ReadCall) × (D : List WriteCall) × Made (ReadCallLaw K) from C from' × Made (CallOf I) old D new
      × HandsLent C D reply

-- What a `BufReader` holds and tells, and what a `fill_to` does.
use Rattle.std.specs.{Prelude.{◌≡◌, ℕ, List, Option, ◌<◌, ◌≤◌, [], ◌++◌, length, Bool, Result}, Mem.{FitsInMemory}}
use denote.{Param.{param, number}, RattleType.{RattleType}}
use Rattle.no_std_io2_base.specs.{Events.{Store}, declared.error.Error.{Error}, Takes.{Reader}, inner.Reads.{Reads}}
use Rattle.no_std_io2.specs.contracts.buffered.buf_reader.BufReader.{the_row as reader-row}
use Rattle.no_std_io2.specs.declared.buffered.buf_reader.BufReader.{BufReader}
use Rattle.no_std_io2.specs.inner.Buffer.{buffer_held, buffer_behind, store_before, HasTo, AsksOn}

-- `r.get_ref()`
abbrev pub reader_inner : {R : Type 0} {S : ℕ} → BufReader R S → R
reader_inner r = r.inner

-- `r.buffer()`
abbrev pub reader_held : {R : Type 0} {S : ℕ} → BufReader R S → List ℕ
reader_held r = buffer_held r.buffer

-- `r.behind()`
abbrev pub reader_behind : {R : Type 0} {S : ℕ} → BufReader R S → List ℕ
reader_behind r = buffer_behind r.buffer

-- the store of a `BufReader`: the inner reader's, at the position of the first held byte, if the held bytes are its bytes there
abbrev pub reader_store : {R : Type 0} {S : ℕ} → (R → Option Store) → BufReader R S → Option Store
reader_store store r = store_before (reader_held r) (store (reader_inner r))

-- the bytes behind and the held bytes did not change
abbrev pub KeepsBuffer : {R : Type 0} {S : ℕ} → BufReader R S → BufReader R S → Type 0
KeepsBuffer old new = (reader_behind new ≡ reader_behind old) × (reader_held new ≡ reader_held old)

-- `fill_to(n)`
pub record FillsTo {R : Type 0} {S : ℕ} (inner : Reader R) (n : ℕ) (old : BufReader R S) (reply : Result Bool Error) (new : BufReader R S)
    : Type 0 where
  -- which inner reads it made, what they gave, and how they ended
  pub given : List ℕ
  pub reads : Reads inner (AsksOn S n (reader_held old)) (reader_inner old) given reply (reader_inner new)
  -- the bytes are held after the others
  pub holds : reader_held new ≡ reader_held old ++ given
  -- whether n bytes are held
  pub enough : HasTo n reply (length (reader_held new))
  -- if n bytes are held already, nothing changes
  pub still : n ≤ length (reader_held old) → new ≡ old
  -- if not, it read, and nothing lies behind
  pub behind : length (reader_held old) < n → reader_behind new ≡ []

-- a `BufReader<R, S>` fits in memory
abbrev pub BufReaderFits : RattleType → ℕ → Type 0
BufReaderFits R S = FitsInMemory (reader-row R (param 0 (number S)))

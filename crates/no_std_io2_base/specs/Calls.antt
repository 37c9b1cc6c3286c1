-- The calls of streams, each with its result, and lists of calls.
use Rattle.std.specs.Prelude.{ℕ, List, Result, ℤ, ◌≡◌, [], ◌∷◌}
use Rattle.no_std_io2_base.specs.{declared.error.Error.{Error}, declared.traits.seek.SeekFrom.{SeekFrom}}

-- A call of a writer, with its result.
pub data WriteCall : Type 0 where
  Wrote : List ℕ → Result ℕ Error → WriteCall
  -- a `write_all` of a type that has a body of its own for it
  WroteAll : List ℕ → Result (Unit {0}) Error → WriteCall
  Flushed : Result (Unit {0}) Error → WriteCall

-- A call of a reader, with its result.
pub data ReadCall : Type 0 where
  -- a `read` into that much room: the bytes that it gave, or its error
  Gave : ℕ → Result (List ℕ) Error → ReadCall
  -- a `read_exact` of that many bytes, of a type that has a body of its own for it
  GaveExactly : ℕ → Result (List ℕ) Error → ReadCall
  -- a `read_to_end` of such a type: the bytes that it appended, and how it ended
  GaveAll : List ℕ → Result (Unit {0}) Error → ReadCall
  -- a `fill_buf`: the bytes that it lent, or its error
  Filled : Result (List ℕ) Error → ReadCall
  -- a `consume` of that many held bytes
  Consumed : ℕ → ReadCall

-- A call of a seeker, with its result.
pub data SeekCall : Type 0 where
  Sought : SeekFrom → Result ℕ Error → SeekCall
  -- a `stream_len` of a type that has a body of its own for it
  Measured : Result ℕ Error → SeekCall
  -- a `seek_relative` of such a type
  Moved : ℤ → Result (Unit {0}) Error → SeekCall

-- the calls of the list were made, one after another, and led from old to new
abbrev pub Made : {X A : Type 0} → (X → A → X → Type 0) → X → List A → X → Type 0
Made may old [] new = new ≡ old
Made {X} may old (call ∷ C) new = (mid : X) × may old call mid × Made may mid C new

-- From old to new calls were made, one after another, and this holds for their list.
pub record ByCalls {X A : Type 0} (may : X → A → X → Type 0) (old : X) (Are : List A → Type 0) (new : X) : Type 0 where
  pub calls : List A
  pub made : Made may old calls new
  pub are : Are calls

-- A call may do to a whole what it may do to its part, by `may`, and nothing else. `get` is the part of a whole, and `put` replaces it.
pub record PartMay {W V A : Type 0} (may : W → A → W → Type 0) (get : V → W) (put : V → W → V) (old : V) (call : A) (new : V) : Type 0 where
  pub part : W
  pub rest : new ≡ put old part
  pub does : may (get old) call part

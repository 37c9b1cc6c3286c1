-- What a copy through buffers takes, and what it does to the writer.
use Rattle.std.specs.Prelude.{◌≡◌, ℕ, Bool, true, false, List, [], ◌∷◌, ◌++◌, Ok}
use Rattle.no_std_io2.specs.{Events.{Event, event_bytes, HasNoFault}, Takes.{ReaderState}, inner.Pieces.{IsAll}, Writers.{Writer}}
use Rattle.no_std_io2.specs.{inner.Writers.{CallOf}, Moves.{WriterState, Moves}, Calls.{WriteCall, Flushed, Made}}
use Rattle.no_std_io2.specs.{inner.BufWriter.{InnerCalls, LevelCalls}, inner.LineWriter.{LineCalls}, inner.Copy.{counted, Handed}}

-- A copy took all events of a reader that told this, and no fault. The writer accepted their bytes without a mishap, and n is their count.
pub record CopiesAll (from : ReaderState) (old : WriterState) (n : ℕ) (new : WriterState) : Type 0 where
  pub taken : List Event
  pub all : IsAll from taken
  pub no_fault : HasNoFault taken
  pub moves : Moves old (event_bytes taken) [] new
  pub count : n ≡ counted (event_bytes taken)

-- Pieces of at most 64 bytes were passed on to a writer, by one `write_all` each, and then the writer was flushed once.
pub record HandsAndFlushes {W : Type 0} (I : Writer W) (old new : W) : Type 0 where
  pub pieces : List (List ℕ)
  pub calls : List WriteCall
  pub handed : Handed 64 pieces calls (Ok tt)
  pub made : Made (CallOf I) old (calls ++ Flushed (Ok tt) ∷ []) new

-- the inner calls of one call of a writer with a buffer of 64 bytes, a `LineWriter` if `line` is true
abbrev pub BufferCalls : Bool → List ℕ → WriteCall → List WriteCall → List ℕ → Type 0
BufferCalls true held call inner left = LineCalls 64 held call inner left
BufferCalls false held call inner left = InnerCalls 64 held call inner left

-- The pieces were passed on to such a buffer, and the writer below got the calls that this buffer makes.
pub record HandsThrough {W : Type 0} (I : Writer W) (line : Bool) (old new : W) : Type 0 where
  pub pieces : List (List ℕ)
  pub calls : List WriteCall
  pub handed : Handed 64 pieces calls (Ok tt)
  pub below : List WriteCall
  pub through : LevelCalls (BufferCalls line) [] (calls ++ Flushed (Ok tt) ∷ []) below []
  pub made : Made (CallOf I) old below new

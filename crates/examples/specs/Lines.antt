-- The first lines of a reader, which go on to a writer.
use Rattle.std.specs.{Prelude.{◌≡◌, ◌≤◌, ◌<◌, ℕ, List, [], ◌++◌, length, None, Result, Err}, List.{concat}, Result.{result_and}}
use Rattle.no_std_io2.specs.{Pieces.{newline, GivesPieces, AreAllPieces}, Reads.{StopsAfter}, Takes.{ReaderState}}
use Rattle.no_std_io2.specs.{Moves.{WriterState, Moves, MovesFront}, declared.io.Error.{Error}}

-- The next n lines came, no more than were wanted, and the writer accepted them, each whole.
pub record LinesPassed (wanted n : ℕ) (old new : ReaderState) (told told' : WriterState) : Type 0 where
  pub lines : List (List ℕ)
  pub gives : GivesPieces newline old lines new
  pub count : length lines ≡ n
  pub within : n ≤ wanted
  pub moves : Moves told (concat lines) [] told'

-- n lines were passed on. They are fewer than wanted only if no more were to come.
pub record PassesLines (wanted : ℕ) (old new : ReaderState) (told told' : WriterState) (n : ℕ) : Type 0 where
  pub passed : LinesPassed wanted n old new told told'
  pub fewer : n < wanted → AreAllPieces newline old passed.lines None

-- Lines came, and the writer stopped with the error e. It has accepted a front of them.
pub record StopsWriting (e : Error) (old new : ReaderState) (told told' : WriterState) : Type 0 where
  pub lines : List (List ℕ)
  pub gives : GivesPieces newline old lines new
  pub accepts : MovesFront told (concat lines) (Err e) told'

-- Lines came, a part of one more, and then a fault of the reading. The writer has accepted all of that, and e is this fault; or it failed
-- there, and e is its error.
pub record StopsAtPart (e : Error) (old new : ReaderState) (told told' : WriterState) : Type 0 where
  pub lines : List (List ℕ)
  pub part : List ℕ
  pub fault : Error
  pub stops : StopsAfter newline fault old lines part new
  pub wrote : Result (Unit {0}) Error
  pub accepts : MovesFront told (concat lines ++ part) wrote told'
  pub is : Err e ≡ result_and {U = Unit {0}} wrote (Err fault)

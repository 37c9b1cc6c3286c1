-- The device of a log whose power is cut: a vector behind acts.
use Rattle.std.specs.{Prelude.{ℕ, List}, declared.vec.Vec.{Vec}}
use Rattle.no_std_io2.specs.{Cursor.{cursor_inner, cursor_position}, declared.io.Cursor.{Cursor}}
use Rattle.io_bench.specs.{Faulty.{faulty_inner}, declared.faulty.Faulty.{Faulty}}

-- its content
abbrev pub content_behind_acts : {A : Type 0} → Faulty (Cursor (Vec ℕ A)) → List ℕ
content_behind_acts f = (cursor_inner (faulty_inner f)).items

-- the place of the next write
abbrev pub place_behind_acts : {A : Type 0} → Faulty (Cursor (Vec ℕ A)) → ℕ
place_behind_acts f = cursor_position (faulty_inner f)

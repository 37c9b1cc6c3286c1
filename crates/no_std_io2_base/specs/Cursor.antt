-- The content and the position of a `Cursor`.
use Rattle.std.specs.Prelude.{ℕ, List}
use Rattle.no_std_io2_base.specs.{declared.cursor.Cursor.{Cursor}, inner.Cursor.{bytes_before}}

-- the position of a cursor
abbrev pub cursor_position : {T : Type 0} → Cursor T → ℕ
cursor_position c = c.pos

-- the content of a cursor, `c.into_inner()`
abbrev pub cursor_inner : {T : Type 0} → Cursor T → T
cursor_inner c = c.inner

-- the content's bytes before the position
abbrev pub cursor_out : {T : Type 0} → (T → List ℕ) → Cursor T → List ℕ
cursor_out slice c = bytes_before c.pos (slice c.inner)

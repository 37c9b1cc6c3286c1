-- What a write to a `Cursor` changes.
use Rattle.std.specs.Prelude.{◌≡◌, ℕ, ◌+◌, ◌-◌, ◌^◌, ◌<◌, ◌≤◌, ◌⊎◌, List, ◌++◌, length, take, drop, replicate, codes, None, Some, Ok, Err}
use Rattle.std.specs.{Prelude.{Result, IsOk, IsOkAnd, OnOk, OnErr, IfErr, ◌↔◌, min}, List.{splice}}
use Rattle.no_std_io2_base.specs.{declared.cursor.Cursor.{Cursor}, declared.error.Error.{Error}}
use Rattle.no_std_io2_base.specs.{declared.error.ErrorKind.TheVariants.{InvalidInput, OutOfMemory}, Errors.{error_kind}}
use Rattle.no_std_io2_base.specs.{inner.Kinds.{error_text}, inner.Errors.{IsUnwritten}, Calls.{WriteCall, Wrote, WroteAll, Flushed}}

-- the bytes before a place, with zeros after them if there are too few
abbrev pub bytes_before : ℕ → List ℕ → List ℕ
bytes_before place bs = take place bs ++ replicate (place - length bs) 0

-- c after `*c.get_mut() = x`
abbrev pub cursor_with_inner : {T : Type 0} → Cursor T → T → Cursor T
cursor_with_inner c x = record c { inner = x }

-- the content's bytes from the position on
abbrev pub cursor_left : {T : Type 0} → (T → List ℕ) → Cursor T → List ℕ
cursor_left slice c = drop c.pos (slice c.inner)

-- the bytes after x was put at a place, with zeros before it if there are too few bytes
abbrev pub put_at : ℕ → List ℕ → List ℕ → List ℕ
put_at place x bs = splice (bs ++ replicate (place - length bs) 0) place (place + length x) x

-- the front of x that fits between a place and the end
abbrev pub fitting : ℕ → List ℕ → List ℕ → List ℕ
fitting place x bs = take (length bs - place) x

-- the error if x cannot be put at a place: it would end past `usize::MAX`, or an allocation failed
abbrev pub IsRefusal : ℕ → List ℕ → Error → Type 0
IsRefusal place x e =
    ((2 ^ 64 ≤ place + length x) × (error_kind e ≡ InvalidInput)
    × (error_text e ≡ Some (codes "vector position past the greatest usize")))
    ⊎ ((place + length x < 2 ^ 64) × (error_kind e ≡ OutOfMemory) × (error_text e ≡ None))

-- `write` of x: a vector has all of x at the place, and the place moved to its end; or the vector had to grow and could not,
-- and nothing changed
abbrev pub PutsWhole : List ℕ → ℕ → List ℕ → Result ℕ Error → List ℕ → ℕ → Type 0
PutsWhole bs place x (Ok n) bs' place' =
    (place + length x < 2 ^ 64) × (n ≡ length x) × (bs' ≡ put_at place x bs) × (place' ≡ place + length x)
PutsWhole bs place x (Err e) bs' place' = (length bs < place + length x) × IsRefusal place x e × (bs' ≡ bs) × (place' ≡ place)

-- `write_all` of x: as `write`, except that nothing changes if x is empty
abbrev pub PutsAll : List ℕ → ℕ → List ℕ → Result (Unit {0}) Error → List ℕ → ℕ → Type 0
PutsAll bs place x (Ok u) bs' place' =
    (0 < length x → (place + length x < 2 ^ 64) × (bs' ≡ put_at place x bs)) × (length x ≡ 0 → bs' ≡ bs) × (place' ≡ place + length x)
PutsAll bs place x (Err e) bs' place' = (length bs < place + length x) × IsRefusal place x e × (bs' ≡ bs) × (place' ≡ place)

-- a slice has the front of x that fits at the place, and the place moved to its end
abbrev pub PutsFitting : List ℕ → ℕ → List ℕ → List ℕ → ℕ → Type 0
PutsFitting bs place x bs' place' =
    let front = fitting place x bs in (bs' ≡ splice bs place (place + length front) front) × (place' ≡ place + length front)

-- What a call may do to a cursor over a vector with this content and this capacity: the whole buffer is put at the position, or nothing
-- changes. The capacity does not shrink.
abbrev pub PutsMay : {T : Type 0} → (T → List ℕ) → (T → ℕ) → Cursor T → WriteCall → Cursor T → Type 0
PutsMay items capacity old (Wrote x reply) new = PutsWhole (items old.inner) old.pos x reply (items new.inner) new.pos
    × OnErr reply (capacity old.inner < old.pos + length x) × (capacity old.inner ≤ capacity new.inner)
PutsMay items capacity old (WroteAll x reply) new = PutsAll (items old.inner) old.pos x reply (items new.inner) new.pos
    × OnErr reply (capacity old.inner < old.pos + length x) × (capacity old.inner ≤ capacity new.inner)
PutsMay items capacity old (Flushed reply) new = IsOk reply × (new ≡ old)

-- `write_all` of x over a slice: as many bytes as fit are written; it fails if and only if these are not all
pub record PutsAllFitting (bs : List ℕ) (place : ℕ) (x : List ℕ) (reply : Result (Unit {0}) Error) (bs' : List ℕ)
    (place' : ℕ) : Type 0 where
  pub variant : IsOk reply ↔ (length x ≤ length bs - place)
  pub says : IfErr reply IsUnwritten
  pub puts : PutsFitting bs place x bs' place'

-- what a call may do to a cursor over a slice with this content: as many bytes as fit are written at the position
abbrev pub FitsMay : {T : Type 0} → (T → List ℕ) → Cursor T → WriteCall → Cursor T → Type 0
FitsMay items old (Wrote x reply) new = IsOkAnd reply (λ n. n ≡ min (length x) (length (items old.inner) - old.pos))
    × PutsFitting (items old.inner) old.pos x (items new.inner) new.pos
FitsMay items old (WroteAll x reply) new = PutsAllFitting (items old.inner) old.pos x reply (items new.inner) new.pos
FitsMay items old (Flushed reply) new = IsOk reply × (new ≡ old)

-- The contract of a private function that puts x at `place`: x is there, or the capacity was too small, and nothing changed.
pub record IsPut (bs : List ℕ) (capacity place : ℕ) (x : List ℕ) (reply : Result (Unit {0}) Error) (bs' : List ℕ) : Type 0 where
  pub fits : OnOk reply (place + length x < 2 ^ 64)
  pub puts : OnOk reply (bs' ≡ put_at place x bs)
  pub refused : IfErr reply (IsRefusal place x)
  pub same : OnErr reply (bs' ≡ bs)
  pub full : OnErr reply (capacity < place + length x)

-- some bytes are gone from the front of a slice, and are at the end of a vector
abbrev pub HasMoved : List ℕ → List ℕ → List ℕ → List ℕ → Type 0
HasMoved rest rest' items items' = (part : List ℕ) × (rest ≡ part ++ rest') × (items' ≡ items ++ part)

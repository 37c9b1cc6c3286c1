-- Where a reader of frames is: between two frames, or inside one that is longer than its buffer.
use Rattle.std.specs.{Prelude.{ℕ, ◌+◌, ◌<◌, ◌≤◌, ◌^◌, ⊤, List, [], ◌++◌, take}, Coded.{×_prop, Unit-prop, le_prop}, Int.{w32, to_le_bytes}}
use Rattle.framing.specs.{declared.reader.Place.{Place}, declared.reader.Place.TheVariants.{Between, Inside}}

-- the frame of a payload of `len` bytes is longer than a buffer of S bytes, and `given` of them are in the room
abbrev pub IsPlace : ℕ → Place → Type 0
IsPlace S Between = ⊤
IsPlace S (Inside len given) = (len < 2 ^ 32) × ((S < 4 + len) × (given ≤ len))

-- there is one proof of that
pub IsPlace-prop : (S : ℕ) (p : Place) → IsProp (IsPlace S p)
IsPlace-prop S Between = Unit-prop
IsPlace-prop S (Inside len given) = ×_prop le_prop (×_prop le_prop le_prop)

-- the part that was read of a frame that is longer than the buffer: its header, and the bytes of its payload that are in the room
abbrev pub long_part : Place → List ℕ → List ℕ
long_part Between room = []
long_part (Inside len given) room = to_le_bytes w32 len ++ take given room

-- how many such frames are begun
abbrev pub long_begun : Place → ℕ
long_begun Between = 0
long_begun (Inside len given) = 1

-- What a `Feed` tells, and what its reads do.
use Rattle.std.specs.Prelude.{◌≡◌, ℕ, List, [], ◌∷◌, map, take, drop, length, min, nat_lt, if◌then◌else◌, Option, Some, None, Result, Ok}
use Rattle.std.specs.Prelude.{Err}
use Rattle.no_std_io2.specs.{declared.io.Error.{Error}, declared.io.ErrorKind.{ErrorKind}, inner.Kinds.{error_of}}
use Rattle.no_std_io2.specs.{Events.{Event as ToCome, byte, fails}, Calls.{ReadCall, Gave}, Takes.{answered}}
use Rattle.io_bench.specs.declared.feed.{Event.{Event, TheVariants.{Byte, Fail}}, Feed.{Feed}}

-- the event of a reader for an event of the script
abbrev event_to_come : Event → ToCome
event_to_come (Byte b) = byte b
event_to_come (Fail kind) = fails (error_of kind)

-- the events of a reader for these events of the script
abbrev pub all_to_come : List Event → List ToCome
all_to_come events = map event_to_come events

-- the bytes before the first failure
abbrev pub leading_bytes : List Event → List ℕ
leading_bytes (Byte b ∷ events) = b ∷ leading_bytes events
leading_bytes _ = []

-- the first event, if it is a failure
abbrev pub first_failure : List Event → Option ErrorKind
first_failure (Fail kind ∷ events) = Some kind
first_failure _ = None

-- `f.left()`
abbrev pub feed_left : Feed → List Event
feed_left f = drop f.at f.events.items

-- the maximum number of bytes per read
abbrev pub feed_piece : Feed → ℕ
feed_piece f = f.piece

-- the number of bytes that a read into this much room gives
abbrev pub feed_gives : Feed → ℕ → ℕ
feed_gives f room = min (min (feed_piece f) room) (length (leading_bytes (feed_left f)))

-- a failure of this kind if there is one, and else these bytes
abbrev pub failed_or_gave : Option ErrorKind → List ℕ → Result (List ℕ) Error
failed_or_gave (Some kind) x = Err (error_of kind)
failed_or_gave None x = Ok x

-- the answer of a read into this much room: a failure that comes first, or the bytes before the next failure, as many
-- as it gives
abbrev pub feed_answer : Feed → ℕ → Result (List ℕ) Error
feed_answer f room =
    if nat_lt 0 room then failed_or_gave (first_failure (feed_left f)) (take (feed_gives f room) (leading_bytes (feed_left f))) else Ok []

-- what a read does: it gives this answer, takes the events of this answer, and leaves the maximum
abbrev pub FeedMay : Feed → ReadCall → Feed → Type 0
FeedMay old (Gave room answer) new =
    (answer ≡ feed_answer old room) × (feed_left new ≡ drop (length (answered answer)) (feed_left old)) × (feed_piece new ≡ feed_piece old)
FeedMay old _ new = ⊥

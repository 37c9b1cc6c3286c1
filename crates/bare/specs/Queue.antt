-- What a queue holds, and what a call does to it.
use Rattle.std.specs.Prelude.{◌≡◌, ℕ, ◌<◌, ◌-◌, min, List, length, take, Ok, Err, IsOk}
use Rattle.no_std_io2.specs.{Calls.{WriteCall, Wrote, Flushed}, Errors.{error_kind}, declared.io.ErrorKind.TheVariants.{WouldBlock}}
use Rattle.bare.specs.declared.queue.Queue.{Queue}

-- how many bytes a queue has room for
abbrev pub queue_capacity : ℕ
queue_capacity = 64

-- the bytes that wait
abbrev pub waiting : Queue → List ℕ
waiting q = take q.len q.bytes

-- A write takes as many bytes as fit. If it has bytes and none fits, it is `WouldBlock`, and changes nothing. No other
-- call fails.
abbrev pub QueueMay : Queue → WriteCall → Queue → Type 0
QueueMay old (Wrote x (Ok n)) new = (n ≡ min (length x) (queue_capacity - length (waiting old))) × (0 < length x → 0 < n)
QueueMay old (Wrote x (Err e)) new = (length (waiting old) ≡ queue_capacity) × (waiting new ≡ waiting old) × (error_kind e ≡ WouldBlock)
QueueMay old (Flushed reply) new = IsOk reply
QueueMay old _ new = ⊥

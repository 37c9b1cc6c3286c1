-- The bytes so far are at the back of the queue, and there is room for the others.
use Rattle.std.{proofs.Common.{◌≡◌, ◌+◌, ◌≤◌, ◌++◌, take}, specs.VecDeque.{deque_len, deque_capacity}}
use Rattle.no_std_io2_base.proofs.impls.queues.pushed.Given as goal

abbrev pub invariant-bytes : goal.invariant-bytes
invariant-bytes g l =
    (l.queue.items ≡ l.fn.queue.items ++ take l.b-index l.bytes) × (deque_len l.queue ≡ deque_len l.fn.queue + l.b-index)
    × (deque_capacity l.fn.queue ≤ deque_capacity l.queue)

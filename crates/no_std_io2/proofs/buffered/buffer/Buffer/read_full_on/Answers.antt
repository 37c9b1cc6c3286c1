-- The held bytes are at the front.
use Rattle.no_std_io2.proofs.Words.{common_steps, ◌≡◌, ℕ, List, ◌++◌, length, take, sym, ap, ◌∙◌, arith, length-take-le}
use Rattle.std.proofs.Common.{slice_range}
use Rattle.no_std_io2.proofs.buffered.buffer.Buffer.read_full_on.Goals as goal

-- the bytes from the front
from_front : (xs : List ℕ) (start end : ℕ) → start ≡ 0 → slice_range xs start end ≡ take end xs
from_front xs start end zero = grind (arith, common_steps, slice_range)

pub read_behind-requires : goal.read_behind-requires
read_behind-requires g c =
    let was = c.move_to_front.new.self in
    let first = c.move_to_front.ensures in
    let long : length was.bytes ≡ g.row.S = omega arith in
    let held : length (slice_range was.bytes was.start was.end) ≡ was.end =
    ap length (from_front was.bytes was.start was.end first.start) ∙ length-take-le was.end was.bytes (omega (arith, was.in_range, long)) in
    omega (arith, held, long, ap length first.same, c.requires)

pub returns : goal.returns
returns g c =
    let was = c.move_to_front.new.self in
    let first = c.move_to_front.ensures in
    let (x, is, calls) = c.read_behind.ensures.fills in (
      x,
      from_front _ _ _ first.start ∙ is ∙ ap (λ l. l ++ x) (sym (from_front was.bytes was.start was.end first.start) ∙ first.same),
      calls,
    )

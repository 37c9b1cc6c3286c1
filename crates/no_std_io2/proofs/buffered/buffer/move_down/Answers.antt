-- The copied bytes stand at the front: the search does not cut them out of the array.
use Rattle.no_std_io2.proofs.Words.{common_steps, ◌≡◌, ℕ, ◌-◌, ◌≤◌, List, ◌++◌, length, take, drop, arith, length-take, length-drop}
use Rattle.no_std_io2.proofs.Words.{take-append-le}
use Rattle.std.proofs.Common.{take_all, slice_range}
use Rattle.no_std_io2.proofs.buffered.buffer.move_down.Goals as goal

-- the bytes from s to e, put before others
at_front : (xs ys rest : List ℕ) (s e : ℕ) → s ≤ e → e ≤ length xs → ys ≡ take (e - s) (drop s xs) ++ rest
    → take (e - s) ys ≡ take (e - s) (drop s xs)
at_front xs ys rest s e ordered within same =
    let part = take (e - s) (drop s xs) in
    let long : length part ≡ e - s = omega (arith, length-take (e - s) (drop s xs), length-drop s xs, ordered, within) in
    let cut = take-append-le (e - s) part rest (omega (arith, long)) in
    grind (arith, same, cut, take_all (e - s) part (omega (arith, long)))

pub returns-then-this-le-SMALL : goal.returns-then-this-le-SMALL
returns-then-this-le-SMALL g c = grind (arith, common_steps, slice_range, at_front)

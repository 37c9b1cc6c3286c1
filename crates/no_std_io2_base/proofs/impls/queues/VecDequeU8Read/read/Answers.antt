-- The law: the bytes come from the two slices of the queue, whose lengths the search does not add.
use Rattle.std.proofs.Common.{◌≡◌, arith, length, take, ap, sym, refl, ◌∙◌, take_at, length-take-le, length-drop, length-append, ◌+◌, ◌≤◌}
use Rattle.std.proofs.lemmas.List.{take-append-le, nil_from_length}
use Rattle.no_std_io2_base.proofs.InMemoryReads.{split_at, takes_left, read_part}
use Rattle.no_std_io2_base.proofs.impls.queues.VecDequeU8Read.read.Goals as goal

pub returns-clause-law : goal.returns-clause-law
returns-clause-law g c =
    let all = c.args.self.now.items in
    let parts = c.as_slices.result in
    let n = c.copy_prefix-n.result in
    let buf = c.copy_prefix-n.new.to in
    let left = c.drop_front.ensures.items in
    let whole : length parts.0.now + length parts.1.now ≡ length all =
    sym (length-append parts.0.now parts.1.now) ∙ ap length c.as_slices.ensures.items in
    let within : n ≤ length parts.0.now = omega arith in
    let front : take n buf ≡ take n all = ap (take n) c.copy_prefix-n.ensures.copied ∙ take_at _ _ n (length-take-le n parts.0.now within)
    ∙ sym (take-append-le n parts.0.now parts.1.now within) ∙ ap (take n) c.as_slices.ensures.items in
    let split = split_at n all front left in
    read_part {left = λ q. q.items} (record { split = split; takes = takes_left all (take n buf) _ split; told = refl }) buf n refl
    (omega arith)
    (λ zero room. nil_from_length _ (grind (arith, whole, ap length left, length-drop n all, c.as_slices.ensures.first_filled))) split

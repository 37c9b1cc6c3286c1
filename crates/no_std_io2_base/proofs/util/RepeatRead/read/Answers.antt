-- The given bytes are the front of the buffer. The search does not split the buffer there.
use Rattle.std.proofs.Common.{◌≡◌, ◌≤◌, ◌++◌, arith, length, take, drop, replicate, refl, sym, ap, ◌∙◌, take_at, length-take-le}
use Rattle.std.proofs.{Common.{length-append, length-drop}, lemmas.List.{take-replicate, drop-replicate, length-replicate}}
use Rattle.no_std_io2_base.{proofs.InMemoryReads.{split_at, takes_left, read_left}, specs.inner.InMemory.{repeat_left}}
use Rattle.no_std_io2_base.proofs.util.RepeatRead.read.Goals as goal

pub returns : goal.returns
returns c =
    let byte = c.args.self.now.byte in
    let left = c.args.self.now.left in
    let n = c.min-n.result in
    let within : (n ≤ length c.args.buf.now) × (n ≤ left) = omega (arith, c.min-n.ensures) in
    let part = c.fill.new.self in
    let rest = drop n c.args.buf.now in
    let buf = part ++ rest in
    let is : part ≡ replicate n byte =
    c.fill.ensures.after (λ y same. same) ∙ ap (λ k. replicate k byte) (length-take-le n c.args.buf.now within.0) in
    let long : length part ≡ n = ap length is ∙ length-replicate n byte in
    let front : take n buf ≡ take n (repeat_left c.args.self.now) =
    take_at part _ n long ∙ is ∙ sym (take-replicate n left byte within.1) in
    let split = split_at n (repeat_left c.args.self.now) front (sym (drop-replicate n left byte)) in
    let law = read_left {left = repeat_left} (λ old new call given. given) buf n
    (record { split = split; takes = takes_left (repeat_left c.args.self.now) (take n buf) _ split; told = refl })
    (omega (arith, c.min-n.ensures, length-replicate left byte, length-append part rest, long, length-drop n c.args.buf.now)) in
    record { law = law; gives = law.call }

-- If the bytes do not fit, the search does not add up the sizes of the two queues before and after the kept bytes
-- were sent.
use Rattle.no_std_io2.proofs.Words.{◌≤◌, ◌<◌, ◌+◌, length, refl, ap, arith, inr, length-append, common_steps}
use Rattle.std.proofs.lemmas.List.{length-take}
use Rattle.bare.specs.Queue.{waiting}
use Rattle.bare.proofs.kept.append.Goals as goal

pub returns-then-waiting-bytes-gt-CAPACITY : goal.returns-then-waiting-bytes-gt-CAPACITY
returns-then-waiting-bytes-gt-CAPACITY c =
    let short : length (waiting c.args.text.now) ≤ 64 = grind (arith, common_steps, length-take) in
    let sizes = simp length-append at (ap length c.bare_resume.ensures.order) in
    let full : 64 < length (waiting c.args.port.now) + length (waiting c.args.kept.now) + length (waiting c.args.text.now) =
    omega (
      arith,
      sizes,
      c.if-waiting-bytes-gt-CAPACITY.true,
      ap length c.waiting.ensures,
      ap length c.waiting-2.ensures,
      ap length c.waiting-bytes.ensures,
    ) in
    inr (refl, short, full, (_, c.bare_resume.ensures))

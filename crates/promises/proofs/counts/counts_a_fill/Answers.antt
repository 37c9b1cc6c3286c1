-- The prover does not find how many bytes a filling reader gives, nor the state that a loan leaves.
use Rattle.no_std_io2.proofs.{Words.{ap, length}, PieceLoops.{filled_law}}
use Rattle.promises.proofs.ExactCounts.{fill_cost, fill_fills, fill_gives}
use Rattle.promises.proofs.counts.counts_a_fill.Goals as goal

pub returns : goal.returns
returns g c =
    let old = c.args.r.now in
    let filled = filled_law c.in_ok-lent.was c.fill_buf.ensures.law c.fill_buf.follows.holds-at-none in
    record {
      reads = λ cost meter. fill_cost old _ cost meter _ filled.call;
      fills = λ fills.
          let gives = fill_gives old _ _ fills filled.call in
          (fill_fills old _ _ fills filled.call, (ap length gives.0, gives.1));
    }

pub returns-in_err-lent : goal.returns-in_err-lent
returns-in_err-lent g c =
    let old = c.args.r.now in
    let filled = filled_law c.in_err-lent.was c.fill_buf.ensures.law c.fill_buf.follows.holds-at-none in
    record {
      reads = λ cost meter. fill_cost old _ cost meter _ filled.call;
      fills = λ fills. absurd (fill_gives old _ _ fills filled.call);
    }

-- The prover does not find that a `Tally` counts its reads, nor how many bytes a filling reader gives.
use Rattle.no_std_io2.proofs.{Words.{min, length, ap, bytes_left, reader_held, reader_inner}, TakesLemmas.{reader}}
use Rattle.promises.proofs.ExactCounts.{held_or, read_cost, read_fills, read_gives, gave_count}
use Rattle.io_bench.{proofs.DeviceLemmas.{tallied_reader, tally_fills, tally_meters_reads}, specs.Tally.{tally_reads}}
use Rattle.promises.proofs.counts.counts_a_read.Goals as goal

pub returns : goal.returns
returns g c =
    let law = c.read.ensures.law in
    let I = reader g.R.Stored g.R.Read in
    let old = c.args.r.now.value in
    let new = c.read.new.self.value in
    record {
      takes = law.takes;
      reads = read_cost old new tally_reads (tally_meters_reads I) _ _ law.call;
      fills = λ fills.
          let all = tally_fills (reader_inner old) fills in
          let left = length (bytes_left (tallied_reader I) (reader_inner old)) in (
            read_fills old new _ _ all law.call,
            gave_count c.read.result c.read.new.buf law.bound
                (ap (λ n. min n (held_or (length (reader_held old)) left)) c.read.auto.buf)
                (read_gives old new _ _ all law.call),
          );
    }

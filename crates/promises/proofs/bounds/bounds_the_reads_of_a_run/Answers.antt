-- The prover does not find that a `Tally` fills its room, and that its count is a number that counts its reads.
use Rattle.no_std_io2.proofs.{Words.{reader_inner}, TakesLemmas.{reader}}
use Rattle.io_bench.{specs.Tally.{tally_reads}, proofs.DeviceLemmas.{tally_fills, tally_meters_reads}}
use Rattle.promises.proofs.bounds.bounds_the_reads_of_a_run.Goals as goal

pub returns-clause-fills : goal.returns-clause-fills
returns-clause-fills g c = λ fills. c.run_reads.ensures.fills (tally_fills (reader_inner c.args.r.now) fills)

pub returns-clause-steps : goal.returns-clause-steps
returns-clause-steps g c = λ fills. c.run_reads.ensures.steps (tally_fills (reader_inner c.args.r.now) fills)

pub returns-clause-bound : goal.returns-clause-bound
returns-clause-bound g c = λ fills.
    c.run_reads.ensures.bound (tally_fills (reader_inner c.args.r.now) fills) tally_reads
    (tally_meters_reads (reader g.R.Stored g.R.Read))

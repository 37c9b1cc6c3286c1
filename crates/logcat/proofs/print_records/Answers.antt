-- The prover does not find that a record has some bytes.
use Rattle.std.proofs.Common.{ap, arith, length, length-append}
use Rattle.record_log.specs.{Records.{record_of}, Walk.{records_rest}}
use Rattle.logcat.proofs.print_records.Goals as goal

pub records-smaller : goal.records-smaller
records-smaller g c =
    let payload = c.in-Some.record.payload.now in
    omega (arith, ap length c.in-Some.ensures.some.0, length-append (record_of payload) (records_rest c.next.new.self))

use Rattle.std.{proofs.Common.{◌≡◌, take}, specs.List.{fold}}
use Rattle.record_log.specs.Records.{add_number}
use Rattle.record_log.proofs.records.add_bytes.Given as goal

abbrev pub invariant-bytes : goal.invariant-bytes
invariant-bytes l = l.sum ≡ fold add_number l.check (take l.b-index l.bytes)

-- Where an iterator of records is.
use Rattle.std.specs.Prelude.{ℕ, List}
use Rattle.record_log.specs.declared.walk.Records.{Records}

-- the bytes behind the records that it returned
abbrev pub records_rest : Records → List ℕ
records_rest r = r.rest.now

-- where these bytes begin
abbrev pub records_position : Records → ℕ
records_position r = r.position

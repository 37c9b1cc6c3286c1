-- The law of the trait's body, for the offset as a number of 64 bits, which the search does not turn into the offset in a field
-- that has a premise.
use Rattle.no_std_io2.proofs.Words.{to_z-of_z, w64}
use Rattle.no_std_io2.proofs.buffered.buf_writer.seeking.BufWriterSeek.seek_relative.Goals as goal

pub returns : goal.returns
returns g c = record { law = rw (to_z-of_z w64 c.args.offset c.ranges.offset) at c.seek_relative.ensures.law }

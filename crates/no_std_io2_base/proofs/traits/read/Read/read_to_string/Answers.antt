-- All that is left was read into the memory of the text.
use Rattle.no_std_io2_base.proofs.LineLemmas.{string_law, memory_grows, memory_text}
use Rattle.no_std_io2_base.proofs.traits.read.Read.read_to_string.Goals as goal

pub returns : goal.returns
returns g c =
    let read = c.read_to_end-read in
    let all = rw c.take_bytes-bytes.ensures at read.ensures.law in
    let answers = rw c.len-start.ensures at c.put_back.ensures.answers in
    record { law = string_law c.args.buf.now read.new.buf all answers c.put_back.ensures.capacity }

pub put_back-requires-clause-within : goal.put_back-requires-clause-within
put_back-requires-clause-within g c =
    let read = c.read_to_end-read in
    rw c.len-start.ensures (memory_grows c.args.buf.now read.new.buf _ (rw c.take_bytes-bytes.ensures at read.ensures.law.appends.0))

pub put_back-requires-clause-text : goal.put_back-requires-clause-text
put_back-requires-clause-text g c =
    let read = c.read_to_end-read in
    rw c.len-start.ensures (memory_text c.args.buf.now read.new.buf _ (rw c.take_bytes-bytes.ensures at read.ensures.law.appends.0))

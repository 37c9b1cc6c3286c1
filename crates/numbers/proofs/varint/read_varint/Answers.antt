-- What was gathered is read, or refused; the search does not join the two calls.
use Rattle.no_std_io2.proofs.{Words.{take, returned_err}, TakesLemmas.{reader}}
use Rattle.numbers.proofs.VarintLemmas.{back_fails, back_read, back_refused, read_takes}
use Rattle.numbers.proofs.varint.read_varint.Goals as goal

pub returns-in_err-len-clause-back : goal.returns-in_err-len-clause-back
returns-in_err-len-clause-back g c =
    rw (returned_err c.from_residual.ensures)
    (back_fails (reader g.R.Stored g.R.Read) c.args.r.now c.gather.new.r c.gather.new.bytes c.in_err-len.ensures.back)

pub returns-in-Some-clause-takes : goal.returns-in-Some-clause-takes
returns-in-Some-clause-takes g c =
    let bytes = take c.in_ok-len.len c.gather.new.bytes in
    (bytes, c.in-Some.ensures.some, read_takes (reader g.R.Stored g.R.Read) c.in_ok-len.ensures.reads.2)

pub returns-in-Some-clause-back : goal.returns-in-Some-clause-back
returns-in-Some-clause-back g c =
    back_read (reader g.R.Stored g.R.Read) c.args.r.now c.gather.new.r c.gather.new.bytes
    c.in_ok-len.len c.in-Some.n c.in_ok-len.ensures.back c.in-Some.ensures.some

pub returns-in-None-clause-back : goal.returns-in-None-clause-back
returns-in-None-clause-back g c =
    back_refused (reader g.R.Stored g.R.Read) c.args.r.now c.gather.new.r c.gather.new.bytes
    c.in_ok-len.len c.in_ok-len.ensures.back c.in-None.ensures.none

-- A write is refused, kept, or puts whole groups into the buffer; the search does not make the law of an encoder of that.
use Rattle.no_std_io2.proofs.Words.{◌<◌, ◌++◌, length, refl, ap, arith, inl, inr, length-append, returned_err}
use Rattle.base64_stream.specs.{Encoder.{unfinished}, Finish.{closed_refused, all_kept, groups_put}}
use Rattle.base64_stream.proofs.EncoderLemmas.{law_refused, law_kept, law_put, law_failed, whole_of}
use Rattle.base64_stream.proofs.encoder.EncoderWriterWrite.write.Goals as goal

pub returns-then-refuses-clause-law : goal.returns-then-refuses-clause-law
returns-then-refuses-clause-law g c = law_refused g.W.Write c.args.self.now c.args.buf.now c.closed.ensures

pub returns-then-refuses-clause-puts : goal.returns-then-refuses-clause-puts
returns-then-refuses-clause-puts g c =
    let (closed, some) = c.refuses.ensures.yes c.if-refuses.true in closed_refused closed some c.closed.ensures

pub returns-then-held-buf-lt3-clause-law : goal.returns-then-held-buf-lt3-clause-law
returns-then-held-buf-lt3-clause-law g c =
    law_kept g.W.Write c.args.self.now (record c.args.self.now { group = c.keep.new.self; accepted = c.add.new.self }) c.args.buf.now
    c.keep.ensures refl refl c.add.ensures

pub returns-then-held-buf-lt3-clause-puts : goal.returns-then-held-buf-lt3-clause-puts
returns-then-held-buf-lt3-clause-puts g c =
    let few : length (unfinished c.args.self.now ++ c.args.buf.now) < 3 =
    omega (arith, length-append (unfinished c.args.self.now) c.args.buf.now, ap length c.as_slice-held.ensures.value) in
    all_kept few refl c.keep.ensures refl

pub returns-in_err-put-clause-law : goal.returns-in_err-put-clause-law
returns-in_err-put-clause-law g c =
    rw (returned_err c.from_residual.ensures)
    (law_failed g.W.Write c.args.self.now c.put.new.self c.args.buf.now c.in_err-put.ensures.puts c.in_err-put.ensures.err)

pub returns-in_err-put-clause-puts : goal.returns-in_err-put-clause-puts
returns-in_err-put-clause-puts g c =
    let fits = c.fitting-n.ensures in
    let whole = whole_of (unfinished c.args.self.now) c.args.buf.now c.fitting-n.result fits.within fits.whole in
    rw (returned_err c.from_residual.ensures)
    (groups_put c.fitting-n.result fits.some fits.within whole c.in_err-put.ensures.puts (inr c.in_err-put.ensures.err))

pub returns-in_err-put-clause-end : goal.returns-in_err-put-clause-end
returns-in_err-put-clause-end g c closed some = absurd (omega (arith, some, c.refuses.ensures.no c.if-refuses.false closed))

pub returns-clause-law : goal.returns-clause-law
returns-clause-law g c =
    let fits = c.fitting-n.ensures in
    let whole = whole_of (unfinished c.args.self.now) c.args.buf.now c.fitting-n.result fits.within fits.whole in
    let done = c.in_ok-put.ensures in
    law_put g.W.Write c.args.self.now c.put.new.self c.args.buf.now c.fitting-n.result fits.within whole done.puts done.ok.0 done.engine
    done.ok.1

pub returns-clause-puts : goal.returns-clause-puts
returns-clause-puts g c =
    let fits = c.fitting-n.ensures in
    let whole = whole_of (unfinished c.args.self.now) c.args.buf.now c.fitting-n.result fits.within fits.whole in
    groups_put c.fitting-n.result fits.some fits.within whole c.in_ok-put.ensures.puts (inl refl)

pub returns-clause-end : goal.returns-clause-end
returns-clause-end g c closed some = absurd (omega (arith, some, c.refuses.ensures.no c.if-refuses.false closed))

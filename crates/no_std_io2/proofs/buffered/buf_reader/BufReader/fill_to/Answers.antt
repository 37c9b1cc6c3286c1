-- Reads until enough bytes are held: after each read, and at the three ends.
use Rattle.no_std_io2.proofs.{Words.{sym, ◌∙◌, arith}, FillToLemmas.{filled_none, filled_more, filled_again, fills_fault, fills_end}}
use Rattle.no_std_io2.proofs.FillToLemmas.{fills_enough, fills_all, spends_more, spends_again}
use Rattle.no_std_io2.proofs.buffered.buf_reader.BufReader.fill_to.Goals as goal

pub reads-init : goal.reads-init
reads-init g c = filled_none c.args.self.now

pub reads-preserved-in-Ok : goal.reads-preserved-in-Ok
reads-preserved-in-Ok g c =
    let read = c.in-Ok.ensures in
    filled_more c.reads.invariant (omega arith) c.requires read.read read.behind c.in-Ok.field-0-test.1

pub reads-preserved : goal.reads-preserved
reads-preserved g c =
    let read = c.in-Err.ensures in
    filled_again c.reads.invariant (omega arith) c.requires read.read read.behind (sym c.is_interrupted.ensures ∙ c.if-is_interrupted.true)

pub reads-smaller-in-Ok : goal.reads-smaller-in-Ok
reads-smaller-in-Ok g c = spends_more c.in-Ok.ensures.read c.in-Ok.field-0-test.1

pub reads-smaller : goal.reads-smaller
reads-smaller g c = spends_again c.in-Err.ensures.read

pub returns-in-Err-2 : goal.returns-in-Err-2
returns-in-Err-2 g c =
    let read = c.in-Err.ensures in
    fills_all c.requires (fills_fault c.reads.invariant (omega arith) c.requires read.read read.behind
    (sym c.is_interrupted.ensures ∙ c.if-is_interrupted.false))

pub returns-in-Ok-eq0 : goal.returns-in-Ok-eq0
returns-in-Ok-eq0 g c =
    let read = c.read_on.ensures in
    fills_all c.requires (fills_end c.reads.invariant (omega arith) c.requires read.read read.behind c.in-Ok-eq0.is (omega arith))

pub returns : goal.returns
returns g c = fills_all c.requires (fills_enough c.reads.invariant (omega (arith, c.reads-test.false)))

-- The inner reader is read into the part of the buffer that the limit leaves.
use Rattle.std.proofs.{Common.{Ok, Err, refl, arith, ap}, lemmas.Result.{err_from_is_err_and}}
use lib.Seq.{take-append-le}
use Rattle.no_std_io2_base.proofs.{LimitLemmas.{reads_inner, part_length, limit_falls}, ReadLoops.{some_bytes}}
use Rattle.no_std_io2_base.proofs.traits.take.TakeRead.read.Goals as goal

pub returns : goal.returns
returns g c =
    let part = part_length _ _ c.args.buf.now c.read.new.buf c.min_with_limit-most.ensures c.read.auto.buf in
    let read = c.in_ok-n.ensures.law in
    record {
      law = reads_inner _ (Ok _) (some_bytes _ c.if-self-eq0.false) read part (ap Ok (take-append-le _ c.read.new.buf _ read.bound))
          (limit_falls _ c.in_ok-n.n c.read.new.buf read.bound (omega (arith, part))) refl;
    }

pub returns-in_err-n : goal.returns-in_err-n
returns-in_err-n g c =
    let part = part_length _ _ c.args.buf.now c.read.new.buf c.min_with_limit-most.ensures c.read.auto.buf in
    let p = err_from_is_err_and c.from_residual.result c.from_residual.ensures.1 in
    rw (p.1, p.2) (record {
      law = reads_inner _ (Err _) (some_bytes _ c.if-self-eq0.false) c.in_err-n.ensures.law part refl (omega arith) refl;
    })

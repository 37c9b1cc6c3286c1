-- An exact read past the held bytes, by its `read_full`: the search does not find what it leaves, nor an error's law.
use Rattle.no_std_io2.proofs.{Words.{arith, err_from_is_err_and}, BufReaderThrough.{leaves_whole, leaves_end, leaves_fault}}
use Rattle.no_std_io2_base.proofs.ReadLoops.{exact_end, exact_fault}
use Rattle.no_std_io2.proofs.buffered.buf_reader.BufReader.read_exact_cold.Goals as goal

pub returns-in_err-read_full : goal.returns-in_err-read_full
returns-in_err-read_full g c =
    let p = err_from_is_err_and c.from_residual.result c.from_residual.ensures.1 in
    let full = c.in_err-read_full.ensures in
    rw (p.1, p.2) (record {
      law = exact_fault c.read_full.auto.buf full.law;
      leaves = leaves_fault _ c.read_full.new.buf c.read_full.new.filled c.requires full.through.1 full.through.2;
    })

pub returns-then-filled-buf : goal.returns-then-filled-buf
returns-then-filled-buf g c =
    let full = c.in_ok-read_full.ensures in
    record {
      law = exact_end c.read_full.auto.buf full.law c.if-filled-buf.true c.failed_to_fill.ensures;
      leaves = leaves_end _ c.read_full.new.buf c.read_full.new.filled c.requires c.failed_to_fill.ensures full.through.1
          c.if-filled-buf.true full.through.2;
    }

pub returns-clause-leaves : goal.returns-clause-leaves
returns-clause-leaves g c =
    let full = c.in_ok-read_full.ensures in
    leaves_whole _ c.read_full.new.buf c.read_full.new.filled c.requires full.through.1 (omega (arith, c.if-filled-buf.false))
    full.through.2

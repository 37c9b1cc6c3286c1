-- These inner seeks are its law.
use Rattle.no_std_io2.proofs.{Words.{rules, to_z-of_z, w64}, BufReaderSeeks.{seek_law, seek_elsewhere}}
use Rattle.std.proofs.Common.{FitsSigned}
use Rattle.no_std_io2_base.{specs.declared.traits.seek.SeekFrom.TheVariants.{Current}, proofs.TakesLemmas.{seeker}}
use Rattle.no_std_io2.proofs.buffered.buf_reader.seeks.BufReaderSeek.seek.Goals as goal

pub returns-in-Current : goal.returns-in-Current
returns-in-Current g c =
    let fits : FitsSigned w64 c.in-Current.offset = search rules in
    rw c.in-Current.is (record {
      law = seek_law (seeker g.R.Stored g.R.Seek) c.args.self.now c.seek_current.new.self (Current c.in-Current.offset)
          c.seek_current.result (rw (to_z-of_z w64 c.in-Current.offset fits) at c.seek_current.ensures);
    })

pub returns-in-Start : goal.returns-in-Start
returns-in-Start g c = record {
  law = seek_elsewhere (seeker g.R.Stored g.R.Seek) c.args.self.now c.seek_inner.new.self c.args.pos c.in-Start.is c.seek_inner.result
      c.seek_inner.ensures;
}

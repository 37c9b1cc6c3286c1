-- Within the buffer the border moves; outside it is a seek.
use Rattle.no_std_io2.proofs.{Words.{refl, subst, Ok, Err, to_z-of_z, w64}, BufferedReads.{same_buffer}}
use Rattle.no_std_io2.{proofs.BufReaderSeeks.{moves_within, moves_far}, specs.inner.BufferSeeks.{ReaderSeeks}}
use Rattle.no_std_io2_base.{specs.declared.traits.seek.SeekFrom.TheVariants.{Current}, proofs.TakesLemmas.{seeker}}
use Rattle.no_std_io2.proofs.buffered.buf_reader.seeks.BufReaderSeek.seek_relative.Goals as goal

pub returns-then-shift : goal.returns-then-shift
returns-then-shift g c =
    let same = to_z-of_z w64 c.args.offset c.ranges.offset in
    let shifted = c.if-shift.ensures.within in
    let moves = moves_within (seeker g.R.Stored g.R.Seek) c.args.self.now _ c.args.offset (rw same at shifted.0) refl
    (rw same at shifted.1) in
    record { law = moves.0; own = moves.1 }

pub returns-in-Ok : goal.returns-in-Ok
returns-in-Ok g c =
    let I = seeker g.R.Stored g.R.Seek in
    let old = c.args.self.now in
    let new = c.seek_current.new.self in
    let same = to_z-of_z w64 c.args.offset c.ranges.offset in
    let kept = c.if-shift.ensures.outside in
    let seek = subst (λ r. ReaderSeeks I r (Current c.args.offset) (Ok c.in-Ok.field-0) new) (same_buffer old _ _ _ kept.0)
    (rw same at c.in-Ok.ensures) in
    let moves = moves_far I old new c.args.offset (Ok tt) (rw same at kept.1) (c.in-Ok.field-0, seek) in
    record { law = moves.0; own = moves.1 }

pub returns-in-Err : goal.returns-in-Err
returns-in-Err g c =
    let I = seeker g.R.Stored g.R.Seek in
    let old = c.args.self.now in
    let new = c.seek_current.new.self in
    let same = to_z-of_z w64 c.args.offset c.ranges.offset in
    let kept = c.if-shift.ensures.outside in
    let seek = subst (λ r. ReaderSeeks I r (Current c.args.offset) (Err c.in-Err.e) new) (same_buffer old _ _ _ kept.0)
    (rw same at c.in-Err.ensures) in
    let moves = moves_far I old new c.args.offset (Err c.in-Err.e) (rw same at kept.1) seek in
    record { law = moves.0; own = moves.1 }

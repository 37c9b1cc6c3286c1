-- A seek from the next byte that needs two inner seeks, or the first of which failed.
use Rattle.no_std_io2.proofs.Words.{common_steps, ◌<◌, ◌^◌, pos, arith, subst, inl, inr, to_z-of_z, err_from_is_err_and, w64}
use Rattle.no_std_io2.{proofs.BufReaderSeeks.{far_unless_fits, seeks_again}, specs.inner.BufferSeeks.{IsTooFarBack}}
use Rattle.no_std_io2.proofs.buffered.buf_reader.BufReader.seek_current.Goals as goal

pub returns-in_ok-seek_back-in-None : goal.returns-in_ok-seek_back-in-None
returns-in_ok-seek_back-in-None g c =
    let first = c.in_ok-seek_back-in-None.ensures in
    let same = to_z-of_z w64 c.args.offset c.ranges.offset in
    let not_fits = rw same at c.in-None.ensures in
    let small : c.len-held.result < 2 ^ 63 = omega (arith, c.len-held.ensures.bound, c.args.self.now.in_memory) in
    let far = subst (IsTooFarBack c.args.offset) c.len-held.ensures.len
    (far_unless_fits c.args.offset c.len-held.result c.ranges.offset small not_fits) in
    let second = rw same at c.seek_inner-in-None.ensures in
    inr (far, inl (seeks_again c.seek_back.new.self c.args.offset first.0 c.seek_inner-in-None.result first.1 second))

pub returns-in_err-seek_back-in-None : goal.returns-in_err-seek_back-in-None
returns-in_err-seek_back-in-None g c = grind (arith, common_steps, err_from_is_err_and, to_z-of_z, w64, pos, far_unless_fits)

-- Within the buffer no inner call is made, and the border moves.
use Rattle.no_std_io2.proofs.{Words.{ℤ, refl, subst, to_z-of_z, w64, tells, reader_held, reader_behind, reader_inner}, TakesLemmas.{reader}}
use Rattle.no_std_io2.proofs.{TakesLemmas.{seeker}, BufferedReads.{steps_over, held-le}}
use Rattle.no_std_io2.specs.inner.BufferSeeks.{MovesBelow, moved_within, moved_far}
use Rattle.promises.proofs.reads.moves_inside_its_buffer.Goals as goal

pub returns : goal.returns
returns g c = λ within.
    let old = c.args.r.now in
    let new = c.seek_relative.new.self in
    let same = to_z-of_z w64 c.args.offset c.ranges.offset in
    let own = subst (λ (o : ℤ). MovesBelow (seeker g.R.Stored g.R.Seek) old o c.seek_relative.result new) same c.seek_relative.ensures.own
    in
    let inner = tells (reader g.R.Stored g.R.Read) (reader_inner old) in
    elim own [
      | moved_within inside is kept cut ↦ rw is (
        refl,
        kept,
        rw kept (steps_over g.row.S c.args.offset (reader_behind old) (reader_held old) (reader_behind new) (reader_held new) inner within
            cut (held-le old) (held-le new)),
      )
      | moved_far out seek ↦ absurd (out within)
    ]

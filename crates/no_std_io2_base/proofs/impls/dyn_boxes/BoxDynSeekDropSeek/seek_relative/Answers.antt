-- What the call did to the value in the box, it did to the box.
use Rattle.std.proofs.{Common.{rules}, lemmas.Int.{to_z-of_z}}
use mir.Syntax.{w64}
use Rattle.no_std_io2_base.{specs.Seek.{SeekRelativeLaw}, proofs.{TakesLemmas.{seeker}, CursorLemmas.{seeks_box, seek_relative_through}}}
use Rattle.no_std_io2_base.proofs.impls.dyn_boxes.BoxDynSeekDropSeek.seek_relative.Goals as goal

pub returns : goal.returns
returns g c =
    let o = goal.Seek-dyn g in
    let did = rw (to_z-of_z w64 c.args.offset c.ranges.offset) at c.seek_relative.ensures in
    record {
      law = seeks_box (λ p. seeker (o p).Stored (o p).Seek) c.args.self.now
          (λ X S a b. SeekRelativeLaw S a c.args.offset c.seek_relative.result b) (λ t new. seek_relative_through _ t)
          c.deref_box_mut-1.result.now (search rules) c.seek_relative.new.self did;
    }

-- What the call did to the value in the box, it did to the box.
use Rattle.std.proofs.Common.{rules}
use Rattle.no_std_io2_base.{specs.Seek.{SeekLaw}, proofs.{TakesLemmas.{seeker}, CursorLemmas.{seeks_box, seek_through}}}
use Rattle.no_std_io2_base.proofs.impls.dyn_boxes.BoxDynSeekDropSeek.seek.Goals as goal

pub returns : goal.returns
returns g c =
    let o = goal.Seek-dyn g in
    record {
      law = seeks_box (λ p. seeker (o p).Stored (o p).Seek) c.args.self.now (λ X S a b. SeekLaw S a c.args.pos c.seek.result b)
          (λ t new. seek_through _ t) c.deref_box_mut-1.result.now (search rules) c.seek.new.self c.seek.ensures;
    }

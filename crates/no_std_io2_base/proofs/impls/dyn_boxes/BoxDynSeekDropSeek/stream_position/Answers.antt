-- What the call did to the value in the box, it did to the box.
use Rattle.std.proofs.Common.{rules}
use Rattle.no_std_io2_base.specs.Seek.{StreamPositionLaw}
use Rattle.no_std_io2_base.proofs.{TakesLemmas.{seeker}, CursorLemmas.{seeks_box, stream_position_through}}
use Rattle.no_std_io2_base.proofs.impls.dyn_boxes.BoxDynSeekDropSeek.stream_position.Goals as goal

pub returns : goal.returns
returns g c =
    let o = goal.Seek-dyn g in
    record {
      law = seeks_box (λ p. seeker (o p).Stored (o p).Seek) c.args.self.now (λ X S a b. StreamPositionLaw S a c.stream_position.result b)
          (λ t new. stream_position_through _ t) c.deref_box_mut-1.result.now (search rules) c.stream_position.new.self
          c.stream_position.ensures;
    }

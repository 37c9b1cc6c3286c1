-- What the call did to the value in the box, it did to the box.
use Rattle.std.proofs.Common.{rules}
use Rattle.no_std_io2_base.{specs.Seek.{RewindLaw}, proofs.{TakesLemmas.{seeker}, CursorLemmas.{seeks_box, rewind_through}}}
use Rattle.no_std_io2_base.proofs.impls.dyn_boxes.BoxDynSeekDropSeek.rewind.Goals as goal

pub returns : goal.returns
returns g c =
    let o = goal.Seek-dyn g in
    record {
      law = seeks_box (λ p. seeker (o p).Stored (o p).Seek) c.args.self.now (λ X S a b. RewindLaw S a c.rewind.result b)
          (λ t new. rewind_through _ t) c.deref_box_mut-1.result.now (search rules) c.rewind.new.self c.rewind.ensures;
    }

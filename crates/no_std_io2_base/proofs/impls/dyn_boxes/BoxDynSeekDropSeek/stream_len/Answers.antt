-- What the call did to the value in the box, it did to the box.
use Rattle.std.proofs.Common.{rules}
use Rattle.no_std_io2_base.{specs.Seek.{StreamLenLaw}, proofs.{TakesLemmas.{seeker}, CursorLemmas.{seeks_box, stream_len_through}}}
use Rattle.no_std_io2_base.proofs.impls.dyn_boxes.BoxDynSeekDropSeek.stream_len.Goals as goal

pub returns : goal.returns
returns g c =
    let o = goal.Seek-dyn g in
    record {
      law = seeks_box (λ p. seeker (o p).Stored (o p).Seek) c.args.self.now (λ X S a b. StreamLenLaw S a c.stream_len.result b)
          (λ t new. stream_len_through _ t) c.deref_box_mut-1.result.now (search rules) c.stream_len.new.self c.stream_len.ensures;
    }

-- What the call did to the value in the box, it did to the box.
use Rattle.std.proofs.Common.{rules}
use Rattle.no_std_io2_base.proofs.{TakesLemmas.{reader}, Forwards.{exact_box}}
use Rattle.no_std_io2_base.proofs.impls.dyn_buf_read_boxes.BoxDynBufReadDropRead.read_exact.Goals as goal

pub returns : goal.returns
returns g c =
    let o = goal.BufRead-dyn g in
    record {
      law = exact_box (λ p. reader (o p).Stored (o p).Read) c.args.self.now c.deref_box_mut-1.result.now
          (search rules) c.read_exact.new.self c.read_exact.ensures;
    }

-- What the call did to the value in the box, it did to the box.
use Rattle.std.proofs.Common.{rules, refl}
use Rattle.no_std_io2_base.proofs.{TakesLemmas.{reader}, Forwards.{fill_box, loan_box}}
use Rattle.no_std_io2_base.proofs.impls.dyn_buf_read_boxes.BoxDynBufReadDropBufRead.fill_buf.Goals as goal

pub returns : goal.returns
returns g c =
    let o = goal.BufRead-dyn g in (
      (
        refl,
        λ _. tt,
        loan_box (λ p. reader (o p).Stored (o p).Read) c.args.self.now c.fill_buf.result _ (search rules) c.fill_buf.follows.lender-at-none
            c.fill_buf.follows.holds-at-none,
      ),
      record {
        law = fill_box (λ p. reader (o p).Stored (o p).Read) c.args.self.now _ (search rules) c.fill_buf.ensures;
        after_borrow = tt;
      },
    )

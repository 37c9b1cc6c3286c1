-- What the call did to the value in the box, it did to the box.
use Rattle.std.proofs.Common.{rules, refl, ap, ◌∙◌}
use Rattle.no_std_io2_base.proofs.impls.boxes.BoxBufRead.fill_buf.Goals as goal

pub returns : goal.returns
returns g c =
    let after = c.fill_buf.follows.holds-at-none in (
      (
        refl,
        λ _. tt,
        record {
          lends = after.lends;
          takes = search rules;
          unchanged = λ some. ap (λ v. record c.args.self.now { value = v }) (after.unchanged (search rules) ∙ c.as_mut.ensures.value);
          end = search rules;
          call = search rules;
        },
      ),
      record { law = search rules; after_borrow = tt },
    )

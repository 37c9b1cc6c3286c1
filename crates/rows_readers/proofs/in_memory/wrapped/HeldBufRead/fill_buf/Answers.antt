-- The prover does not find what holds once the lent bytes are given back: what the call did to the buffer, it did to
-- what it stands in.
use Rattle.std.proofs.Common.{rules, refl, ap}
use Rattle.rows_readers.proofs.in_memory.wrapped.HeldBufRead.fill_buf.Goals as goal

pub returns : goal.returns
returns c =
    let after = c.fill_buf.follows.holds-at-none in (
      (
        refl,
        λ _. tt,
        record {
          lends = after.lends;
          takes = search rules;
          unchanged = λ some. ap (λ v. record c.args.self.now { reader = v }) (after.unchanged some);
          end = search rules;
          call = search rules;
        },
      ),
      record { law = search rules; after_borrow = tt },
    )

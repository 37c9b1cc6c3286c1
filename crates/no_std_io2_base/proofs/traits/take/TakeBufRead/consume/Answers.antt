-- The bytes are within the limit, from which the law of the inner `consume` gives that of this one.
use Rattle.std.proofs.Common.{◌≤◌, arith, refl, length-take}
use Rattle.no_std_io2_base.proofs.{ReadLoops.{some_bytes}, LimitLemmas.{consumed_inner}}
use Rattle.no_std_io2_base.proofs.traits.take.TakeBufRead.consume.Goals as goal

pub returns : goal.returns
returns g c =
    let within : c.args.amount ≤ c.args.self.now.limit =
    omega (arith, c.requires, length-take c.args.self.now.limit (g.T.Read.held c.args.self.now.inner)) in
    record { law = consumed_inner _ (some_bytes _ c.if-self-eq0.false) c.requires c.consume.ensures.law (omega (arith, within)) refl }

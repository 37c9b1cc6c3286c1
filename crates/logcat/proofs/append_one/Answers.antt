-- The prover does not see that the payload is the printed text.
use Rattle.no_std_io2.proofs.Words.{◌≡◌, ◌++◌, Ok, inr, subst, arith, common_steps}
use Rattle.std.specs.Prelude.{codes, decimal}
use Rattle.record_log.specs.Log.{Appends}
use Rattle.logcat.proofs.append_one.Goals as goal

pub returns-in_err-writeln : goal.returns-in_err-writeln
returns-in_err-writeln g c =
    let is : c.as_bytes.result.now ≡ codes "record " ++ decimal c.args.n = grind (arith, common_steps) in
    let appends = subst (λ l. Appends g.F.Write l c.args.log.now (Ok tt) c.append.new.self) is c.in_ok-append.ensures.appends in
    inr (_, appends, c.in_ok-sync.ensures.law)

pub returns : goal.returns
returns g c =
    let is : c.as_bytes.result.now ≡ codes "record " ++ decimal c.args.n = grind (arith, common_steps) in
    let appends = subst (λ l. Appends g.F.Write l c.args.log.now (Ok tt) c.append.new.self) is c.in_ok-append.ensures.appends in
    inr (_, appends, c.in_ok-sync.ensures.law)

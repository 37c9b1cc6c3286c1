-- The search does not put the bytes that wait in place of the slice that `write_rest` was given.
use Rattle.no_std_io2.proofs.Words.{◌-◌, length, drop, ap, subst, ◌∙◌}
use Rattle.no_std_io2.specs.Writers.{WriteRestOf}
use Rattle.bare.specs.Queue.{waiting}
use Rattle.bare.proofs.{QueueLemmas.{queue}, KeptLemmas.{resumed}}
use Rattle.bare.proofs.kept.send.Goals as goal

pub returns : goal.returns
returns c =
    let before = waiting c.args.kept.now in
    let sent = c.write_rest-sent in
    let left = sent.new.rest.now in
    resumed sent.result before left (waiting c.advance.new.self)
    (subst (λ x. WriteRestOf queue c.args.port.now x sent.result sent.new.self left) c.waiting-rest.ensures sent.ensures.law)
    (c.advance.ensures ∙ ap (λ l. drop (length l - length left) before) c.waiting.ensures)

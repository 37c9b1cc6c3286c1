-- The prover does not find which payloads were sent before the last call (`sent_more`).
use Rattle.no_std_io2.proofs.Words.{map, ap, refl, returned_err}
use Rattle.framing.proofs.SendingLemmas.{sent_none, sent_more, some_there, none_there, first_there}
use Rattle.framing.proofs.writer.FrameWriter.send_all.Goals as goal

pub frames-init : goal.frames-init
frames-init g c = sent_none g.W.Write _ _

pub frames-preserved : goal.frames-preserved
frames-preserved g c =
    sent_more g.W.Write _ _ c.frames.invariant
    (first_there c.frames.rest.now _ (some_there _ c.frames.rest.now c.is_empty.ensures c.frames-test.true)) c.in_ok-send.ensures.sends

pub returns-in_err-send : goal.returns-in_err-send
returns-in_err-send g c =
    let first = first_there c.frames.rest.now _ (some_there _ c.frames.rest.now c.is_empty.ensures c.frames-test.true) in
    rw (returned_err c.from_residual.ensures) (record { sends = (_, c.frames.invariant, rw first c.in_err-send.ensures.sends) })

pub returns : goal.returns
returns g c = record {
  sends = (
    _,
    c.frames.invariant,
    (ap (map (λ p. p.now)) (none_there _ c.frames.rest.now c.is_empty.ensures c.frames-test.false), refl),
  );
}

-- The last group was put and then all was sent, or one of them failed; the search does not join the two.
use Rattle.no_std_io2.proofs.Words.{[], refl, ◌∙◌, returned_err}
use Rattle.base64_stream.{specs.Finish.{group_stopped, text_flushed}, proofs.EncoderLemmas.{adds_sent, last_keeps, finished_if}}
use Rattle.base64_stream.proofs.encoder.EncoderWriter.finish.Goals as goal

pub returns-in_err-close-clause-keeps : goal.returns-in_err-close-clause-keeps
returns-in_err-close-clause-keeps g c =
    let (some, keeps, puts) = c.in_err-close.ensures.err in
    adds_sent g.W.Write c.args.self.now c.close.new.self _ puts.moves keeps []

pub returns-in_err-close-clause-finishes : goal.returns-in_err-close-clause-finishes
returns-in_err-close-clause-finishes g c =
    let (some, keeps, puts) = c.in_err-close.ensures.err in
    rw (returned_err c.from_residual.ensures) (group_stopped some puts keeps)

pub returns-clause-keeps : goal.returns-clause-keeps
returns-clause-keeps g c =
    let mid = c.close.new.self in
    let (last, closed, none) = c.in_ok-close.ensures.put in
    adds_sent g.W.Write mid (record mid { inner = c.flush.new.self }) _ c.flush.ensures.law.moves (refl, refl, refl, refl) []
    ∙ last_keeps g.W.Write c.args.self.now mid last none

pub returns-clause-done : goal.returns-clause-done
returns-clause-done g c =
    let mid = c.close.new.self in
    let (last, closed, none) = c.in_ok-close.ensures.put in
    finished_if g.W.Write c.args.self.now mid (record mid { inner = c.flush.new.self }) c.flush.result last none (refl, refl, refl, refl)
    c.flush.ensures.law.moves c.flush.ensures.law.empty closed

pub returns-clause-finishes : goal.returns-clause-finishes
returns-clause-finishes g c =
    let (last, closed, none) = c.in_ok-close.ensures.put in
    text_flushed c.close.new.self last c.flush.ensures.law closed none

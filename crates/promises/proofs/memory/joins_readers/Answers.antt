-- The prover does not join the events of three readers.
use Rattle.no_std_io2.proofs.{Words.{◌++◌, Some, ap, ap₂, ◌∙◌, events_of, event_bytes}, TakesLemmas.{bytes-append, bytes-events_of}}
use Rattle.no_std_io2.proofs.CursorLemmas.{told_at}
use Rattle.no_std_io2.specs.{inner.Events.{cut}, inner.Cursor.{cursor_left}, inner.Chain.{both_to_come}, inner.Take.{cut_to_come}}
use Rattle.promises.proofs.PatientReads.{drained}
use Rattle.promises.proofs.memory.joins_readers.Goals as goal

pub returns : goal.returns
returns g c = λ E told.
    let slice = g.T.AsSlice.slice in
    let head = cut c.args.limit E in
    let q = events_of c.args.q.items in
    let left = events_of (cursor_left slice c.args.c) in
    let first = c.take.ensures.events ∙ ap (cut_to_come c.args.limit) told in
    let both = c.chain.ensures.events ∙ ap (λ o. both_to_come o (Some q)) first in
    drained {E = (head ++ q) ++ left} c.read_to_end.result c.read_to_end.ensures.law
    (c.chain-2.ensures.events ∙ ap₂ both_to_come both (told_at (slice c.args.c.inner) c.args.c.pos))
    (bytes-append (head ++ q) left
    ∙ ap₂ (λ x y. x ++ y) (bytes-append head q ∙ ap (λ l. event_bytes head ++ l) (bytes-events_of c.args.q.items))
    (bytes-events_of (cursor_left slice c.args.c)))

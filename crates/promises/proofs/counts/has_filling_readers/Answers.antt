-- The prover does not name the lemmas.
use Rattle.no_std_io2.proofs.{LimitLemmas.{limit_fills}, InMemoryReads.{fills_passing, cursor_reader, cursor_fills, slice_fills}}
use Rattle.promises.proofs.counts.has_filling_readers.Goals as goal

pub returns-clause-cursor : goal.returns-clause-cursor
returns-clause-cursor g c =
    let slice = g.T.AsSlice.slice in
    let t = c.args.t.now in
    limit_fills t (fills_passing (λ b. b.value) (cursor_reader slice) (λ a b call did. did) t.inner (cursor_fills slice t.inner.value))

pub returns-clause-slice : goal.returns-clause-slice
returns-clause-slice g c = slice_fills c.args.s.now

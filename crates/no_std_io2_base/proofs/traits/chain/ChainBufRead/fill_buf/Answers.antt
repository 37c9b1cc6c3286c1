-- At the end of the first reader: the search does not get through the laws of both calls.
use Rattle.std.proofs.Common.{◌≡◌, [], refl}
use Rattle.no_std_io2_base.proofs.{TakesLemmas.{reader}, PieceLoops.{filled_law}, TextLemmas.{is_empty}, ToEndLemmas.{lends_second}}
use Rattle.no_std_io2_base.proofs.traits.chain.ChainBufRead.fill_buf.Goals as goal

pub returns-then-is_empty : goal.returns-then-is_empty
returns-then-is_empty g c =
    let none : c.in_ok-fill_buf.field-0.now ≡ [] = is_empty _ _ c.is_empty.ensures c.if-is_empty.true in
    let first = filled_law c.in_ok-fill_buf.was c.fill_buf-2.ensures.law c.fill_buf-2.follows.holds-at-none in
    let both = lends_second (reader g.T.Stored g.T.Read) (reader g.U.Stored g.U.Read) c.fill_buf-then-is_empty.result c.if-self.false refl
    (rw none at first) c.fill_buf-then-is_empty.ensures.law c.fill_buf-then-is_empty.follows.holds-at-none in
    ((refl, λ _. tt, both.1), record { law = both.0; after_borrow = tt })

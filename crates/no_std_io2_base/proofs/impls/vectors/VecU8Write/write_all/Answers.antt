-- The law: the search does not find which bytes an error left out.
use Rattle.std.specs.Vec.{vec_len, vec_capacity}
use Rattle.no_std_io2_base.proofs.{CallsLemmas.{own_law}, CursorLemmas.{appends_whole, appends_all}}
use Rattle.no_std_io2_base.proofs.impls.vectors.VecU8Write.write_all.Goals as goal

pub returns-clause-law : goal.returns-clause-law
returns-clause-law g c =
    let said = c.append.ensures in
    let whole = appends_whole _ _ _ (vec_len c.args.self.now)
    (vec_capacity c.args.self.now) c.append.result said.ok said.err said.refused said.full in
    let all = appends_all _ _ c.append.result whole in
    own_law ((whole, said.grows), all.0, all.1, λ h. h)

-- The boxed slice has the written bytes: the search does not find that its length stays.
use Rattle.std.{proofs.Common.{◌≡◌, ◌∙◌, take_at}, specs.Box.{boxed_slice_items, boxed_slice_with_items}}
use Rattle.no_std_io2_base.proofs.{CallsLemmas.{own_law}, CursorLemmas.{fits_all}}
use Rattle.no_std_io2_base.proofs.cursor.slices.CursorBoxedSliceU8Write.write_all.Goals as goal

pub returns : goal.returns
returns g c =
    let put = c.write_all_fitting.new in
    let all = c.args.self.now.inner in
    let kept : boxed_slice_items (boxed_slice_with_items all put.content) ≡ put.content =
    take_at _ _ _ (c.write_all_fitting.auto.content ∙ c.as_mut_slice.ensures.len) in
    let puts = rw (c.as_mut_slice.ensures.value, ← kept) at c.write_all_fitting.ensures in
    let said = fits_all _ _ c.write_all_fitting.result puts in
    record { law = own_law (puts, said.0, said.1, λ h. h); puts = puts }

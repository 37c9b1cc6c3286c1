-- The boxed slice has the written bytes: the search does not find that its length stays.
use Rattle.std.{proofs.Common.{◌≡◌, ◌∙◌, rules, take_at}, specs.Box.{boxed_slice_items, boxed_slice_with_items}}
use Rattle.no_std_io2_base.proofs.CursorLemmas.{fits_moves}
use Rattle.no_std_io2_base.proofs.cursor.slices.CursorBoxedSliceU8Write.write.Goals as goal

pub returns : goal.returns
returns g c = record {
  law =
      let put = c.write_fitting.new in
      let all = c.args.self.now.inner in
      let kept : boxed_slice_items (boxed_slice_with_items all put.content) ≡ put.content =
      take_at _ _ _ (c.write_fitting.auto.content ∙ c.as_mut_slice.ensures.len) in
      record {
        bound = search rules;
        moves = rw kept
            (rw c.as_mut_slice.ensures.value at (fits_moves _ _ _ c.write_fitting.ensures.count c.write_fitting.ensures.puts));
        all = λ h. absurd h.0;
        call = search rules;
      };
}

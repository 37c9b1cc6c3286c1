-- The law: the search does not find where the bytes of the slice are split.
use Rattle.std.proofs.{lemmas.Grind.{common_steps}, Common.{arith}, lemmas.List.{take_rest}}
use Rattle.no_std_io2_base.proofs.InMemoryReads.{split_at, takes_left}
use Rattle.no_std_io2_base.proofs.impls.slices.RefSliceU8BufRead.consume.Goals as goal

pub returns : goal.returns
returns c = grind (arith, common_steps, take_rest, takes_left, split_at)

-- The law: the search does not find where the bytes of the slice are split.
use Rattle.std.proofs.{Common.{arith, take_at, length-take-le}, lemmas.Grind.{common_steps}, lemmas.List.{take_rest}}
use Rattle.no_std_io2_base.proofs.InMemoryReads.{split_at, takes_left, read_left}
use Rattle.no_std_io2_base.proofs.impls.slices.RefSliceU8Read.read.Goals as goal

pub returns : goal.returns
returns c = grind (arith, common_steps, take_at, length-take-le, split_at, take_rest, read_left, takes_left)

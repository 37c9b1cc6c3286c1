-- The two copies overlap: the search does not find where the slice is split.
use Rattle.std.proofs.{Common.{arith}, lemmas.{Grind.{common_steps}, List.{take-take, take-append-le}}, Math.ListN.{drop_of_length-le}}
use Rattle.std.proofs.lemmas.Simd.{length-chunk, length-put_chunk, put_chunk_is}
use Rattle.no_std_io2_base.proofs.impls.copying.copy_ends.Goals as goal

pub returns : goal.returns
returns g c = grind (arith, common_steps, length-chunk, length-put_chunk, put_chunk_is, take-append-le, take-take, drop_of_length-le)

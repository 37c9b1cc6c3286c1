-- All reads so far were interrupted. The reader's turns bound the loop.
use Rattle.std.proofs.Common.{◌≡◌, [], length, Ok, true}
use Rattle.no_std_io2_base.{specs.inner.{Iterators.{bytes_reader}, Reads.{Reads}}, proofs.TakesLemmas.{reader}}
use Rattle.no_std_io2_base.proofs.traits.bytes.BytesIterator.next.Given as goal

abbrev pub invariant-reads : goal.invariant-reads
invariant-reads g l = record {
  long : length l.one ≡ 1;
  reads : Reads (reader g.R.Stored g.R.Read) (λ _ room. room ≡ 1) (bytes_reader l.initial.self) [] (Ok true) (bytes_reader l.self);
}

abbrev pub decreases-reads : goal.decreases-reads
decreases-reads g l = g.R.Read.turns (bytes_reader l.self)

-- Members were passed over, and their lines were printed.
use Rattle.no_std_io2.proofs.{Words.{[], Moves}, TakesLemmas.{reader}}
use Rattle.tar.{specs.Archives.{archive_turns}, proofs.MemberLemmas.{Skipping}}
use Rattle.tar_list.specs.Listing.{member_lines}
use Rattle.tar_list.proofs.list.Given as goal

abbrev pub invariant-members : goal.invariant-members
invariant-members g l = record {
  skipped : Skipping (reader g.R.Stored g.R.Read) l.initial.archive l.archive;
  printed : Moves (g.W.Write.told l.initial.out) (member_lines skipped.headers) [] (g.W.Write.told l.out);
}

abbrev pub decreases-members : goal.decreases-members
decreases-members g l = archive_turns g.R.Read.turns l.archive

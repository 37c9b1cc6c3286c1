-- The prover does not find these by induction over the pieces.
use Rattle.no_std_io2.proofs.PieceLemmas.{pieces_are, pieces_only}
use Rattle.promises.proofs.memory.has_one_list_of_pieces.Goals as goal

pub returns-clause-hold : goal.returns-clause-hold
returns-clause-hold c = pieces_are

pub returns-clause-determine : goal.returns-clause-determine
returns-clause-determine c = pieces_only

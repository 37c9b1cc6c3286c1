-- The law, from how many bytes fit: the search does not find the lemma for it.
use Rattle.std.proofs.Common.{rules}
use Rattle.no_std_io2_base.proofs.CursorLemmas.{fits_moves}
use Rattle.no_std_io2_base.proofs.cursor.slices.CursorArrayU8Write.write.Goals as goal

pub returns : goal.returns
returns g c = record {
  law = record {
    bound = search rules;
    moves = fits_moves _ _ _ c.write_fitting.ensures.count c.write_fitting.ensures.puts;
    all = λ h. absurd h.0;
    call = search rules;
  };
}

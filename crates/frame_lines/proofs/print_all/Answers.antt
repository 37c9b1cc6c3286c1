-- The prover does not find the result of `print_frames` behind the reason.
use Rattle.no_std_io2.proofs.Words.{Err, refl}
use Rattle.frame_lines.proofs.print_all.Goals as goal

pub returns-in-Err : goal.returns-in-Err
returns-in-Err g c =
    record {
      printed = Err c.in-Err.e;
      prints = c.in-Err.ensures.prints;
      answer = (_, refl, rw (c.get_ref.ensures, c.get_ref-in-Err.ensures) at c.of_either.ensures);
    }

-- The bytes of both numbers were taken; the search does not join them, and does not see that a signed number is returned as it is.
use Rattle.no_std_io2.proofs.{Words.{rules, to_z-of_z, inl, inr, refl, returned_err}, TakesLemmas.{Took-then}}
use Rattle.std.{proofs.Common.{FitsSigned}, specs.Int.{w16}}
use Rattle.byteorder.specs.Endian.{big_bytes, big_number}
use Rattle.numbers.proofs.SpelledLemmas.{big_spells, takes_byte, takes_signed}
use Rattle.numbers.proofs.chunk_header.read_step.Goals as goal

pub returns-in_err-axis-clause-reads : goal.returns-in_err-axis-clause-reads
returns-in_err-axis-clause-reads g c = rw (returned_err c.from_residual.ensures) (inl (_, refl, c.in_err-axis.ensures.reads))

pub returns-in_err-length-clause-reads : goal.returns-in_err-length-clause-reads
returns-in_err-length-clause-reads g c = rw (returned_err c.from_residual-in_err-length.ensures)
    (inr (_, _, _, c.in_ok-axis.ensures.reads, c.in_err-length.ensures.reads, refl))

pub returns : goal.returns
returns g c =
    let x = c.in_ok-length.length in
    let fits : FitsSigned w16 x = search rules in
    let axis = c.in_ok-axis.ensures.reads in
    let length = c.in_ok-length.ensures.reads in
    rw (to_z-of_z w16 x fits) (record {
      reads = inr (_, _, _, axis, length, refl);
      takes = Took-then (takes_byte axis) (takes_signed w16 big_number (big_bytes 2) (big_spells 2) length);
    })

-- The prover does not find the header, and the file that was opened.
use Rattle.no_std_io2.proofs.Words.{inl, inr}
use Rattle.tar_make.proofs.add_named.Goals as goal

pub returns-then-not-is_file : goal.returns-then-not-is_file
returns-then-not-is_file g c = inr (_, c.in-Ok.found, c.in-Ok-header_of.ensures, inl c.add_header.ensures)

pub returns-in-Ok-open : goal.returns-in-Ok-open
returns-in-Ok-open g c = inr (_, c.in-Ok.found, c.in-Ok-header_of.ensures, inr (_, _, c.in-Ok-open.ensures, c.add_file.ensures))

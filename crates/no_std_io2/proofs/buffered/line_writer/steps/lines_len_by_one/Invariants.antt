-- No byte from `at` on is a newline.
use Rattle.no_std_io2.proofs.Words.{◌≤◌, ◌≢◌, length, newline}
use Rattle.std.specs.List.{AllWithin}
use Rattle.no_std_io2.proofs.buffered.line_writer.steps.lines_len_by_one.Given as goal

abbrev pub invariant-bytes : goal.invariant-bytes
invariant-bytes l = (l.at ≤ length l.x) × AllWithin (λ b. b ≢ newline) l.x l.at (length l.x)

abbrev pub decreases-bytes : goal.decreases-bytes
decreases-bytes l = l.at

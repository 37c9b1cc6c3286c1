-- No byte from `at` on is a newline.
use Rattle.no_std_io2.proofs.Words.{◌≤◌, ◌≢◌, length, newline}
use Rattle.std.specs.List.{AllWithin}
use Rattle.bare.proofs.log.has_newline.Given as goal

abbrev pub invariant-bytes : goal.invariant-bytes
invariant-bytes l = (l.at ≤ length l.text) × AllWithin (λ b. b ≢ newline) l.text l.at (length l.text)

abbrev pub decreases-bytes : goal.decreases-bytes
decreases-bytes l = l.at

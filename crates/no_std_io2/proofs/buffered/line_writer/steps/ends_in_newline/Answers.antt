-- A comparison of two options is a test of the last byte.
use Rattle.no_std_io2.proofs.Words.{common_steps, nat_tests, refl, ◌≡◌, ℕ, ◌-◌, ◌==◌, Option, Some, List, length, arith, ◌∙◌, newline}
use Rattle.std.specs.{Borrow.{Bor}, Option.{option_eq}, Slice.{IsGetResult}, Io.BufRead.{ends_with_byte}}
use Rattle.no_std_io2.proofs.buffered.line_writer.steps.ends_in_newline.Goals as goal

by_last : (bs : List ℕ) (r : Option (Bor ℕ)) (end : Bor ℕ) → end.now ≡ newline → IsGetResult bs 0 (length bs - 1) r
    → option_eq (λ (x : Bor ℕ) (y : Bor ℕ). x.now == y.now) r (Some end) ≡ ends_with_byte newline bs
by_last bs last end is item = grind (arith, nat_tests, common_steps, newline)

pub returns : goal.returns
returns c = c.eq.ensures ∙ by_last c.args.bytes.now c.last.result _ refl c.last.ensures.item

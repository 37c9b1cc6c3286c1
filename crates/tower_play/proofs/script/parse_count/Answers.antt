-- The prover does not find that digits are UTF-8 (`IsAscii-from_digits`).
use Rattle.no_std_io2.proofs.Words.{rules}
use Rattle.std.{specs.Str.{IsUtf8}, proofs.lemmas.{Fmt.{IsAscii-from_digits}, Str.{IsUtf8-from_ascii}}}
use Rattle.tower_play.proofs.script.parse_count.Goals as goal

pub returns-in_err-ok-clause-none : goal.returns-in_err-ok-clause-none
returns-in_err-ok-clause-none c =
    let no_text : IsUtf8 c.args.digits.now → ⊥ = search rules in
    rw c.from_residual.ensures (λ n count. no_text (IsUtf8-from_ascii _ (IsAscii-from_digits _ count.numeral.1)))

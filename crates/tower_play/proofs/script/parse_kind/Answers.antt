-- The prover does not find that the name of each kind is UTF-8 (`kind_name-IsUtf8`).
use Rattle.no_std_io2.proofs.Words.{subst, sym, rules}
use Rattle.std.specs.Str.{IsUtf8}
use Rattle.tower_play.proofs.ScriptLemmas.{kind_name-IsUtf8}
use Rattle.tower_play.proofs.script.parse_kind.Goals as goal

pub returns-in_err-ok-clause-none : goal.returns-in_err-ok-clause-none
returns-in_err-ok-clause-none c =
    let no_text : IsUtf8 c.args.name.now → ⊥ = search rules in
    rw c.from_residual.ensures (λ kind e. no_text (subst IsUtf8 (sym e) (kind_name-IsUtf8 kind)))

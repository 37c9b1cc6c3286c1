-- The prover does not find that no line with such a text is a step (`no_write`, `no_write_all`).
use Rattle.no_std_io2.proofs.Words.{◌≡◌, ◌∷◌, rules}
use Rattle.tower_play.proofs.ScriptLemmas.{no_write, no_write_all}
use Rattle.tower_play.proofs.script.parse_line.Goals as goal

pub returns-in-None-text_argument-clause-bad : goal.returns-in-None-text_argument-clause-bad
returns-in-None-text_argument-clause-bad c = λ _ it.
    let line : c.args.line.now ≡ 119 ∷ c.in-Some.rest.now = search rules in
    no_write line c.in-None-text_argument.ensures.none it

pub returns-in-None-text_argument-2-clause-bad : goal.returns-in-None-text_argument-2-clause-bad
returns-in-None-text_argument-2-clause-bad c = λ _ it.
    let line : c.args.line.now ≡ 97 ∷ c.in-Some.rest.now = search rules in
    no_write_all line c.in-None-text_argument-2.ensures.none it

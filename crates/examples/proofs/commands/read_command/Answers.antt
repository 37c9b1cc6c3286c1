-- A known command comes back by `until_known`, a lemma that the search does not have.
use Rattle.no_std_io2.proofs.{Words.{Ok, Err, ap, ◌∙◌, ◌++◌, ◌∷◌, [], returned_err}, KnownPieces.{until_known}}
use Rattle.examples.proofs.commands.read_command.Goals as goal

pub returns-in_err-read_until-clause-back : goal.returns-in_err-read_until-clause-back
returns-in_err-read_until-clause-back g c = λ command rest lacks told.
    let (fine, refused) = until_known (Err c.in_err-read_until.field-0.0) command rest c.in_err-read_until.ensures.law lacks told in
    rw (returned_err c.from_residual.ensures) (fine, refused.0)

pub returns-clause-back : goal.returns-clause-back
returns-clause-back g c = λ command rest lacks told.
    let (known, fine) = until_known (Ok c.in_ok-read_until.field-0) command rest c.in_ok-read_until.ensures.law lacks told in
    ((known.1 ∙ ap (λ l. l ++ (command ++ (c.args.end ∷ []))) c.new-command.ensures.items, known.2), tt)

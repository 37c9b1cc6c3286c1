-- The law, field by field: the form in which the check names the fields that it cannot prove.
use Rattle.no_std_io2.proofs.Words.{rules}
use Rattle.examples.proofs.narrow.NarrowWrite.write.Goals as goal

pub returns : goal.returns
returns c = record {
  law = record {
    bound = search rules;
    moves = record { front = search rules; bytes = search rules; mishaps = search rules; turns = search rules };
    all = search rules;
    call = search rules;
  };
}

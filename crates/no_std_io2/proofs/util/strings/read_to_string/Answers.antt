-- The string that was read into, and its reader, are gone from the goal.
use Rattle.std.proofs.{Common.{arith, refl}, lemmas.Grind.{common_steps}}
use Rattle.no_std_io2.proofs.util.strings.read_to_string.Goals as goal

pub returns-in_err-read_to_string : goal.returns-in_err-read_to_string
returns-in_err-read_to_string g c = record {
  law = record {
    unused = c.new-text.result;
    none = c.new-text.ensures.bytes;
    reply = _;
    string = c.read_to_string.new.buf;
    new = c.read_to_string.new.self;
    law = c.in_err-read_to_string.ensures.law;
    answers = grind (arith, common_steps);
  };
}

pub returns : goal.returns
returns g c = record {
  law = record {
    unused = c.new-text.result;
    none = c.new-text.ensures.bytes;
    reply = _;
    string = c.read_to_string.new.buf;
    new = c.read_to_string.new.self;
    law = c.in_ok-read_to_string.ensures.law;
    answers = refl;
  };
}

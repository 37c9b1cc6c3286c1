-- The prover does not join the two words and the command that they name.
use Rattle.no_std_io2.proofs.Words.{◌≡◌, List, Option, Some, None}
use Rattle.std.{proofs.Common.{IfSome, String, string_bytes}, specs.Global.{Global}}
use Rattle.iotower.specs.{declared.Command.{Command}, Words.{AreWords, NamesCommand, verb_of, mode_of}}
use Rattle.iotower.proofs.named_command.Goals as goal

-- the words of a command name it
named_by : (words : List (String Global)) (verb mode : String Global) → AreWords words verb mode → (found : Option Command)
    → IfSome found (λ command. (string_bytes verb ≡ verb_of command) × (string_bytes mode ≡ mode_of command))
    → IfSome found (λ command. NamesCommand command words)
named_by words verb mode are (Some command) is = (verb, mode, are, is.0, is.1)
named_by words verb mode are None is = tt

pub returns-in-Some-clause-some : goal.returns-in-Some-clause-some
returns-in-Some-clause-some c =
    named_by _ c.in-Some.verb c.in-Some.mode c.in-Some.ensures.two _
    (rw (c.as_str.ensures.value, c.as_str-in-Some.ensures.value) at c.command_of.ensures.some)

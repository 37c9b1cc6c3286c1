-- The prover does not find that arguments were found.
use Rattle.no_std_io2.proofs.Words.{◌≡◌, ◌≢◌, List, Option, Some, None, Result, Ok, Err, IfOk, IfErr, subst}
use Rattle.no_std_io2.specs.declared.io.Error.{Error}
use Rattle.std.{proofs.Common.{IfSome, IfNone, String}, specs.Global.{Global}}
use Rattle.iotower.specs.{declared.Command.{Command}, Words.{NamesCommand, AsksOf}}
use Rattle.std.specs.IoError as Io
use Rattle.std.specs.declared.io.Error as Std
use Rattle.std.specs.declared.io.ErrorKind.TheVariants as kind
use Rattle.iotower.proofs.asked.Goals as goal

-- `arguments` returned this
abbrev returned : {T : Type 0} → Option T → Result (Option T) Error
returned words = Ok words

-- what is asked of words that `arguments` returned
asks_of : {T : Type 0} (words : T → List (String Global)) (x : T) (found : Result T Std.Error) (asked : Option Command)
    → IfOk found (λ y. returned (Some x) ≡ returned (Some y))
    → IfErr found (λ e. Io.error_kind e ≡ kind.OutOfMemory → ⊥)
    → IfErr found (λ e. Io.error_kind e ≢ kind.OutOfMemory → returned (Some x) ≡ returned None)
    → IfSome asked (λ command. NamesCommand command (words x))
    → IfNone asked ((command : Command) → NamesCommand command (words x) → ⊥) → AsksOf words found (Ok asked)
asks_of words x (Ok y) (Some command) same memory text some none =
    subst (λ z. NamesCommand command (words z)) (let is : x ≡ y = cc in is) some
asks_of words x (Ok y) None same memory text some none =
    λ command names. none command (subst (λ z. NamesCommand command (words z)) (let is : y ≡ x = cc in is) names)
asks_of words x (Err e) asked same memory text some none = absurd (let no : ⊥ = cc (text memory) in no)

pub returns-in-Ok-Some : goal.returns-in-Ok-Some
returns-in-Ok-Some c =
    let found = rw c.in-Ok-Some.field-0-is at c.in-Ok-Some.ensures in
    asks_of _ c.in-Ok-Some.words c.args.found c.named_command.result found.found found.memory found.text c.named_command.ensures.some
    c.named_command.ensures.none

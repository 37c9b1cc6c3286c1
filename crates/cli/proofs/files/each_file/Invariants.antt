-- The names so far were tried.
use Rattle.no_std_io2.proofs.Words.{take}
use Rattle.std.specs.Prelude.{string_bytes}
use Rattle.cli.specs.Files.{TriesEach}
use Rattle.cli.proofs.files.each_file.Given as goal

abbrev pub invariant-names : goal.invariant-names
invariant-names g l = TriesEach (λ a name. g.P.PerFile.may_try a (string_bytes name))
    (λ a name. g.P.PerFile.may_tell_of a (string_bytes name))
    l.initial.work (take l.name-index l.names) l.whole l.work

-- What `play` prints.
use Rattle.std.specs.{Prelude.{ℕ, codes, List, ◌++◌}, Fmt.{decimal}, List.{flat_map}}
use Rattle.no_std_io2.specs.inner.Errors.{error_display}
use Rattle.io_bench.specs.declared.runs.Reply.{Reply, TheVariants.{Took, Done, Failed}}
use Rattle.tower_play.specs.Script.{escaped}

-- the line of a reply
abbrev pub reply_line : Reply → List ℕ
reply_line (Took n) = codes "took=" ++ decimal n ++ codes "\n"
reply_line Done = codes "done\n"
reply_line (Failed e) = codes "failed=" ++ error_display e ++ codes "\n"

-- the lines of replies, and then the bytes that are out and those that are held
abbrev pub printed_report : List Reply → List ℕ → List ℕ → List ℕ
printed_report replies out held =
    flat_map reply_line replies ++ codes "out=" ++ escaped out ++ codes "\nheld=" ++ escaped held ++ codes "\n"

use Rattle.no_std_io2.proofs.Words.{◌≡◌, take}
use Rattle.std.specs.List.{flat_map}
use Rattle.tower_play.specs.Report.{reply_line}
use Rattle.tower_play.proofs.report.report_of.Given as goal

abbrev pub invariant-replies : goal.invariant-replies
invariant-replies g l = l.text.items ≡ flat_map reply_line (take l.reply-index l.replies)

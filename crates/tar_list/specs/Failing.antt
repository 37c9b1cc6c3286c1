-- Why the program failed, and what it prints then.
use Rattle.std.specs.{Prelude.{◌≡◌, ℕ, List, ◌++◌, codes, Option, Some, String, string_bytes}, Global.{Global}}
use Rattle.no_std_io2.specs.inner.Errors.{error_display}
use Rattle.cli.specs.{declared.reason.Reason.{Reason}, Reasons.{IsReasonOfEither, reason_text}}
use Rattle.tar_list.specs.declared.{CopyFault.{CopyFault, TheVariants.{Member as MemberFault, Stream as StreamFault}}, Failure.{Failure}}
use Rattle.tar_list.specs.declared.Failure.TheVariants.{Member, Stream}
use Rattle.std.specs.declared.io.Error as Std

-- the text of a failure, if it is known: what is wrong with a member stands behind its name
abbrev pub failure_text : Failure → Option (List ℕ)
failure_text (Stream why) = reason_text why
failure_text (Member name e) = Some (string_bytes name ++ (codes ": " ++ error_display e))

-- why a copy of the member with this name failed, by the last errors of the devices of the input and the output
abbrev pub CopyFails : String Global → CopyFault → Option Std.Error → Option Std.Error → Failure → Type 0
CopyFails name (MemberFault e) input output failure = failure ≡ Member name e
CopyFails name (StreamFault e) input output failure =
    (why : Reason) × (failure ≡ Stream why) × IsReasonOfEither input output e why

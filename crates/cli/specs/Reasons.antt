-- Why a call of a stream failed.
use Rattle.std.specs.Prelude.{◌≡◌, ◌≢◌, ◌⊎◌, ℕ, List, Option, Some, None, IsSomeAnd}
use Rattle.no_std_io2.specs.{declared.io.Error.{Error}, inner.Errors.{error_display}}
use Rattle.cli.specs.declared.reason.Reason.{Reason, TheVariants.{System, Own}}
use Rattle.system_streams.specs.Turns.{IsDeviceFault}
use Rattle.std.specs.IoError as Io
use Rattle.std.specs.declared.io.Error as Std
use Rattle.std.specs.declared.io.ErrorKind.TheVariants as kind

-- a device failed: its last error is a fault, and no interruption
abbrev pub HasFailed : Option Std.Error → Type 0
HasFailed last = IsSomeAnd last (λ e. Io.error_kind e ≢ kind.Interrupted)

-- The reason for an error of a stream, by the last error of its device: this one for a device fault, if the device failed, and else the
-- error of the stream.
abbrev pub IsReason : Option Std.Error → Error → Reason → Type 0
IsReason last fault (System e) = IsDeviceFault fault × (last ≡ Some e) × (Io.error_kind e ≢ kind.Interrupted)
IsReason last fault (Own e) = (e ≡ fault) × (IsDeviceFault fault → HasFailed last → ⊥)

-- The reason for an error of a call of two streams, by the last errors of their devices: that of the input, if its device failed, and else
-- that of the output.
abbrev pub IsReasonOfEither : Option Std.Error → Option Std.Error → Error → Reason → Type 0
IsReasonOfEither input output fault why =
    (HasFailed input × IsReason input fault why) ⊎ ((HasFailed input → ⊥) × IsReason output fault why)

-- the text of a reason, if it is known: that of the system is not
abbrev pub reason_text : Reason → Option (List ℕ)
reason_text (System e) = None
reason_text (Own e) = Some (error_display e)

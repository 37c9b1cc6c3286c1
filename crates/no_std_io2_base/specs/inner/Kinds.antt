-- What kinds and texts of errors are.
use Rattle.std.specs.Prelude.{ℕ, Bool, true, false, List, codes, Option, None, Some}
use Rattle.no_std_io2_base.specs.{declared.error.Error.{Error}, declared.error.Repr.{Repr}, declared.error.Repr.TheVariants.{Kind, Custom}}
use Rattle.no_std_io2_base.specs.declared.error.ErrorKind.TheVariants.{NotFound, PermissionDenied, ConnectionRefused, ConnectionReset}
use Rattle.no_std_io2_base.specs.declared.error.ErrorKind.TheVariants.{ConnectionAborted, NotConnected, AddrInUse, AddrNotAvailable}
use Rattle.no_std_io2_base.specs.declared.error.ErrorKind.TheVariants.{BrokenPipe, AlreadyExists, WouldBlock, InvalidInput, InvalidData}
use Rattle.no_std_io2_base.specs.declared.error.ErrorKind.TheVariants.{TimedOut, WriteZero, Interrupted, Other, UnexpectedEof, Unsupported}
use Rattle.no_std_io2_base.specs.{declared.error.ErrorKind.{ErrorKind}, declared.error.ErrorKind.TheVariants.{OutOfMemory, Uncategorized}}

-- the text of either form, if it has one
abbrev repr_text : Repr → Option (List ℕ)
repr_text (Kind _) = None
repr_text (Custom _ text) = Some text.now

-- the text of an error, if it has one
abbrev pub error_text : Error → Option (List ℕ)
error_text e = repr_text e.repr

-- what a kind prints
abbrev pub kind_text : ErrorKind → List ℕ
kind_text NotFound = codes "entity not found"
kind_text PermissionDenied = codes "permission denied"
kind_text ConnectionRefused = codes "connection refused"
kind_text ConnectionReset = codes "connection reset"
kind_text ConnectionAborted = codes "connection aborted"
kind_text NotConnected = codes "not connected"
kind_text AddrInUse = codes "address in use"
kind_text AddrNotAvailable = codes "address not available"
kind_text BrokenPipe = codes "broken pipe"
kind_text AlreadyExists = codes "entity already exists"
kind_text WouldBlock = codes "operation would block"
kind_text InvalidInput = codes "invalid input parameter"
kind_text InvalidData = codes "invalid data"
kind_text TimedOut = codes "timed out"
kind_text WriteZero = codes "write zero"
kind_text Interrupted = codes "operation interrupted"
kind_text Other = codes "other os error"
kind_text UnexpectedEof = codes "unexpected end of file"
kind_text Unsupported = codes "unsupported I/O error"
kind_text OutOfMemory = codes "out of memory"
kind_text Uncategorized = codes "uncategorized"

-- a kind's place in the order of declaration
abbrev pub kind_number : ErrorKind → ℕ
kind_number NotFound = 1
kind_number PermissionDenied = 2
kind_number ConnectionRefused = 3
kind_number ConnectionReset = 4
kind_number ConnectionAborted = 5
kind_number NotConnected = 6
kind_number AddrInUse = 7
kind_number AddrNotAvailable = 8
kind_number BrokenPipe = 9
kind_number AlreadyExists = 10
kind_number WouldBlock = 11
kind_number InvalidInput = 12
kind_number InvalidData = 13
kind_number TimedOut = 14
kind_number WriteZero = 15
kind_number Interrupted = 16
kind_number Other = 17
kind_number UnexpectedEof = 18
kind_number Unsupported = 19
kind_number OutOfMemory = 20
kind_number Uncategorized = 21

-- an error of this kind, without a text
abbrev pub error_of : ErrorKind → Error
error_of kind = record { repr = Kind kind }

-- errors of this kind are interruptions, all others are faults
abbrev pub is_interruption : ErrorKind → Bool
is_interruption Interrupted = true
is_interruption _ = false

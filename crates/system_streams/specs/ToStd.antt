-- The stream in a `ToStd`, the bytes that it tells, and its results.
use Rattle.std.specs.Prelude.{◌≡◌, ℕ, List, ◌++◌, Ok, Err, Result, Option, option_map}
use Rattle.no_std_io2.specs.declared.io.{Error.{Error}, ErrorKind.{ErrorKind, TheVariants.{NotFound, PermissionDenied, ConnectionRefused}}}
use Rattle.no_std_io2.specs.declared.io.ErrorKind.TheVariants.{ConnectionReset, ConnectionAborted, NotConnected, AddrInUse}
use Rattle.no_std_io2.specs.declared.io.ErrorKind.TheVariants.{AddrNotAvailable, BrokenPipe, AlreadyExists, WouldBlock, InvalidInput}
use Rattle.no_std_io2.specs.declared.io.ErrorKind.TheVariants.{InvalidData, TimedOut, WriteZero, Interrupted, Other, UnexpectedEof}
use Rattle.no_std_io2.specs.{declared.io.ErrorKind.TheVariants.{Unsupported, OutOfMemory, Uncategorized}, Errors.{error_kind}}
use Rattle.no_std_io2.specs.{Events.{event_bytes, Store}, Takes.{ReaderState, to_come}, Moves.{WriterState}}
use Rattle.system_streams.specs.declared.to_std.ToStd.{ToStd}
use Rattle.std.specs.IoError as Io
use Rattle.std.specs.declared.io.Error as Std
use Rattle.std.specs.declared.io.ErrorKind as StdKind
use Rattle.std.specs.declared.io.ErrorKind.TheVariants as kind

-- `s.into_inner()`
abbrev pub std_inner : {T : Type 0} → ToStd T → T
std_inner s = s.inner

-- the bytes to come, if events are told
abbrev pub bytes_to_come : ReaderState → Option (List ℕ)
bytes_to_come t = option_map event_bytes (to_come t)

-- the content of a told store
abbrev pub content_of : Option Store → Option (List ℕ)
content_of store = option_map (λ s. s.content) store

-- the position of a told store
abbrev pub position_of : Option Store → Option ℕ
position_of store = option_map (λ s. s.position) store

-- the kind of the same name
abbrev pub std_kind : ErrorKind → StdKind.ErrorKind
std_kind NotFound = kind.NotFound
std_kind PermissionDenied = kind.PermissionDenied
std_kind ConnectionRefused = kind.ConnectionRefused
std_kind ConnectionReset = kind.ConnectionReset
std_kind ConnectionAborted = kind.ConnectionAborted
std_kind NotConnected = kind.NotConnected
std_kind AddrInUse = kind.AddrInUse
std_kind AddrNotAvailable = kind.AddrNotAvailable
std_kind BrokenPipe = kind.BrokenPipe
std_kind AlreadyExists = kind.AlreadyExists
std_kind WouldBlock = kind.WouldBlock
std_kind InvalidInput = kind.InvalidInput
std_kind InvalidData = kind.InvalidData
std_kind TimedOut = kind.TimedOut
std_kind WriteZero = kind.WriteZero
std_kind Interrupted = kind.Interrupted
std_kind Other = kind.Other
std_kind UnexpectedEof = kind.UnexpectedEof
std_kind Unsupported = kind.Unsupported
std_kind OutOfMemory = kind.OutOfMemory
std_kind Uncategorized = kind.Uncategorized

-- the same result; an error has the kind of the same name
abbrev pub SameAnswer : {T : Type 0} → Result T Error → Result T Std.Error → Type 0
SameAnswer (Ok x) (Ok y) = y ≡ x
SameAnswer (Err e) (Err f) = Io.error_kind f ≡ std_kind (error_kind e)
SameAnswer (Ok x) (Err f) = ⊥
SameAnswer (Err e) (Ok y) = ⊥

-- all bytes that a writer has accepted: they are out or held
abbrev pub accepted_so_far : WriterState → List ℕ
accepted_so_far told = told.out ++ told.held

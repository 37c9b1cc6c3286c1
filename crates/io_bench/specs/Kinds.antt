-- The names of the kinds of errors.
use Rattle.std.specs.Prelude.{ℕ, List, codes}
use Rattle.no_std_io2.specs.declared.io.ErrorKind.{ErrorKind}

-- the name of a kind
abbrev pub kind_name : ErrorKind → List ℕ
kind_name ErrorKind.NotFound = codes "NotFound"
kind_name ErrorKind.PermissionDenied = codes "PermissionDenied"
kind_name ErrorKind.ConnectionRefused = codes "ConnectionRefused"
kind_name ErrorKind.ConnectionReset = codes "ConnectionReset"
kind_name ErrorKind.ConnectionAborted = codes "ConnectionAborted"
kind_name ErrorKind.NotConnected = codes "NotConnected"
kind_name ErrorKind.AddrInUse = codes "AddrInUse"
kind_name ErrorKind.AddrNotAvailable = codes "AddrNotAvailable"
kind_name ErrorKind.BrokenPipe = codes "BrokenPipe"
kind_name ErrorKind.AlreadyExists = codes "AlreadyExists"
kind_name ErrorKind.WouldBlock = codes "WouldBlock"
kind_name ErrorKind.InvalidInput = codes "InvalidInput"
kind_name ErrorKind.InvalidData = codes "InvalidData"
kind_name ErrorKind.TimedOut = codes "TimedOut"
kind_name ErrorKind.WriteZero = codes "WriteZero"
kind_name ErrorKind.Interrupted = codes "Interrupted"
kind_name ErrorKind.Other = codes "Other"
kind_name ErrorKind.UnexpectedEof = codes "UnexpectedEof"
kind_name ErrorKind.Unsupported = codes "Unsupported"
kind_name ErrorKind.OutOfMemory = codes "OutOfMemory"
kind_name ErrorKind.Uncategorized = codes "Uncategorized"

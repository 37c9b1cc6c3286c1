-- What a message is.
use Rattle.std.specs.{Prelude.{ℕ, List, ◌++◌, length, codes}, Int.{w16, w32, to_be_bytes}}
use Rattle.no_std_io2.specs.{declared.io.{Error.{Error}, ErrorKind.TheVariants.{UnexpectedEof}}, Errors.{SaysError}}

-- the length of the payload in two bytes, the highest first, and the payload
abbrev pub message : List ℕ → List ℕ
message payload = to_be_bytes w16 (length payload) ++ payload

-- the length of the payload in four bytes, the highest first, and the payload
abbrev pub long_message : List ℕ → List ℕ
long_message payload = to_be_bytes w32 (length payload) ++ payload

-- e is the error of a message that has fewer bytes than its length says
abbrev pub IsCutMessage : Error → Type 0
IsCutMessage e = SaysError UnexpectedEof (codes "the message ends too early") e

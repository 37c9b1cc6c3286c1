-- What a call returns.
use Rattle.std.specs.Prelude.{ℕ}

-- it did all
abbrev pub status_done : ℕ
status_done = 0

-- it accepted its bytes and keeps some
abbrev pub status_kept : ℕ
status_kept = 1

-- there is no room
abbrev pub status_full : ℕ
status_full = 2

-- the message has not come whole
abbrev pub status_partial : ℕ
status_partial = 3

-- the bytes can never be accepted
abbrev pub status_refused : ℕ
status_refused = 4

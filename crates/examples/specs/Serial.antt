-- What a port took, and what a call does to a device in front of it.
use Rattle.std.specs.Prelude.{◌≡◌, ℕ, Bool, if◌then◌else◌, List, [], ◌∷◌, ◌++◌, length, take, min, Ok, Err}
use Rattle.no_std_io2.specs.{declared.io.ErrorKind.TheVariants.{WouldBlock}, Errors.{error_kind}}
use Rattle.no_std_io2.specs.Calls.{WriteCall, Wrote, WroteAll, Flushed}
use Rattle.examples.specs.declared.serial.Serial.{Serial}

-- this byte, if it was taken
abbrev pub if_taken : Bool → ℕ → List ℕ
if_taken took byte = if took then byte ∷ [] else []

-- A write sends the first byte, if there is one. If the port refuses it, the error is `WouldBlock`. A flush does nothing.
abbrev pub SerialMay : {P : Type 0} → (P → List ℕ) → Serial P → WriteCall → Serial P → Type 0
SerialMay taken old (Wrote x (Ok n)) new = (n ≡ min 1 (length x)) × (taken new.port ≡ taken old.port ++ take n x)
SerialMay taken old (Wrote x (Err e)) new = (error_kind e ≡ WouldBlock) × (taken new.port ≡ taken old.port)
SerialMay taken old (WroteAll x reply) new = ⊥
SerialMay taken old (Flushed reply) new = (reply ≡ Ok tt) × (new ≡ old)

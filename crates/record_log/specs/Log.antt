-- What an `append` does.
use Rattle.std.specs.Prelude.{◌≡◌, ◌⊎◌, ℕ, ◌+◌, ◌<◌, ◌^◌, List, length, codes, Result, IsErrAnd}
use Rattle.no_std_io2.specs.{Errors.{SaysError}, Writers.{Writer}, BufWriter.{Puts, writer_inner, writer_buffer}}
use Rattle.no_std_io2.specs.declared.io.{BufWriter.{BufWriter}, Error.{Error}, ErrorKind.TheVariants.{InvalidInput}}
use Rattle.record_log.specs.{Records.{record_of}, declared.log.RecordLog.{RecordLog}}

-- the buffered writer
abbrev pub log_writer : {W : Type 0} {S : ℕ} → RecordLog W S → BufWriter W S
log_writer l = l.inner

-- the writer below
abbrev pub log_inner : {W : Type 0} {S : ℕ} → RecordLog W S → W
log_inner l = writer_inner l.inner

-- the bytes in the buffer
abbrev pub log_held : {W : Type 0} {S : ℕ} → RecordLog W S → List ℕ
log_held l = writer_buffer l.inner

-- the record of this payload is shorter than a buffer of S bytes, and its length fits the header
abbrev pub Fits : ℕ → List ℕ → Type 0
Fits S payload = (8 + length payload < S) × (length payload < 2 ^ 32)

-- e is the error of a record that does not fit
abbrev pub SaysLong : Error → Type 0
SaysLong e = SaysError InvalidInput (codes "a record is longer than the buffer") e

-- `append(payload)`: the record was accepted whole, or nothing of it; or it does not fit, and the log is unchanged
abbrev pub Appends : {W : Type 0} {S : ℕ} → Writer W → List ℕ → RecordLog W S → Result (Unit {0}) Error → RecordLog W S → Type 0
Appends {S = S} I payload old reply new =
    (Fits S payload × Puts I writer_inner writer_buffer S (record_of payload) (log_writer old) reply (log_writer new))
    ⊎ ((Fits S payload → ⊥) × IsErrAnd reply SaysLong × (new ≡ old))

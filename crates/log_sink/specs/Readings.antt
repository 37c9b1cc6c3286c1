-- How readings of a sensor are logged, and logged again.
use Rattle.std.specs.Prelude.{◌≡◌, ◌⊎◌, ℕ, ◌+◌, List, [], ◌∷◌, ◌++◌, length, flat_map, Bool, true, false, decimal, Ok, Err, Some}
use Rattle.log.specs.{declared.level.Level.TheVariants.{Info}, Line.{header_text}}
use Rattle.no_std_io2.specs.{Writers.{Writer}, declared.io.Error.{Error}}
use Rattle.line_log.specs.{declared.LineLog.{LineLog}, Log.{line_of, LogsText}}
use Rattle.log_sink.specs.Records.{logged_bytes}

-- the text of a reading of a sensor, and its line
abbrev pub sensor_text : List ℕ → ℕ → List ℕ
sensor_text sensor n = header_text Info sensor ++ decimal n

abbrev pub sensor_line : List ℕ → ℕ → List ℕ
sensor_line sensor n = line_of (sensor_text sensor n)

-- the reading, if it was logged
abbrev pub kept_of : Bool → ℕ → List ℕ
kept_of true n = n ∷ []
kept_of false n = []

-- a reading was logged, by one `log_text` or, after its error, by a second one; or both failed
abbrev pub TriesReading : {W : Type 0} {S : ℕ} → Writer W → List ℕ → ℕ → LineLog W S → Bool → LineLog W S → Type 0
TriesReading {W} {S} I sensor n old true new = LogsText I (Some (sensor_text sensor n)) old (Ok tt) new
    ⊎ ((e : Error) × (mid : LineLog W S) × LogsText I (Some (sensor_text sensor n)) old (Err e) mid
    × LogsText I (Some (sensor_text sensor n)) mid (Ok tt) new)
TriesReading {W} {S} I sensor n old false new = (e : Error) × (f : Error) × (mid : LineLog W S)
    × LogsText I (Some (sensor_text sensor n)) old (Err e) mid × LogsText I (Some (sensor_text sensor n)) mid (Err f) new

-- From old to new each of these readings was tried, in order. Those that were logged are kept.
pub data LogsEach {W : Type 0} {S : ℕ} (I : Writer W) (sensor : List ℕ) (old : LineLog W S) : List ℕ → List ℕ → LineLog W S → Type 0 where
  no_reading : LogsEach I sensor old [] [] old
  one_reading : {xs kept : List ℕ} {mid new : LineLog W S} (n : ℕ) (logged : Bool) → LogsEach I sensor old xs kept mid
      → TriesReading I sensor n mid logged new → LogsEach I sensor old (xs ++ n ∷ []) (kept ++ kept_of logged n) new

-- each of these readings was tried; so many are lost, and the line of each other one was added, in order
abbrev pub LogsReadings : {W : Type 0} {S : ℕ} → Writer W → List ℕ → LineLog W S → List ℕ → ℕ → LineLog W S → Type 0
LogsReadings I sensor old xs lost new = (kept : List ℕ) × LogsEach I sensor old xs kept new × (length kept + lost ≡ length xs)
    × (logged_bytes I.told new ≡ logged_bytes I.told old ++ flat_map (sensor_line sensor) kept)

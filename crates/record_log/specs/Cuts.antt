-- What a power cut leaves of a log.
use Rattle.std.specs.Prelude.{◌≡◌, ℕ, List, [], ◌∷◌, ◌++◌, length, drop, Bool, true, false, Result, is_ok}
use Rattle.no_std_io2.specs.{Calls.{Flushed}, Writers.{Writer}, inner.BufWriter.{BufferMay, InnerCalls}}
use Rattle.no_std_io2.specs.{BufWriter.{writer_inner, writer_buffer}, declared.io.Error.{Error}}
use Rattle.record_log.specs.{Records.{log_of, AreShort, HasRecords, NoneByChance}, Log.{Appends, log_writer, log_inner, log_held}}
use Rattle.record_log.specs.declared.{log.RecordLog.{RecordLog}, cuts.Step.{Step, TheVariants.{Append, Sync}}}

-- one call, and whether it succeeded
abbrev pub DidStep : {W : Type 0} {S : ℕ} → Writer W → RecordLog W S → Step → Bool → RecordLog W S → Type 0
DidStep I old (Append payload) done new = (reply : Result (Unit {0}) Error) × Appends I payload.now old reply new × (done ≡ is_ok reply)
DidStep {S = S} I old Sync done new = (reply : Result (Unit {0}) Error)
    × BufferMay I (InnerCalls S) writer_inner writer_buffer (log_writer old) (Flushed reply) (log_writer new) × (done ≡ is_ok reply)

-- The payloads that a `sync` has confirmed, and those that were appended since. A call adds to them if it succeeded.
abbrev pub Counted : Type 0
Counted = List (List ℕ) × List (List ℕ)

abbrev pub count_step : Counted → Step → Bool → Counted
count_step c (Append payload) true = (c.0, c.1 ++ payload.now ∷ [])
count_step c Sync true = (c.0 ++ c.1, [])
count_step c (Append payload) false = c
count_step c Sync false = c

-- after these calls
abbrev pub outcome : Counted → List Step → List Bool → Counted
outcome c (step ∷ steps) (d ∷ done) = outcome (count_step c step d) steps done
outcome c _ _ = c

-- a log with nothing held stands behind the records of these payloads, and before the old bytes `tail`
abbrev pub StandsAtEnd : {W : Type 0} {S : ℕ} → (W → List ℕ) → (W → ℕ) → List (List ℕ) → List ℕ → RecordLog W S → Type 0
StandsAtEnd content place before tail l = AreShort before × (log_held l ≡ [])
    × (content (log_inner l) ≡ log_of before ++ tail) × (place (log_inner l) ≡ length (log_of before))

-- The content has exactly these records: those before, the confirmed ones, and none or some first ones of those that were appended since.
abbrev pub HasConfirmed : List (List ℕ) → Counted → List ℕ → Type 0
HasConfirmed before c content = (kept : List (List ℕ)) × (gone : List (List ℕ)) × (rest : List ℕ)
    × (c.1 ≡ kept ++ gone) × HasRecords content (before ++ (c.0 ++ kept)) rest

-- So it has, if the old bytes behind it complete no record by chance.
abbrev pub Survives : List (List ℕ) → List ℕ → Counted → List ℕ → Type 0
Survives before tail c content =
    (AreShort c.1 → NoneByChance (drop (length (log_of c.0)) tail) c.1) → HasConfirmed before c content

-- Calls led to c, the power was cut, the log was opened again, calls led to d, and the power was cut again. The content has the records
-- before, the confirmed ones of c and some first ones of the others, and then the same of d. The first cut left `rest` behind them.
abbrev pub SurvivesTwice : List (List ℕ) → List ℕ → Counted → Counted → List ℕ → Type 0
SurvivesTwice before tail c d content = (AreShort c.1 → NoneByChance (drop (length (log_of c.0)) tail) c.1)
    → (kept : List (List ℕ)) × (gone : List (List ℕ)) × (rest : List ℕ)
    × (c.1 ≡ kept ++ gone) × Survives (before ++ (c.0 ++ kept)) rest d content

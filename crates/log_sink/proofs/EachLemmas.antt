-- Readings are logged one after another.
use Rattle.no_std_io2.proofs.Words.{◌≡◌, ℕ, ◌+◌, List, [], ◌∷◌, ◌++◌, length, Bool, true, false, refl, sym, ap, ◌∙◌, arith, append_assoc}
use Rattle.no_std_io2.proofs.Words.{append-nil, length-append, Writer, WriterState, ◌⊎◌, Result, Ok, Err, Some, inl, inr, true≢false}
use Rattle.std.proofs.{Common.{flat_map, is_ok}, lemmas.Grind.{flat_map-append}}
use Rattle.no_std_io2.specs.declared.io.Error.{Error}
use Rattle.line_log.specs.{declared.LineLog.{LineLog}, Log.{LogsText}}
use Rattle.log_sink.specs.{Readings.{LogsReadings, no_reading, one_reading, TriesReading, sensor_line, sensor_text, kept_of}}
use Rattle.log_sink.specs.Records.{AddsLine, logged_bytes}

module _ {W : Type 0} {S : ℕ} (sensor : List ℕ) (n : ℕ) (old mid new : LineLog W S) (reply : Result (Unit {0}) Error) (logged : Bool) where
  -- a first try failed, and this was the second
  pub tries_again : (I : Writer W) {e : Error} → LogsText I (Some (sensor_text sensor n)) old (Err e) mid
      → LogsText I (Some (sensor_text sensor n)) mid reply new → logged ≡ is_ok reply → TriesReading I sensor n old logged new
  tries_again I first second is = rw is (by reply second)
    where
      by : (r : Result (Unit {0}) Error) → LogsText I (Some (sensor_text sensor n)) mid r new → TriesReading I sensor n old (is_ok r) new
      by (Ok u) second = inr (_, mid, first, second)
      by (Err f) second = (_, f, mid, first, second)

  -- only one that succeeded added a line
  pub adds_again : (told : W → WriterState) → logged_bytes told mid ≡ logged_bytes told old
      → AddsLine told (Some (sensor_text sensor n)) mid reply new → logged ≡ is_ok reply
      → logged_bytes told new ≡ logged_bytes told old ++ flat_map (sensor_line sensor) (kept_of logged n)
  adds_again told first second is = rw is (by reply second)
    where
      by : (r : Result (Unit {0}) Error) → AddsLine told (Some (sensor_text sensor n)) mid r new
          → logged_bytes told new ≡ logged_bytes told old ++ flat_map (sensor_line sensor) (kept_of (is_ok r) n)
      by (Ok u) second =
          let (text, is, lacks, bytes) = second.ok in
          rw (first, is) at bytes ∙ ap (λ l. logged_bytes told old ++ l) (sym (append-nil (sensor_line sensor n)))
      by (Err f) second = second.err ∙ first ∙ sym (append-nil (logged_bytes told old))

-- a reading is kept, or one more is lost
pub kept_count : (logged : Bool) (n lost lost' : ℕ) → ((logged ≡ false) × (lost' ≡ lost + 1)) ⊎ ((logged ≡ true) × (lost' ≡ lost))
    → length (kept_of logged n) + lost' ≡ lost + 1
kept_count true n lost lost' (inl more) = absurd (true≢false more.0)
kept_count false n lost lost' (inl more) = omega (arith, more.1)
kept_count true n lost lost' (inr same) = omega (arith, same.1)
kept_count false n lost lost' (inr same) = absurd (true≢false (sym same.0))

module _ {W : Type 0} {S : ℕ} (I : Writer W) (sensor : List ℕ) {old : LineLog W S} where
  -- none at first
  pub each_none : LogsReadings I sensor old [] 0 old
  each_none = ([], no_reading, refl, sym (append-nil _))

  -- one more
  pub each_more : {xs : List ℕ} {mid new : LineLog W S} (n lost lost' : ℕ) (logged : Bool)
      → length (kept_of logged n) + lost' ≡ lost + 1 → LogsReadings I sensor old xs lost mid → TriesReading I sensor n mid logged new
      → logged_bytes I.told new ≡ logged_bytes I.told mid ++ flat_map (sensor_line sensor) (kept_of logged n)
      → LogsReadings I sensor old (xs ++ n ∷ []) lost' new
  each_more {xs} n lost lost' logged count so_far tries adds =
      let (kept, each, all, bytes) = so_far in
      let y = kept_of logged n in (
        kept ++ y,
        one_reading n logged each tries,
        omega (arith, count, all, length-append kept y, length-append xs (n ∷ [])),
        adds ∙ ap (λ l. l ++ flat_map (sensor_line sensor) y) bytes ∙ append_assoc (logged_bytes I.told old) _ _
            ∙ ap (λ l. logged_bytes I.told old ++ l) (sym (flat_map-append (sensor_line sensor) kept y)),
      )

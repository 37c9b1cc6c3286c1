-- What a list of calls leaves of a log at any moment.
use Rattle.no_std_io2.proofs.Words.{common_steps, ◌≡◌, ℕ, List, [], ◌∷◌, ◌++◌, length, drop, refl, sym, ap, subst, ◌∙◌, Bool, arith}
use Rattle.no_std_io2.proofs.Words.{append_assoc, append-nil, length-append, inl, inr, Result, Ok, Err, OnOk, Writer, nat_tests, Store}
use Rattle.no_std_io2.specs.{inner.Takes.{fits_u64, fits_by}, Takes.{store_at}, declared.io.Error.{Error}}
use Rattle.std.proofs.{Math.Seq.{drop-nil}, lemmas.List.{drop-drop}}
use Rattle.std.specs.Prelude.{is_ok, OnErr, IsOk, IfOk, IfSome, IsOkAnd, IsSomeAnd, ◌<◌, ◌^◌, Option}
use Rattle.record_log.specs.{Opening.{Opens}, declared.{opening.Opened.{Opened}, log.RecordLog.{RecordLog}, cuts.Step.{Step}}}
use Rattle.record_log.specs.{declared.cuts.Step.TheVariants.{Append, Sync}, Placed.{PutsAt}, Log.{Appends, log_inner, log_held}}
use Rattle.record_log.specs.Records.{record_of, log_of, AreShort, HasRecords, NoneByChance}
use Rattle.record_log.specs.Cuts.{DidStep, Counted, count_step, outcome, StandsAtEnd, HasConfirmed, Survives}
use Rattle.record_log.proofs.RecordLemmas.{log-append, AreShort-append, cut_log, same_records, none_at_end}
use Rattle.record_log.proofs.PlacedLemmas.{Stands, stands_held, all_there, flush_there, begins_anew, front_there}

-- These records are being written over old bytes, behind others, by a log.
abbrev StandsBehind : {W : Type 0} {S : ℕ} → (W → List ℕ) → (W → ℕ) → List (List ℕ) → List ℕ → List (List ℕ) → RecordLog W S → Type 0
StandsBehind content place done tail pending l =
    Stands (length (log_of done)) (log_of pending) (log_of done ++ tail) (content (log_inner l)) (place (log_inner l)) (log_held l)

-- The device has the records before, and the confirmed ones; those that were appended since are out, or held.
pub record Keeps {W : Type 0} {S : ℕ} (content : W → List ℕ) (place : W → ℕ) (before : List (List ℕ)) (tail : List ℕ) (c : Counted)
    (l : RecordLog W S) : Type 0 where
  pub short : AreShort (before ++ c.0)
  pub pending : AreShort c.1
  pub stands : StandsBehind content place (before ++ c.0) (drop (length (log_of c.0)) tail) c.1 l

-- these records, and then those of some bytes
records_after : (ps ks : List (List ℕ)) (x rest : List ℕ) → AreShort ps → HasRecords x ks rest → HasRecords (log_of ps ++ x) (ps ++ ks) rest
records_after ps ks x rest short has = record {
  short = AreShort-append ps ks short has.short;
  bytes = ap (λ l. log_of ps ++ l) has.bytes ∙ sym (append_assoc (log_of ps) (log_of ks) rest)
      ∙ ap (λ l. l ++ rest) (sym (log-append ps ks));
  none = has.none;
}

-- one more call and its reply
pub outcome-more : (c : Counted) (steps : List Step) (done : List Bool) (step : Step) (d : Bool) → length steps ≡ length done
    → outcome c (steps ++ step ∷ []) (done ++ d ∷ []) ≡ count_step (outcome c steps done) step d
outcome-more c [] [] step d long = refl
outcome-more c [] (e ∷ done) step d long = absurd (omega (arith, long))
outcome-more c (s ∷ steps) [] step d long = absurd (omega (arith, long))
outcome-more c (s ∷ steps) (e ∷ done) step d long = outcome-more (count_step c s e) steps done step d (omega (arith, long))

module _ {W : Type 0} {S : ℕ} (content : W → List ℕ) (place : W → ℕ) {before : List (List ℕ)} {tail : List ℕ} where
  -- at the start
  pub keeps_none : (l : RecordLog W S) → StandsAtEnd content place before tail l → Keeps content place before tail ([], []) l
  keeps_none l at =
      let fresh = stands_held (length (log_of before)) [] (content (log_inner l)) in
      record { short = rw append-nil at.0; pending = tt; stands = grind (arith, common_steps, append-nil, at, fresh) }

  module _ (I : Writer W) (puts : PutsAt I content place) where
    -- one `append`
    appended : (c : Counted) (payload : List ℕ) (reply : Result (Unit {0}) Error) (old new : RecordLog W S)
        → Keeps content place before tail c old → Appends I payload old reply new
        → OnOk reply (Keeps content place before tail (c.0, c.1 ++ payload ∷ []) new)
        × OnErr reply (Keeps content place before tail c new)
    appended c payload (Ok u) old new k (inl put) =
        let there = all_there I content place puts S (record_of payload) (Ok u) _ _
        (omega (arith, put.0.0)) put.1.calls.are put.1.calls.made k.stands in
        let same : log_of c.1 ++ record_of payload ≡ log_of (c.1 ++ payload ∷ []) =
        ap (λ l. log_of c.1 ++ l) (sym (append-nil (record_of payload))) ∙ sym (log-append c.1 (payload ∷ [])) in
        (record { short = k.short; pending = AreShort-append c.1 (payload ∷ []) k.pending (put.0.1, tt); stands = rw (← same) there }, tt)
    appended c payload (Err e) old new k (inl put) =
        let there = all_there I content place puts S (record_of payload) (Err e) _ _ (omega (arith, put.0.0)) put.1.calls.are
        put.1.calls.made k.stands in
        (tt, record { short = k.short; pending = k.pending; stands = there })
    appended c payload (Ok u) old new k (inr refused) = absurd refused.1
    appended c payload (Err e) old new k (inr refused) = (tt, subst (λ l. Keeps content place before tail c l) (sym refused.2) k)

    -- one call
    pub keeps_more : (c : Counted) (step : Step) (done : Bool) (old new : RecordLog W S) → Keeps content place before tail c old
        → DidStep I old step done new → Keeps content place before tail (count_step c step done) new
    keeps_more c (Append payload) done old new k (reply, did, is) =
        subst (λ d. Keeps content place before tail (count_step c (Append payload) d) new) (sym is)
        (by reply (appended c payload.now reply old new k did))
      where
        by : (r : Result (Unit {0}) Error) → OnOk r (Keeps content place before tail (c.0, c.1 ++ payload.now ∷ []) new)
            × OnErr r (Keeps content place before tail c new)
            → Keeps content place before tail (count_step c (Append payload) (is_ok r)) new
        by (Ok u) both = both.0
        by (Err e) both = both.1
    keeps_more c Sync done old new k (reply, did, is) =
        subst (λ d. Keeps content place before tail (count_step c Sync d) new) (sym is)
        (by reply (flush_there I content place puts reply _ _ did.are did.made k.stands))
      where
        by : (r : Result (Unit {0}) Error)
            → StandsBehind content place (before ++ c.0) (drop (length (log_of c.0)) tail) c.1 new × OnOk r (log_held new ≡ [])
            → Keeps content place before tail (count_step c Sync (is_ok r)) new
        by (Ok u) both =
            let base = log_of (before ++ c.0) in
            let behind = drop (length (log_of c.0)) tail in
            let now = content (log_inner new) in
            let at = place (log_inner new) in
            let anew = begins_anew base behind (subst (λ h. Stands (length base) (log_of c.1) (base ++ behind) now at h) both.1 both.0) in
            let front : base ++ log_of c.1 ≡ log_of (before ++ (c.0 ++ c.1)) =
            sym (log-append (before ++ c.0) c.1) ∙ ap log_of (append_assoc before c.0 c.1) in
            let rest : drop (length (log_of c.1)) behind ≡ drop (length (log_of (c.0 ++ c.1))) tail =
            drop-drop (length (log_of c.1)) (length (log_of c.0)) tail
            ∙ ap (λ n. drop n tail) (sym (length-append (log_of c.0) (log_of c.1)) ∙ ap length (sym (log-append c.0 c.1))) in record {
              short = subst AreShort (append_assoc before c.0 c.1) (AreShort-append (before ++ c.0) c.1 k.short k.pending);
              pending = tt;
              stands = subst (λ h. Stands (length (log_of (before ++ (c.0 ++ c.1)))) []
                  (log_of (before ++ (c.0 ++ c.1)) ++ drop (length (log_of (c.0 ++ c.1))) tail) now at h) (sym both.1)
                  (subst (λ b. Stands (length b) [] (b ++ drop (length (log_of (c.0 ++ c.1))) tail) now at []) front
                  (subst (λ t. Stands (length (base ++ log_of c.1)) [] ((base ++ log_of c.1) ++ t) now at []) rest anew));
            }
        by (Err e) both = record { short = k.short; pending = k.pending; stands = both.0 }

  -- what is there at any moment
  pub keeps_survives : (c : Counted) (l : RecordLog W S) → Keeps content place before tail c l
      → Survives before tail c (content (log_inner l))
  keeps_survives c l k none =
      let behind = drop (length (log_of c.0)) tail in
      let front = front_there (log_of (before ++ c.0)) behind k.stands in
      let cut = cut_log c.1 front.0 front.1 behind k.pending front.2 (none k.pending) in
      let has = records_after (before ++ c.0) cut.0 (front.0 ++ drop (length front.0) behind) cut.2 k.short cut.4 in (
        cut.0,
        cut.1,
        cut.2,
        cut.3,
        subst (λ ps. HasRecords (content (log_inner l)) ps cut.2) (append_assoc before c.0 cut.0)
            (subst (λ m. HasRecords m ((before ++ c.0) ++ cut.0) cut.2) (sym front.3) has),
      )

-- what `open` says of a content in memory
pub opened : (u : Option Store) (content items : List ℕ) (pos : ℕ) (r : Result Opened Error) → items ≡ content → pos ≡ 0
    → length content < 2 ^ 64 → IfSome (store_at items pos) (λ s. IsSomeAnd u (λ t. (t.content ≡ s.content)
    × IsOk r × IfOk r (λ o. Opens s.content o.end o.torn × (t.position ≡ o.end)))) → IsOkAnd r (λ o. Opens content o.end o.torn)
opened u content items pos r is zero small says = grind (arith, common_steps, nat_tests, fits_by content 0, fits_u64 content 0)

-- Behind the records that are there, a log stands as one that is new.
pub stands_anew : {W : Type 0} {S : ℕ} (content : W → List ℕ) (place : W → ℕ) (payloads : List (List ℕ)) (rest : List ℕ) (l : RecordLog W S)
    (end torn : ℕ) → HasRecords (content (log_inner l)) payloads rest → Opens (content (log_inner l)) end torn
    → place (log_inner l) ≡ end → log_held l ≡ [] → StandsAtEnd content place payloads rest l
stands_anew content place payloads rest l end torn has (found, behind, finds, ends, many) at none =
    let same = (same_records _ payloads found rest behind has finds).0 in
    (has.short, none, has.bytes, at ∙ ends ∙ ap (λ ps. length (log_of ps)) (sym same))

-- A log at the end of its content survives, since nothing is behind it.
pub survives_at_end : (before : List (List ℕ)) (c : Counted) (content : List ℕ) → Survives before [] c content
    → HasConfirmed before c content
survives_at_end before c content survives =
    survives (λ short. subst (λ t. NoneByChance t c.1) (sym (drop-nil (length (log_of c.0)))) (none_at_end c.1 short))

-- Records that are skipped, and a message that is known to come next.
use Rattle.no_std_io2.proofs.Words.{◌≡◌, ℕ, ◌<◌, List, [], ◌∷◌, ◌++◌, length, take, get_or, true, false, Ok, Err, refl, sym, ap, ◌∙◌, arith}
use Rattle.no_std_io2.proofs.Words.{common_steps, inl, inr, append_assoc, append-nil, Event, event_bytes, events_of, Reader, tells}
use Rattle.no_std_io2.proofs.{Words.{IsInterruption, IsFault}, TakesLemmas.{events_of-append, Took-then}}
use Rattle.no_std_io2.{proofs.ReadsLemmas.{Took-none, Took-again, Took-end, Took-fault}, specs.declared.io.Error.{Error}}
use Rattle.no_std_io2.specs.{Reads.{Took, Skipped}, inner.Read.{FilledLaw}, Read.{ConsumeLaw}}
use Rattle.examples.specs.{Lengths.{AreRecords, no_record, and_record, IsCutOff, SkipsRecords}, Messages.{message, long_message}}
use Rattle.std.specs.Int.{w16, w32, to_be_bytes}

-- whole records were skipped so far
pub record RecordsTaken {X : Type 0} (R : Reader X) (old now : X) : Type 0 where
  pub xs : List ℕ
  pub records : AreRecords xs
  pub took : Took (tells R old) xs (Ok true) (tells R now)

-- at the start there are none
pub records_none : {X : Type 0} (R : Reader X) (old : X) → RecordsTaken R old old
records_none R old = record { xs = []; records = no_record; took = Took-none _ }

-- some lent bytes begin with their first one
first_of : (lent : List ℕ) → 0 < length lent → take 1 lent ≡ get_or lent 0 0 ∷ []
first_of lent some = grind (arith, common_steps)

module _ {X : Type 0} {R : Reader X} {old now after : X} (before : RecordsTaken R old now) where
  -- an interruption is ignored
  pub records_waited : {e : Error} → FilledLaw R now (Err e) after → IsInterruption e → RecordsTaken R old after
  records_waited filled again = record {
    xs = before.xs;
    records = before.records;
    took = rw (sym (append-nil before.xs)) (Took-then before.took (Took-again filled.takes again));
  }

  -- the end came
  pub records_end : FilledLaw R now (Ok []) after → SkipsRecords R old (Ok tt) after
  records_end filled = grind (arith, common_steps, append-nil, Took-then, Took-end, filled.end)

  -- a fault came
  pub records_fault : {e : Error} → FilledLaw R now (Err e) after → IsFault e → SkipsRecords R old (Err e) after
  records_fault filled fault = (before.xs, [], before.records, inl (Took-then before.took (Took-fault filled.takes fault), inl refl))

  module _ {mid : X} {lent : List ℕ} {len : ℕ} (filled : FilledLaw R now (Ok lent) after) (some : 0 < length lent) where
    module _ (is : len ≡ get_or lent 0 0) (dropped : ConsumeLaw R after 1 mid) where
      -- the length of the next record was taken
      length_taken : Took (tells R now) (len ∷ []) (Ok true) (tells R mid)
      length_taken = grind (arith, common_steps, first_of)

      -- and so was the rest of it
      pub records_more : {new : X} {left : ℕ} {u : Unit {0}} → Skipped R mid len (Ok u) left new → RecordsTaken R old new
      records_more s = record {
        xs = before.xs ++ len ∷ event_bytes s.taken;
        records = and_record before.xs (event_bytes s.taken) len before.records (omega (arith, s.count, s.ends.1));
        took = Took-then before.took
            (Took-then length_taken (record { taken = s.taken; takes = s.takes; are = refl; ends = s.ends.0 }));
      }

      -- a fault or the end came first
      pub records_cut : {new : X} {left : ℕ} {e : Error} → Skipped R mid len (Err e) left new → SkipsRecords R old (Err e) new
      records_cut {new} {e = e} s =
          let cut : IsCutOff (len ∷ event_bytes s.taken) = (len, event_bytes s.taken, refl, omega (arith, s.count, s.ends.0)) in (
            before.xs,
            len ∷ event_bytes s.taken,
            before.records,
            elim s.ends.1 [
              | inl fault ↦
                  let rest : Took (tells R mid) (event_bytes s.taken) (Err e) (tells R new) =
                  record { taken = s.taken; takes = s.takes; are = refl; ends = fault } in
                  inl (Took-then before.took (Took-then length_taken rest), inr cut)
              | inr end ↦
                  let rest : Took (tells R mid) (event_bytes s.taken) (Ok false) (tells R new) =
                  record { taken = s.taken; takes = s.takes; are = refl; ends = (end.1, end.2) } in
                  inr (Took-then before.took (Took-then length_taken rest), end.0, cut)
            ],
          )

-- The parts of a message: the length comes first, and then the payload.
parts : (len payload : List ℕ) (rest : List Event) → events_of (len ++ payload) ++ rest ≡ events_of len ++ (events_of payload ++ rest)
parts len payload rest = ap (λ l. l ++ rest) (events_of-append len payload) ∙ append_assoc (events_of len) (events_of payload) rest

pub message_parts : (payload : List ℕ) (rest : List Event)
    → events_of (message payload) ++ rest ≡ events_of (to_be_bytes w16 (length payload)) ++ (events_of payload ++ rest)
message_parts payload rest = parts (to_be_bytes w16 (length payload)) payload rest

pub long_parts : (payload : List ℕ) (rest : List Event)
    → events_of (long_message payload) ++ rest ≡ events_of (to_be_bytes w32 (length payload)) ++ (events_of payload ++ rest)
long_parts payload rest = parts (to_be_bytes w32 (length payload)) payload rest

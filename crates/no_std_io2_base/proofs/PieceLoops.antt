-- Loops over what a reader lends, which take one piece, skip one, or take a number of bytes.
use Rattle.std.proofs.{lemmas.Grind.{common_steps}, Common.{◌≡◌, ℕ, ◌+◌, ◌-◌, ◌<◌, ◌≤◌, ◌⊎◌, Bool, true, false, List, [], ◌∷◌, ◌++◌}}
use Rattle.std.proofs.Common.{Result, Ok, Err, Vec, vec_len, vec_capacity, length, take, refl, sym, ap, subst, ◌∙◌, arith, append_assoc}
use Rattle.std.proofs.Common.{append-nil, le_refl, le_trans, inl, inr, length-append, length-take-le, take_all, ◌^◌, min}
use Rattle.std.specs.Borrow.{Bor}
use Rattle.no_std_io2_base.specs.{declared.error.Error.{Error}, Errors.{IsInterruption, IsFault, IsOutOfMemory, IsUnexpectedEnd}}
use Rattle.no_std_io2_base.specs.inner.Pieces.{IsAll, Lacks, EndsPiece, EndsAt, FindsPiece, PartCalls, no_part, and_part, part_interrupted}
use Rattle.no_std_io2_base.specs.{inner.Pieces.{PieceCalls, PieceEnds}, Events.{Event, fails, events_of, event_bytes, HasNoFault}}
use Rattle.no_std_io2_base.specs.{Takes.{Takes, Reader, tells}, Calls.{Filled, Consumed, ByCalls}, Read.{ConsumeLaw, ReadCallLaw}}
use Rattle.no_std_io2_base.specs.{inner.Read.{FilledLaw, lent_bytes, at_most_max}, BufRead.{FillBufLaw, AfterLoan, ReadUntilLaw}}
use Rattle.no_std_io2_base.specs.{BufRead.{SkipUntilLaw}, inner.Reads.{PortionCalls, no_portion, and_portion, portion_interrupted}}
use Rattle.no_std_io2_base.{specs.Reads.{Skipped}, proofs.{CallsLemmas.{by_more, by_then}, TakesLemmas.{events_of-append}}}
use Rattle.no_std_io2_base.proofs.TakesLemmas.{HasNoFault-append, HasNoFault-events_of, length-events_of, takes_none, takes_then}
use Rattle.no_std_io2_base.proofs.{TakesLemmas.{takes_still, takes_turns, takes_to_end, spends, stays_at_end}, PieceLemmas.{bytes-more}}
use Rattle.no_std_io2_base.proofs.PieceLemmas.{bytes-fails, Lacks-append, found_part, comes_behind}

-- A loop that takes one piece, by what its calls do, for any reader that lends.

-- a `fill_buf` and its loan are a call
fill_law : {X : Type 0} {R : Reader X} {old new : X} (reply : Result (Bor (List ℕ)) Error) → FillBufLaw R old reply
    → AfterLoan R old reply new → FilledLaw R old (lent_bytes reply) new
fill_law reply law loan = grind (arith, common_steps)

-- a `fill_buf` and its loan are a call, with the result as a `match` names it
pub filled_law : {X : Type 0} {R : Reader X} {old new : X} {reply answer : Result (Bor (List ℕ)) Error} → reply ≡ answer
    → FillBufLaw R old reply → AfterLoan R old reply new → FilledLaw R old (lent_bytes answer) new
filled_law {R = R} {old} {new} {reply} is law loan = subst (λ r. FilledLaw R old (lent_bytes r) new) is (fill_law reply law loan)

-- a `fill_buf` lent some bytes, and a `consume` dropped the first n of them
module _ {X : Type 0} {R : Reader X} {now after new : X} {lent : List ℕ} {n : ℕ} (filled : FilledLaw R now (Ok lent) after) where
  module _ (within : n ≤ length lent) (dropped : ConsumeLaw R after n new) where
    -- these were taken,
    pub lent_taken : Takes (tells R after) (events_of (take n lent)) (tells R new)
    lent_taken = subst (λ l. Takes (tells R after) (events_of (take n l)) (tells R new)) filled.lends dropped.takes

    -- by two calls,
    pub lent_calls : ByCalls (ReadCallLaw R) now (λ C. C ≡ Filled (Ok lent) ∷ Consumed n ∷ []) new
    lent_calls = record {
      calls = _;
      made = (after, filled, (new, (subst (λ l. n ≤ length l) (sym filled.lends) within, dropped), refl));
      are = refl;
    }

    -- and if there were some, they spent a turn
    pub lent_spends : 0 < n → R.turns new < R.turns now
    lent_spends some =
        let less = spends lent_taken (omega (arith, some, length-events_of (take n lent), length-take-le n lent within)) in
        omega (arith, less, takes_turns filled.takes)

-- Such a loop took the events P so far, of one piece, and no d.
pub record PartTaken {X : Type 0} (R : Reader X) (d : ℕ) (old : X) (P : List Event) (now : X) : Type 0 where
  pub takes : Takes (tells R old) P (tells R now)
  pub no_fault : HasNoFault P
  pub lacks : Lacks d (event_bytes P)
  pub calls : ByCalls (ReadCallLaw R) old (λ C. PartCalls d C (event_bytes P)) now

-- It took P, and ended with this result.
pub record PieceTaken {X : Type 0} (R : Reader X) (lacks : ℕ → Type 0) (may_refuse : Type 0) (d : ℕ) (old : X) (P : List Event)
    (read : Result ℕ Error) (new : X) : Type 0 where
  pub takes : Takes (tells R old) P (tells R new)
  pub ends : PieceEnds lacks d (tells R old) P read
  pub calls : ByCalls (ReadCallLaw R) old (λ C. PieceCalls may_refuse d C (event_bytes P) read) new

-- at the start nothing is taken
pub part_none : {X : Type 0} (R : Reader X) (d : ℕ) (old : X) → PartTaken R d old [] old
part_none R d old = record {
  takes = takes_none (tells R old);
  no_fault = tt;
  lacks = tt;
  calls = record { calls = []; made = refl; are = no_part };
}

module _ {X : Type 0} {R : Reader X} {d : ℕ} {old now after : X} {P : List Event} (before : PartTaken R d old P now) where
  module _ {e : Error} (filled : FilledLaw R now (Err e) after) where
    -- after an interruption the loop continues
    pub part_waited : IsInterruption e → PartTaken R d old (P ++ fails e ∷ []) after
    part_waited again =
        let same = sym (bytes-fails P e) in
        record {
          takes = takes_then before.takes filled.takes;
          no_fault = HasNoFault-append P (fails e ∷ []) before.no_fault (again, tt);
          lacks = subst (Lacks d) same before.lacks;
          calls = by_more before.calls (Filled (Err e)) filled
              (λ C parts. subst (PartCalls d (C ++ Filled (Err e) ∷ [])) same (part_interrupted C (event_bytes P) e parts again));
        }

    -- a fault ends it
    pub piece_faulted : {lacks : ℕ → Type 0} {may_refuse : Type 0} → IsFault e
        → PieceTaken R lacks may_refuse d old (P ++ fails e ∷ []) (Err e) after
    piece_faulted fault =
        let same = sym (bytes-fails P e) in
        record {
          takes = takes_then before.takes filled.takes;
          ends = (subst (Lacks d) same before.lacks, inl (P, refl, before.no_fault, fault));
          calls = by_more before.calls (Filled (Err e)) filled (λ C parts. (C, subst (PartCalls d C) same parts, inl (fault, refl)));
        }

  module _ {lent : List ℕ} {n : ℕ} {is_whole : Bool} (filled : FilledLaw R now (Ok lent) after) (found : FindsPiece d lent n is_whole) where
    -- so does a failed allocation
    pub piece_refused : {lacks : ℕ → Type 0} {e : Error} → IsOutOfMemory e → 0 < length (take n lent)
        → lacks (length (event_bytes P) + length (take n lent)) → PieceTaken R lacks (Unit {0}) d old P (Err e) after
    piece_refused refused some short =
        let part = found_part d lent n is_whole found some in
        let comes = comes_behind P lent n before.takes filled.front in
        record {
          takes = takes_still before.takes filled.takes;
          ends = (before.lacks, inr (before.no_fault, refused, (take n lent, part, comes, short)));
          calls = by_more before.calls (Filled (Ok lent)) filled (λ C parts.
              (C, parts, inr (tt, refused, lent, omega (arith, some, found.within, length-take-le n lent found.within), refl)));
        }

    module _ {new : X} (dropped : ConsumeLaw R after n new) where
      -- the lent bytes that belong to the piece
      takes : Takes (tells R old) (P ++ events_of (take n lent)) (tells R new)
      takes = takes_then (takes_still before.takes filled.takes) (lent_taken filled found.within dropped)

      no_fault : HasNoFault (P ++ events_of (take n lent))
      no_fault = HasNoFault-append P _ before.no_fault (HasNoFault-events_of (take n lent))

      -- if they do not end it, they are all, and the loop continues
      pub part_more : is_whole ≡ false → PartTaken R d old (P ++ events_of (take n lent)) new
      part_more going =
          let (some, lacks, all) = found.open_ended going in
          let whole : take n lent ≡ lent = take_all n lent (omega (arith, all)) in
          let more = sym (bytes-more P (take n lent)) in
          record {
            takes = takes;
            no_fault = no_fault;
            lacks = subst (Lacks d) more (Lacks-append d (event_bytes P) (take n lent) before.lacks lacks);
            calls = by_then before.calls (lent_calls filled found.within dropped) (λ C D parts is. rw is
                (subst (λ k. PartCalls d (C ++ Filled (Ok lent) ∷ Consumed k ∷ []) (event_bytes (P ++ events_of (take n lent)))) (sym all)
                (subst (PartCalls d (C ++ Filled (Ok lent) ∷ Consumed (length lent) ∷ [])) (ap (λ l. event_bytes P ++ l) (sym whole) ∙ more)
                (and_part C (event_bytes P) lent parts (omega (arith, some, all)) (subst (Lacks d) whole lacks)))));
          }

      -- the bytes with the d end the piece; or there are none, at the end
      ended : EndsPiece d (take n lent) ⊎ (lent ≡ []) → EndsAt d (P ++ events_of (take n lent))
          ⊎ (Lacks d (event_bytes (P ++ events_of (take n lent))) × IsAll (tells R old) (P ++ events_of (take n lent)))
      ended (inl end) = inl (
        P ++ events_of end.0,
        grind (arith, common_steps, events_of-append, append_assoc),
        grind (arith, common_steps, bytes-more, Lacks-append),
      )
      ended (inr none) =
          let same : P ≡ P ++ events_of (take n lent) = grind (arith, common_steps) in
          let all = takes_to_end P before.takes (stays_at_end filled.takes (filled.end (ap Ok none))) in
          inr (subst (λ l. Lacks d (event_bytes l)) same before.lacks, subst (IsAll (tells R old)) same all)

      -- then the loop ends
      pub piece_whole : {lacks : ℕ → Type 0} {may_refuse : Type 0} {count : ℕ} → is_whole ≡ true
          → count ≡ length (event_bytes (P ++ events_of (take n lent)))
          → PieceTaken R lacks may_refuse d old (P ++ events_of (take n lent)) (Ok count) new
      piece_whole whole counts = record {
        takes = takes;
        ends = (no_fault, counts, ended (found.whole whole));
        calls = by_then before.calls (lent_calls filled found.within dropped) (λ C D parts is.
            (C, event_bytes P, lent, n, parts, subst (FindsPiece d lent n) whole found, bytes-more P (take n lent), ap (λ l. C ++ l) is));
      }

-- What a loop took so far was appended.
pub record UntilSoFar {X A : Type 0} (R : Reader X) (d : ℕ) (old : X) (buf buf' : Vec ℕ A) (now : X) : Type 0 where
  pub taken : List Event
  pub part : PartTaken R d old taken now
  pub capacity : vec_capacity buf ≤ vec_capacity buf'
  pub gave : buf'.items ≡ buf.items ++ event_bytes taken

-- at the start nothing was
pub until_none : {X A : Type 0} {R : Reader X} {d : ℕ} {old : X} {buf : Vec ℕ A} → UntilSoFar R d old buf buf old
until_none {R = R} {d} {old} = record { taken = []; part = part_none R d old; capacity = le_refl _; gave = sym (append-nil _) }

-- some bytes more were appended
gave_more : (buf : List ℕ) {xs ys : List ℕ} (P : List Event) (x : List ℕ) → xs ≡ buf ++ event_bytes P → ys ≡ xs ++ x
    → ys ≡ buf ++ event_bytes (P ++ events_of x)
gave_more buf P x gave more = grind (arith, common_steps, append_assoc, bytes-more)

-- a piece that was taken and appended
until_law : {X A : Type 0} {R : Reader X} {d : ℕ} {old new : X} {buf buf' : Vec ℕ A} {P : List Event} {reply : Result ℕ Error}
    → PieceTaken R (λ n. vec_capacity buf < vec_len buf + n) (Unit {0}) d old P reply new → vec_capacity buf ≤ vec_capacity buf'
    → buf'.items ≡ buf.items ++ event_bytes P → ReadUntilLaw R old d buf reply buf' new
until_law {P = P} piece grown gave =
    record { taken = P; takes = piece.takes; appends = gave; ends = piece.ends; capacity = grown; calls = piece.calls }

module _ {X A : Type 0} {R : Reader X} {d : ℕ} {old now after : X} {buf xs : Vec ℕ A} (before : UntilSoFar R d old buf xs now) where
  module _ {e : Error} (filled : FilledLaw R now (Err e) after) where
    -- an interruption is ignored
    pub until_interruption : IsInterruption e → UntilSoFar R d old buf xs after
    until_interruption again = record {
      taken = before.taken ++ fails e ∷ [];
      part = part_waited before.part filled again;
      capacity = before.capacity;
      gave = before.gave ∙ ap (λ l. buf.items ++ l) (sym (bytes-fails before.taken e));
    }

    -- a fault ends the loop
    pub until_fault : IsFault e → ReadUntilLaw R old d buf (Err e) xs after
    until_fault fault =
        until_law (piece_faulted before.part filled fault) before.capacity
        (before.gave ∙ ap (λ l. buf.items ++ l) (sym (bytes-fails before.taken e)))

  module _ {lent : List ℕ} {n : ℕ} {is_whole : Bool} (filled : FilledLaw R now (Ok lent) after) (found : FindsPiece d lent n is_whole) where
    -- so does a failed allocation
    pub until_refused : {v : Vec ℕ A} {e : Error} → vec_capacity xs ≤ vec_capacity v → IsOutOfMemory e → v.items ≡ xs.items
        → vec_capacity xs < vec_len xs + length (take n lent) → ReadUntilLaw R old d buf (Err e) v after
    until_refused grown refused same full =
        let long : vec_len xs ≡ vec_len buf + length (event_bytes before.taken) =
        omega (arith, xs.ok.0, buf.ok.0, ap length before.gave, length-append buf.items (event_bytes before.taken)) in
        until_law (piece_refused before.part filled found refused (omega (arith, full, xs.ok.1))
        (omega (arith, full, long, before.capacity))) (le_trans before.capacity grown) (same ∙ before.gave)

    module _ {v : Vec ℕ A} {new : X} (grown : vec_capacity xs ≤ vec_capacity v) (dropped : ConsumeLaw R after n new) where
      -- after a part of the piece the loop continues
      pub until_more : v.items ≡ xs.items ++ take n lent → is_whole ≡ false → UntilSoFar R d old buf v new
      until_more appended going = record {
        taken = before.taken ++ events_of (take n lent);
        part = part_more before.part filled found dropped going;
        capacity = le_trans before.capacity grown;
        gave = gave_more buf.items before.taken (take n lent) before.gave appended;
      }

      -- the end of the piece ends it
      pub until_whole : {start end : ℕ} → v.items ≡ xs.items ++ take n lent → is_whole ≡ true → start ≡ vec_len buf → end ≡ vec_len v
          → ReadUntilLaw R old d buf (Ok (end - start)) v new
      until_whole {start} {end} appended whole from to =
          let all = event_bytes (before.taken ++ events_of (take n lent)) in
          let gave : v.items ≡ buf.items ++ all = gave_more buf.items before.taken (take n lent) before.gave appended in
          let counts : end - start ≡ length all = omega (arith, from, to, v.ok.0, buf.ok.0, ap length gave, length-append buf.items all) in
          until_law (piece_whole before.part filled found dropped whole counts) (le_trans before.capacity grown) gave

-- A loop that skips one piece, for any reader that lends.

-- A part of a piece was skipped so far. The count is its length, at most `usize::MAX`.
pub record SkipSoFar {X : Type 0} (R : Reader X) (d : ℕ) (old : X) (skipped : ℕ) (now : X) : Type 0 where
  pub taken : List Event
  pub part : PartTaken R d old taken now
  pub count : skipped ≡ min (length (event_bytes taken)) (2 ^ 64 - 1)

-- at the start nothing was skipped
pub skip_none : {X : Type 0} {R : Reader X} {d : ℕ} {old : X} → SkipSoFar R d old 0 old
skip_none {R = R} {d} {old} = record { taken = []; part = part_none R d old; count = omega arith }

-- a piece that was skipped
skip_law : {X : Type 0} {R : Reader X} {d : ℕ} {old new : X} {P : List Event} (read : Result ℕ Error) {reply : Result ℕ Error}
    → reply ≡ at_most_max read → PieceTaken R (λ _. ⊥) ⊥ d old P read new → SkipUntilLaw R old d reply new
skip_law {P = P} read is piece = record { taken = P; takes = piece.takes; read = read; is = is; ends = piece.ends; calls = piece.calls }

module _ {X : Type 0} {R : Reader X} {d : ℕ} {old now after : X} {skipped : ℕ} (before : SkipSoFar R d old skipped now) where
  module _ {e : Error} (filled : FilledLaw R now (Err e) after) where
    -- an interruption is ignored
    pub skip_interruption : IsInterruption e → SkipSoFar R d old skipped after
    skip_interruption again = record {
      taken = before.taken ++ fails e ∷ [];
      part = part_waited before.part filled again;
      count = before.count ∙ ap (λ l. min (length l) (2 ^ 64 - 1)) (sym (bytes-fails before.taken e));
    }

    -- a fault ends the loop
    pub skip_fault : IsFault e → SkipUntilLaw R old d (Err e) after
    skip_fault fault = skip_law (Err e) refl (piece_faulted before.part filled fault)

  module _ {lent : List ℕ} {n : ℕ} {is_whole : Bool} (filled : FilledLaw R now (Ok lent) after) (found : FindsPiece d lent n is_whole) where
    module _ {total : ℕ} {new : X} (dropped : ConsumeLaw R after n new) (total_is : total ≡ min (skipped + n) (2 ^ 64 - 1)) where
      -- the count
      counted : total ≡ min (length (event_bytes (before.taken ++ events_of (take n lent)))) (2 ^ 64 - 1)
      counted = grind (arith, common_steps, bytes-more, length-append, length-take-le)

      -- after a part of the piece the loop continues
      pub skip_more : is_whole ≡ false → SkipSoFar R d old total new
      skip_more going = record { taken = _; part = part_more before.part filled found dropped going; count = counted }

      -- the end of the piece ends it
      pub skip_piece : is_whole ≡ true → SkipUntilLaw R old d (Ok total) new
      skip_piece whole = skip_law (Ok _) (ap Ok counted) (piece_whole before.part filled found dropped whole refl)

-- A loop that takes a number of bytes, by what its calls do, for any reader that lends.

-- Of n bytes, `left` are still wanted; the others were taken, by these calls.
pub record PortionsTaken {X : Type 0} (R : Reader X) (old : X) (n left : ℕ) (now : X) : Type 0 where
  pub taken : List Event
  pub takes : Takes (tells R old) taken (tells R now)
  pub no_fault : HasNoFault taken
  pub count : length (event_bytes taken) + left ≡ n
  pub calls : ByCalls (ReadCallLaw R) old (λ C. PortionCalls n C (event_bytes taken)) now

-- at the start all are wanted
pub portions_none : {X : Type 0} {R : Reader X} {old : X} {n : ℕ} → PortionsTaken R old n n old
portions_none {R = R} {old} = record {
  taken = [];
  takes = takes_none (tells R old);
  no_fault = tt;
  count = omega arith;
  calls = record { calls = []; made = refl; are = no_portion };
}

module _ {X : Type 0} {R : Reader X} {old now : X} {n left : ℕ} (before : PortionsTaken R old n left now) (more : 0 < left) where
  -- some bytes are still wanted
  wanted : length (event_bytes before.taken) < n
  wanted = omega (arith, before.count, more)

  module _ {after : X} {e : Error} (filled : FilledLaw R now (Err e) after) where
    same : event_bytes before.taken ≡ event_bytes (before.taken ++ fails e ∷ [])
    same = sym (bytes-fails before.taken e)

    -- an interruption is ignored
    pub portions_waited : IsInterruption e → PortionsTaken R old n left after
    portions_waited again = record {
      taken = before.taken ++ fails e ∷ [];
      takes = takes_then before.takes filled.takes;
      no_fault = HasNoFault-append before.taken (fails e ∷ []) before.no_fault (again, tt);
      count = ap (λ l. length l + left) (sym same) ∙ before.count;
      calls = by_more before.calls (Filled (Err e)) filled
          (λ C so_far. subst (PortionCalls n (C ++ Filled (Err e) ∷ [])) same (portion_interrupted C _ e so_far wanted again));
    }

    -- a fault ends a `skip`
    pub skip_faults : IsFault e → Skipped R old n (Err e) left after
    skip_faults fault = record {
      taken = before.taken ++ fails e ∷ [];
      takes = takes_then before.takes filled.takes;
      count = ap (λ l. length l + left) (sym same) ∙ before.count;
      ends = (more, inl (before.taken, refl, before.no_fault, fault));
      calls = by_more before.calls (Filled (Err e)) filled
          (λ C so_far. inl (fault, (C, subst (PortionCalls n C) same so_far, subst (λ l. length l < n) same wanted, refl)));
    }

  module _ {after : X} {lent : List ℕ} (filled : FilledLaw R now (Ok lent) after) where
    -- the end ends a `skip`
    pub skip_ends : {e : Error} → lent ≡ [] → IsUnexpectedEnd e → Skipped R old n (Err e) left after
    skip_ends none end = record {
      taken = before.taken;
      takes = takes_still before.takes filled.takes;
      count = before.count;
      ends = (more, inr (end, before.no_fault, filled.end (ap Ok none)));
      calls = by_more before.calls (Filled (Ok lent)) filled
          (λ C so_far. inr (end, (C, so_far, wanted, ap (λ l. C ++ Filled (Ok l) ∷ []) none)));
    }

    module _ {k : ℕ} {new : X} (dropped : ConsumeLaw R after k new) (some : 0 < length lent) (least : k ≡ min (length lent) left) where
      fits : k ≤ length lent
      fits = omega (arith, least)

      -- the lent bytes that are wanted are taken
      pub portions_took : PortionsTaken R old n (left - k) new
      portions_took =
          let grown = bytes-more before.taken (take k lent) in
          let long = ap length grown ∙ length-append (event_bytes before.taken) (take k lent) in
          record {
            taken = before.taken ++ events_of (take k lent);
            takes = takes_then (takes_still before.takes filled.takes) (lent_taken filled fits dropped);
            no_fault = HasNoFault-append before.taken _ before.no_fault (HasNoFault-events_of (take k lent));
            count = omega (arith, before.count, least, long, length-take-le k lent fits);
            calls = by_then before.calls (lent_calls filled fits dropped) (λ C D so_far is. rw is
                (subst (PortionCalls n (C ++ Filled (Ok lent) ∷ Consumed k ∷ [])) (sym grown)
                (and_portion C _ lent k so_far wanted some (omega (arith, least, before.count)))));
          }

      -- and a turn is spent
      pub portion_spends : R.turns new < R.turns now
      portion_spends = lent_spends filled fits dropped (omega (arith, some, least, more))

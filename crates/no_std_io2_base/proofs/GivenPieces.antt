-- All pieces that are to come, and those that calls have given so far.
use Rattle.no_std_io2_base.proofs.{PieceLemmas.{pieces-first, pieces-last, ends_with_byte-end, ends_with_byte-lacks}, TakesLemmas.{left_of}}
use Rattle.no_std_io2_base.{proofs.TakesLemmas.{spends, bytes-append, bytes-events_of, HasNoFault-events_of}, specs.BufRead.{ReadUntilLaw}}
use Rattle.no_std_io2_base.specs.{Errors.{IsFault, IsOutOfMemory}, Events.{Event, byte, fails, events_of, event_bytes, HasNoFault}}
use Rattle.no_std_io2_base.specs.{Pieces.{GivesPieces, AreAllPieces}, Reads.{StopsAfter}, Takes.{ReaderState, Takes, to_come, Reader}}
use Rattle.no_std_io2_base.specs.{Takes.{tells}, declared.error.Error.{Error}, inner.Events.{EndsInFault, bytes_to_fault, first_fault}}
use Rattle.no_std_io2_base.specs.inner.{Iterators.{NextPieceLaw, ends_at, items_left}, Pieces.{Lacks, EndsAt, pieces_of, pieces_before}}
use Rattle.no_std_io2_base.specs.inner.Pieces.{pieces_given, GivesFirst, GivesNext, GivesNone, GivenRead, PieceEnds}
use Rattle.std.proofs.Common.{rules, ◌≡◌, ℕ, ◌+◌, ◌<◌, ◌≤◌, ◌⊎◌, false, cond, if◌then◌else◌, Option, Some, None, List, [], ◌∷◌, ◌++◌}
use Rattle.std.proofs.Common.{length, filter, refl, sym, ap, ap₂, ◌∙◌, subst, arith, append-nil, append_assoc, Result, Ok, Err, inl, inr}
use Rattle.std.proofs.Common.{⊎_elim, length-append, IfSome, OnSome, IfErr, Vec, vec_len, vec_capacity, IsSomeAnd, true}
use Rattle.std.proofs.lemmas.{Grind.{common_steps}, List.{Folds.{concat-append}, append_cancel_left, nil_from_length}}
use Rattle.std.specs.{List.{concat}, Io.BufRead.{ends_with_byte}}

-- What a call that takes one piece says of all pieces that are to come, if the reader tells its events; and what its error is.

-- the first fault of events without a fault, followed by others, is that of the others
pub first_fault-append : (P Q : List Event) → HasNoFault P → first_fault (P ++ Q) ≡ first_fault Q
first_fault-append [] Q h = refl
first_fault-append (byte b ∷ P) Q h = first_fault-append P Q h
first_fault-append (fails e ∷ P) Q h = ap (λ t. if t then first_fault (P ++ Q) else Some e) h.0 ∙ first_fault-append P Q h.1

-- the bytes to the first fault are those of a front that has none, and then those to the fault in the rest
pub bytes_to_fault-append : (P Q : List Event) → HasNoFault P → bytes_to_fault (P ++ Q) ≡ event_bytes P ++ bytes_to_fault Q
bytes_to_fault-append [] Q h = refl
bytes_to_fault-append (byte b ∷ P) Q h = ap (λ l. b ∷ l) (bytes_to_fault-append P Q h)
bytes_to_fault-append (fails e ∷ P) Q h = ap (λ t. if t then bytes_to_fault (P ++ Q) else []) h.0 ∙ bytes_to_fault-append P Q h.1

-- a piece that ends in d is the first piece, whatever follows
before-first : (d : ℕ) (f : Option Error) (bs cs : List ℕ) → Lacks d bs
    → pieces_before d f (bs ++ d ∷ cs) ≡ (bs ++ d ∷ []) ∷ pieces_before d f cs
before-first d f bs cs h = grind (arith, common_steps, pieces-first, filter, cond, ends_with_byte-end)

-- what a front without faults is in what is given
given-front : (d : ℕ) (P Q : List Event) → HasNoFault P
    → pieces_given d (P ++ Q) ≡ pieces_before d (first_fault Q) (event_bytes P ++ bytes_to_fault Q)
given-front d P Q h = ap₂ (pieces_before d) (first_fault-append P Q h) (bytes_to_fault-append P Q h)

-- some bytes without a d, followed by nothing
given-last : (d : ℕ) (bs : List ℕ) → Lacks d bs → 0 < length bs → pieces_of d (bs ++ []) ≡ bs ∷ []
given-last d [] none some = absurd (omega (arith, some))
given-last d (b ∷ bs) none some = ap (pieces_of d) (append-nil (b ∷ bs)) ∙ pieces-last d b bs none

-- events that end in d, or all, are the next piece
given_next : (d : ℕ) (E P after : List Event) → E ≡ P ++ after → HasNoFault P → EndsAt d P ⊎ (Lacks d (event_bytes P) × (after ≡ []))
    → 0 < length (event_bytes P) → GivesNext d E (event_bytes P) after
given_next d E P after split free ends some =
    grind (arith, common_steps, first_fault-append, bytes_to_fault-append, bytes-append, given-front, before-first, given-last)

-- if they have no byte, they are all
given_none : (d : ℕ) (E P after : List Event) → E ≡ P ++ after → HasNoFault P → EndsAt d P ⊎ (Lacks d (event_bytes P) × (after ≡ []))
    → length (event_bytes P) ≡ 0 → GivesNone d E
given_none d E P after split free at none =
    grind (arith, common_steps, bytes-append, length-append, given-front, nil_from_length, first_fault-append)

-- bytes without a d give no piece that a d ended
none_ended : (d : ℕ) (bs : List ℕ) → Lacks d bs → filter (ends_with_byte d) (pieces_of d bs) ≡ []
none_ended d [] h = refl
none_ended d (b ∷ bs) h =
    ap (filter (ends_with_byte d)) (pieces-last d b bs h) ∙ ap (λ t. cond t ((b ∷ bs) ∷ []) []) (ends_with_byte-lacks d (b ∷ bs) h)

-- the first fault ends what is given
given_fault : (d : ℕ) (E : List Event) (e : Error) (taken after : List Event) → E ≡ taken ++ after
    → Lacks d (event_bytes taken) → EndsInFault taken e → (pieces_given d E ≡ []) × (first_fault E ≡ Some e)
given_fault d E e taken after split none f =
    grind (arith, common_steps, append_assoc, bytes-append, append-nil, given-front, ap₂, filter, none_ended, first_fault-append)

-- a part of a piece comes before the first fault
part_comes : (P rest : List Event) (part : List ℕ) → HasNoFault P
    → bytes_to_fault (P ++ (events_of part ++ rest)) ≡ event_bytes P ++ (part ++ bytes_to_fault rest)
part_comes P rest part free = grind (arith, common_steps, bytes_to_fault-append, HasNoFault-events_of, bytes-events_of)

-- what holds if events are told holds of them
of_told : {E : List Event} (t : Option (List Event)) (Q : List Event → Type 0) → t ≡ Some E → IfSome t Q → Q E
of_told t Q is h = subst (λ o. IfSome o Q) is h

-- if P is all, nothing is left
none_left : (E P after : List Event) → E ≡ P ++ after → E ≡ P → after ≡ []
none_left E P after split all = append_cancel_left P after [] (sym split ∙ all ∙ sym (append-nil P))

-- what a piece says of all
given_read : (lacks : ℕ → Type 0) (d : ℕ) (t : ReaderState) (E P after : List Event) (read : Result ℕ Error) → to_come t ≡ Some E
    → E ≡ P ++ after → PieceEnds lacks d t P read → GivenRead d E (event_bytes P) read after
given_read lacks d t E P after (Ok n) told split (free, count, ends) =
    search (arith, rules, ⊎_elim, none_left, of_told, GivesNone, given_none, given_next)
given_read lacks d t E P after (Err e) told split (none, inl fault) = inl (given_fault d E e P after split none fault)
given_read lacks d t E P after (Err e) told split (none, inr (free, refused, (part, is_part, comes, why))) =
    grind (arith, common_steps, of_told, part_comes, length-append)

-- A call that takes one piece from a reader that tells the events E: those after it are told, and the piece says this of all pieces of E.
pub piece_given : (lacks : ℕ → Type 0) (d : ℕ) (t t' : ReaderState) (E P : List Event) (read : Result ℕ Error) → Takes t P t'
    → PieceEnds lacks d t P read → to_come t ≡ Some E
    → (after : List Event) × (to_come t' ≡ Some after) × (E ≡ P ++ after) × GivenRead d E (event_bytes P) read after
piece_given lacks d t t' E P read takes ends told = grind (arith, common_steps, left_of, given_read)

-- A `read_until` from a reader that tells the events E: those after the piece are told, and the piece says this of all pieces of E.
pub until_given : {X A : Type 0} {R : Reader X} {old new : X} {d : ℕ} {buf buf' : Vec ℕ A} {reply : Result ℕ Error} {E : List Event}
    → (law : ReadUntilLaw R old d buf reply buf' new) → to_come (tells R old) ≡ Some E
    → (after : List Event) × (to_come (tells R new) ≡ Some after) × (E ≡ law.taken ++ after)
    × GivenRead d E (event_bytes law.taken) reply after
until_given {buf = buf} {reply = reply} {E} law told =
    piece_given (λ n. vec_capacity buf < vec_len buf + n) _ _ _ E law.taken reply law.takes law.ends told

-- there are no more bytes than events
pub few_bytes : (P : List Event) → length (event_bytes P) ≤ length P
few_bytes [] = omega arith
few_bytes (byte b ∷ P) = omega (arith, few_bytes P)
few_bytes (fails e ∷ P) = omega (arith, few_bytes P)

-- some bytes spend a turn
pub piece_spends : {t t' : ReaderState} {P : List Event} → Takes t P t' → 0 < length (event_bytes P) → t'.turns < t.turns
piece_spends {P = P} takes some = spends takes (omega (arith, some, few_bytes P))

module _ {X T : Type 0} {R : Reader X} {old new : X} {view : T → List ℕ} {trim : List ℕ → List ℕ} where
  module _ {refuses : List ℕ → Error → Type 0} {d : ℕ} where
    -- each item of `Split` and `Lines` spends a turn
    pub next_turns : (result : Option (Result T Error)) → NextPieceLaw R old view trim refuses d result new
        → OnSome result (items_left (ends_at result) (R.turns new) < items_left false (R.turns old))
    next_turns result law = grind (arith, common_steps)

    -- and each of their errors is a fault
    pub next_fault : (result : Option (Result T Error)) → ((piece : List ℕ) (e : Error) → refuses piece e → IsFault e)
        → NextPieceLaw R old view trim refuses d result new → IfSome result (λ item. IfErr item IsFault)
    next_fault result refused law = grind (arith, common_steps)

    module _ {E : List Event} (told : to_come (tells R old) ≡ Some E) where
      -- an item is the next piece, trimmed
      pub next_item : {item : T} → NextPieceLaw R old view trim refuses d (Some (Ok item)) new
          → (after : List Event) × (to_come (tells R new) ≡ Some after)
          × ((piece : List ℕ) × (view item ≡ trim piece) × GivesNext d E piece after)
      next_item {item} law =
          let all = piece_given (λ _. Unit {0}) d (tells R old) (tells R new) E law.taken law.read law.takes law.ends told in
          grind (arith, common_steps)

      -- after the last item there is no piece, and no fault
      pub next_none : NextPieceLaw R old view trim refuses d None new → GivesNone d E
      next_none law =
          let all = piece_given (λ _. Unit {0}) d (tells R old) (tells R new) E law.taken law.read law.takes law.ends told in
          grind (arith, common_steps)

      -- an error is the first fault, before which there is no piece; or it refuses the next piece;
      -- or memory was refused, and a byte was to come
      pub next_error : {e : Error} → NextPieceLaw R old view trim refuses d (Some (Err e)) new
          → ((pieces_given d E ≡ []) × (first_fault E ≡ Some e))
          ⊎ (((piece : List ℕ) × (after : List Event) × GivesNext d E piece after × refuses piece e)
          ⊎ (IsOutOfMemory e × (0 < length (bytes_to_fault E))))
      next_error {e} law =
          let all = piece_given (λ _. Unit {0}) d (tells R old) (tells R new) E law.taken law.read law.takes law.ends told in
          grind (arith, common_steps)

-- A loop that takes pieces by `read_until`, over any reader that lends: the pieces so far, and what its end or an error says of all pieces.

-- before the first piece no pieces were given
pub pieces_none : (d : ℕ) (t : ReaderState) → GivesPieces d t [] t
pieces_none d t = grind (arith, common_steps)

-- if no byte was taken, what comes stays the same
same_pieces : (d : ℕ) (E P after : List Event) → E ≡ P ++ after → HasNoFault P → event_bytes P ≡ [] → GivesFirst d E [] after
same_pieces d E P after split free empty = grind (arith, common_steps, bytes_to_fault-append, first_fault-append)

-- what a `read_until` says of all pieces: it took the next one, or there was none
abbrev Says : ℕ → List Event → List ℕ → Result ℕ Error → List Event → Type 0
Says d E x (Ok n) after = ((0 < n) × GivesNext d E x after) ⊎ ((n ≡ 0) × (x ≡ []) × GivesFirst d E [] after × GivesNone d E)
Says d E x (Err e) after = ((pieces_given d E ≡ []) × (first_fault E ≡ Some e)) ⊎ IsOutOfMemory e

until_says : {X A : Type 0} {R : Reader X} {d : ℕ} {reply : Result ℕ Error} {old new : X} {buf buf' : Vec ℕ A}
    (law : ReadUntilLaw R old d buf reply buf' new)
    → IfSome (to_come (tells R old)) (λ E. IsSomeAnd (to_come (tells R new)) (Says d E (event_bytes law.taken) reply))
until_says {R = R} {d} {reply} {old} {new} law = by (to_come (tells R old)) refl
  where
    by : (t : Option (List Event)) → to_come (tells R old) ≡ t
        → IfSome t (λ E. IsSomeAnd (to_come (tells R new)) (Says d E (event_bytes law.taken) reply))
    by None is = tt
    by (Some E) is = let given = until_given law is in grind (arith, common_steps, nil_from_length, same_pieces, given)

-- a part of a piece behind them
parted : (d n : ℕ) (E F after : List Event) (ps : List (List ℕ)) (x part rest : List ℕ) → x ≡ part ++ rest → GivesFirst d E ps F
    → Says d F x (Ok n) after → bytes_to_fault E ≡ (concat ps ++ part) ++ (rest ++ bytes_to_fault after)
parted d n E F after ps x part rest is first next = grind (arith, common_steps)

module _ {X A : Type 0} {R : Reader X} {d : ℕ} {a : ReaderState} {ps : List (List ℕ)} {mid new : X} {buf buf' : Vec ℕ A} where
  module _ (gives : GivesPieces d a ps (tells R mid)) where
    -- a `read_until` gave one piece more
    pub pieces_more : {n : ℕ} (law : ReadUntilLaw R mid d buf (Ok n) buf' new) → (n ≡ 0 → ⊥)
        → GivesPieces d a (ps ++ event_bytes law.taken ∷ []) (tells R new)
    pieces_more law some = grind (arith, common_steps, until_says law, concat-append, append_assoc, append-nil)

    -- a `read_until` gave no byte: these were all pieces, and no fault comes
    pub pieces_end : {n : ℕ} (law : ReadUntilLaw R mid d buf (Ok n) buf' new) → n ≡ 0
        → GivesPieces d a ps (tells R new) × AreAllPieces d a ps None
    pieces_end law none = grind (arith, common_steps, until_says law, append-nil)

    -- a `read_until` failed: behind the pieces so far these bytes were taken
    pub stops_reading : {e : Error} (law : ReadUntilLaw R mid d buf (Err e) buf' new)
        → StopsAfter d e a ps (event_bytes law.taken) (tells R new)
    stops_reading {e} law = elim law.ends.1 [
      | inl fault ↦ record {
        mid = tells R mid;
        gives = gives;
        how = Err e;
        took = record { taken = law.taken; takes = law.takes; are = refl; ends = fault };
        whose = inl refl;
      }
      | inr refused ↦ record {
        mid = tells R mid;
        gives = gives;
        how = Ok true;
        took = record { taken = law.taken; takes = law.takes; are = refl; ends = refused.0 };
        whose = inr (refl, refused.1);
      }
    ]

-- an empty vector has the piece that a `read_until` took
pub piece_alone : {X A : Type 0} {R : Reader X} {d : ℕ} {mid new : X} {buf buf' : Vec ℕ A} {reply : Result ℕ Error}
    (law : ReadUntilLaw R mid d buf reply buf' new) {line : List ℕ} → buf.items ≡ [] → line ≡ buf'.items → line ≡ event_bytes law.taken
piece_alone law empty same = same ∙ law.appends ∙ ap (λ l. l ++ event_bytes law.taken) empty

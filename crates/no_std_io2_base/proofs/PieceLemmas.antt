-- Pieces of bytes, and what calls took of one.
use Rattle.std.proofs.{lemmas.Grind.{common_steps}, Common.{◌≡◌, ◌≢◌, ℕ, ◌==◌, true, false, Bool, if◌then◌else◌, List, [], ◌∷◌, ◌++◌}}
use Rattle.std.proofs.Common.{length, refl, sym, ap, ◌∙◌, arith, true≢false, eqb-true, eq-eqb, ne_eqb, suc-ne-zero, get_or, drop, ap₂, ◌&&◌}
use Rattle.std.proofs.Common.{length-append, inl, inr, ◌+◌, ◌<◌, ◌≤◌, take, All, Option, None, Some, IfSome, append_assoc, append-nil}
use Rattle.std.proofs.Common.{add-one, take-suc, slice_index, drop_of_length-le, take_all, le_refl, length-take, take-append-drop, rules}
use Rattle.std.proofs.{Common.{Result, Ok, Err, Vec, vec_len, vec_capacity, subst, ⊎_elim, ◌-◌}, lemmas.Bool.{lt-ltb}}
use Rattle.std.{proofs.lemmas.List.{Elements.{recursion_from_All}, get_or-append-add, get_or_default}, specs.Io.BufRead.{ends_with_byte}}
use Rattle.std.specs.List.{AllByRecursion, AllWithin, Contains, concat}
use Rattle.no_std_io2_base.specs.inner.Pieces.{Lacks, in_front, pieces_of, ArePieces, EndsPiece, but_last, FindsPiece, IsPiecePart}
use Rattle.no_std_io2_base.specs.inner.Pieces.{ComesBehind, PartCalls, no_part, and_part, part_interrupted, PieceCalls, PieceEnds}
use Rattle.no_std_io2_base.specs.{Events.{Event, byte, event_bytes, fails, events_of, HasNoFault}, inner.Events.{BeginsWith}}
use Rattle.no_std_io2_base.specs.{Takes.{ReaderState, Takes, to_come, Reader}, inner.Takes.{AreTaken}, declared.error.Error.{Error}}
use Rattle.no_std_io2_base.specs.{Errors.{IsInterruption}, Calls.{ReadCall, Filled, Consumed}, inner.Read.{FilledLaw}}
use Rattle.no_std_io2_base.{specs.BufRead.{ReadUntilLaw}, proofs.TakesLemmas.{bytes-append, bytes-events_of, events_of-append}}
use Rattle.no_std_io2_base.proofs.TakesLemmas.{HasNoFault-append, takes_then, IsAll-behind, EndsInFault-behind}

-- How bytes end.

-- some bytes, by the last one
ends_with_byte-some : (d : ℕ) (bs : List ℕ) → 0 < length bs → ends_with_byte d bs ≡ (slice_index bs (length bs - 1) == d)
ends_with_byte-some d bs some = ap (λ t. t && (slice_index bs (length bs - 1) == d)) (lt-ltb 0 (length bs) some)

-- joined bytes, as the second ones do
pub ends_with_byte-append : (d : ℕ) (bs cs : List ℕ) → 0 < length cs → ends_with_byte d (bs ++ cs) ≡ ends_with_byte d cs
ends_with_byte-append d bs cs some =
    let long = length-append bs cs in
    let last : length (bs ++ cs) - 1 ≡ length bs + (length cs - 1) = omega (arith, long, some) in
    ends_with_byte-some d (bs ++ cs) (omega (arith, long, some))
    ∙ ap (λ b. b == d) (ap (slice_index (bs ++ cs)) last ∙ get_or-append-add bs cs (length cs - 1) 0) ∙ sym (ends_with_byte-some d cs some)

-- bytes followed by d end in d
pub ends_with_byte-end : (d : ℕ) (bs : List ℕ) → ends_with_byte d (bs ++ d ∷ []) ≡ true
ends_with_byte-end d bs = ends_with_byte-append d bs (d ∷ []) (omega arith) ∙ eq-eqb d d refl

-- bytes that end in d have one
pub ends_with_byte-contains : (d : ℕ) (bs : List ℕ) → ends_with_byte d bs ≡ true → Contains bs d
ends_with_byte-contains d [] e = absurd (true≢false (sym e))
ends_with_byte-contains d (b ∷ bs) e =
    let last = eqb-true (slice_index (b ∷ bs) (length (b ∷ bs) - 1)) d (sym (ends_with_byte-some d (b ∷ bs) (omega arith)) ∙ e) in
    (length (b ∷ bs) - 1, omega arith, get_or_default (b ∷ bs) (length (b ∷ bs) - 1) d 0 (omega arith) ∙ last)

-- bytes without a d do not end in d
pub ends_with_byte-lacks : (d : ℕ) (bs : List ℕ) → Lacks d bs → ends_with_byte d bs ≡ false
ends_with_byte-lacks d [] h = refl
ends_with_byte-lacks d (b ∷ []) h = ne_eqb b d h.0
ends_with_byte-lacks d (b ∷ c ∷ bs) h = ends_with_byte-append d (b ∷ []) (c ∷ bs) (omega arith) ∙ ends_with_byte-lacks d (c ∷ bs) h.1

-- The laws that determine the pieces of some bytes.

-- the pieces if the first byte is d, and if it is not
pieces-at : (d b : ℕ) (bs : List ℕ) → b ≡ d → pieces_of d (b ∷ bs) ≡ (b ∷ []) ∷ pieces_of d bs
pieces-at d b bs is = ap (λ t. if t then (b ∷ []) ∷ pieces_of d bs else in_front b (pieces_of d bs)) (eq-eqb b d is)

-- a first byte that is not d joins the first piece of the rest, or is a piece by itself if there is no rest
pub pieces-other : (d b : ℕ) (bs : List ℕ) → b ≢ d → pieces_of d (b ∷ bs) ≡ in_front b (pieces_of d bs)
pieces-other d b bs differ = ap (λ t. if t then (b ∷ []) ∷ pieces_of d bs else in_front b (pieces_of d bs)) (ne_eqb b d differ)

-- of one byte more, by whether that is d
more_are : (d b : ℕ) (bs : List ℕ) (t : Bool) → (b == d) ≡ t → ArePieces d bs (pieces_of d bs) → ArePieces d (b ∷ bs) (pieces_of d (b ∷ bs))
more_are d b bs true e h = grind (arith, common_steps)
more_are d b bs false e h = grind (arith, common_steps)

-- what `pieces_of` gives keeps all the laws of the pieces
pub pieces_are : (d : ℕ) (bs : List ℕ) → ArePieces d bs (pieces_of d bs)
pieces_are d [] = record { joined = refl; none_empty = tt; ended = tt; nowhere_else = tt }
pieces_are d (b ∷ bs) = more_are d b bs (b == d) refl (pieces_are d bs)

-- no byte, no piece
none_only : (d : ℕ) (ps : List (List ℕ)) → ArePieces d [] ps → ps ≡ []
none_only d [] h = refl
none_only d ([] ∷ ps) h = absurd (omega (arith, h.none_empty.0))
none_only d ((c ∷ p) ∷ ps) h = absurd (suc-ne-zero _ (ap length h.joined))

-- the rest is the list after the first byte
joined_rest : (b c : ℕ) (bs cs : List ℕ) → c ∷ cs ≡ b ∷ bs → (c ≡ b) × (cs ≡ bs)
joined_rest b c bs cs h = (ap (λ l. get_or l 0 0) h, ap (drop 1) h)

-- without its first byte, a longer piece begins the pieces of the rest
rest_are : (d b c e : ℕ) (bs p : List ℕ) (ps : List (List ℕ)) → ArePieces d (b ∷ bs) ((c ∷ e ∷ p) ∷ ps) → ArePieces d bs ((e ∷ p) ∷ ps)
rest_are d b c e bs p ps h = record {
  joined = (joined_rest b c bs ((e ∷ p) ++ concat ps) h.joined).1;
  none_empty = (omega arith, h.none_empty.1);
  ended = by ps h.ended;
  nowhere_else = (h.nowhere_else.0.1, h.nowhere_else.1);
}
  where
    by : (ps : List (List ℕ)) → AllByRecursion (λ q. ends_with_byte d q ≡ true) (but_last ((c ∷ e ∷ p) ∷ ps))
        → AllByRecursion (λ q. ends_with_byte d q ≡ true) (but_last ((e ∷ p) ∷ ps))
    by [] ended = tt
    by (q ∷ ps) ended = (sym (ends_with_byte-append d (c ∷ []) (e ∷ p) (omega arith)) ∙ ended.0, ended.1)

-- a list that keeps these laws is what `pieces_of` gives
pub pieces_only : (d : ℕ) (bs : List ℕ) (ps : List (List ℕ)) → ArePieces d bs ps → ps ≡ pieces_of d bs
pieces_only d [] ps h = none_only d ps h
pieces_only d (b ∷ bs) [] h = absurd (suc-ne-zero _ (sym (ap length h.joined)))
pieces_only d (b ∷ bs) ([] ∷ ps) h = absurd (omega (arith, h.none_empty.0))
-- d alone
pieces_only d (b ∷ bs) ((c ∷ []) ∷ []) h = grind (arith, common_steps)
pieces_only d (b ∷ bs) ((c ∷ []) ∷ q ∷ ps) h =
    let first = joined_rest b c bs (q ++ concat ps) h.joined in
    let rest : ArePieces d bs (q ∷ ps) = record {
      joined = first.1;
      none_empty = h.none_empty.1;
      ended = h.ended.1;
      nowhere_else = h.nowhere_else.1;
    } in
    ap₂ (λ x l. (x ∷ []) ∷ l) first.0 (pieces_only d bs (q ∷ ps) rest) ∙ sym (pieces-at d b bs (sym first.0 ∙ eqb-true c d h.ended.0))
pieces_only d (b ∷ bs) ((c ∷ e ∷ p) ∷ ps) h =
    let first = joined_rest b c bs ((e ∷ p) ++ concat ps) h.joined in
    let rest = pieces_only d bs ((e ∷ p) ∷ ps) (rest_are d b c e bs p ps h) in
    ap₂ in_front first.0 rest ∙ sym (pieces-other d b bs (λ is. h.nowhere_else.0.0 (first.0 ∙ is)))

-- the first piece ends at the first d
pub pieces-first : (d : ℕ) (bs cs : List ℕ) → Lacks d bs → pieces_of d (bs ++ d ∷ cs) ≡ (bs ++ d ∷ []) ∷ pieces_of d cs
pieces-first d [] cs h = pieces-at d d cs refl
pieces-first d (b ∷ bs) cs h = pieces-other d b (bs ++ d ∷ cs) h.0 ∙ ap (in_front b) (pieces-first d bs cs h.1)

-- without a d there is one piece
pub pieces-last : (d b : ℕ) (bs : List ℕ) → Lacks d (b ∷ bs) → pieces_of d (b ∷ bs) ≡ (b ∷ bs) ∷ []
pieces-last d b [] h = pieces-other d b [] h.0
pieces-last d b (c ∷ bs) h = pieces-other d b (c ∷ bs) h.0 ∙ ap (in_front b) (pieces-last d c bs h.1)

-- Bytes that belong to one piece.

-- some bytes more
pub bytes-more : (P : List Event) (x : List ℕ) → event_bytes (P ++ events_of x) ≡ event_bytes P ++ x
bytes-more P x = bytes-append P (events_of x) ∙ ap (λ l. event_bytes P ++ l) (bytes-events_of x)

-- an error brings no bytes
pub bytes-fails : (P : List Event) (e : Error) → event_bytes (P ++ fails e ∷ []) ≡ event_bytes P
bytes-fails P e = bytes-append P (fails e ∷ []) ∙ append-nil (event_bytes P)

-- if two lists of bytes have no d, both joined have none
pub Lacks-append : (d : ℕ) (bs cs : List ℕ) → Lacks d bs → Lacks d cs → Lacks d (bs ++ cs)
Lacks-append d [] cs h k = k
Lacks-append d (b ∷ bs) cs h k = (h.0, Lacks-append d bs cs h.1 k)

-- nor have they without the last
Lacks-but_last : (d : ℕ) (bs : List ℕ) → Lacks d bs → Lacks d (but_last bs)
Lacks-but_last d [] h = tt
Lacks-but_last d (b ∷ []) h = tt
Lacks-but_last d (b ∷ c ∷ bs) h = (h.0, Lacks-but_last d (c ∷ bs) h.1)

-- the last byte alone is left out
but_last-end : (bs : List ℕ) (b : ℕ) → but_last (bs ++ b ∷ []) ≡ bs
but_last-end [] b = refl
but_last-end (a ∷ []) b = refl
but_last-end (a ∷ c ∷ bs) b = ap (λ l. a ∷ l) (but_last-end (c ∷ bs) b)

-- what holds of each element below a place holds of those before it
pub all_before : (P : ℕ → Type 0) (bs : List ℕ) (at : ℕ) → at < length bs → AllWithin P bs 0 at → All P (take at bs)
all_before P bs at within each k e short = grind (arith, common_steps)

-- if a part ends in d, it is the piece
found_end : {d n : ℕ} {bs : List ℕ} → n ≤ length bs → EndsPiece d (take n bs) → FindsPiece d bs n true
found_end within ends = record { within = within; whole = λ _. inl ends; open_ended = λ e. absurd (true≢false e) }

-- if d is found, the piece ends there
pub found_at : (d : ℕ) (bs : List ℕ) (at : ℕ) → at < length bs → slice_index bs at ≡ d → All (λ b. b ≢ d) (take at bs)
    → FindsPiece d bs (at + 1) true
found_at d bs at within is none = grind (arith, common_steps, found_end, add-one, take-suc, recursion_from_All)

-- if d is not among the bytes, all belong to the piece
pub found_none : {d : ℕ} {bs : List ℕ} {is_whole : Bool} → is_whole ≡ (length bs == 0) → All (λ b. b ≢ d) bs
    → FindsPiece d bs (length bs) is_whole
found_none {d} {bs} is none =
    grind (arith, common_steps, drop_of_length-le, eqb-true, true≢false, eq-eqb, take_all, le_refl, recursion_from_All)

-- if none are lent, none are found
found_nothing : (n : ℕ) (lent : List ℕ) → lent ≡ [] → length (take n lent) ≡ 0
found_nothing n lent none = omega (arith, length-take n lent, ap length none)

-- some lent bytes that belong to a piece are a part of it
pub found_part : (d : ℕ) (lent : List ℕ) (n : ℕ) (is_whole : Bool) → FindsPiece d lent n is_whole → 0 < length (take n lent)
    → IsPiecePart d (take n lent)
found_part d lent n true found some = grind (arith, common_steps, but_last-end, found_nothing)
found_part d lent n false found some = (some, Lacks-but_last d (take n lent) (found.open_ended refl).1)

-- of lent bytes, which come next, the first ones do
pub comes_behind : {a b : ReaderState} (P : List Event) (x : List ℕ) (n : ℕ) → Takes a P b → IfSome (to_come b) (λ E. BeginsWith E x)
    → ComesBehind a P (take n x)
comes_behind {a} {b} P x n takes begins = by (to_come a) (to_come b) takes.events begins
  where
    by : (E E' : Option (List Event)) → AreTaken E P E' → IfSome E' (λ l. BeginsWith l x)
        → IfSome E (λ l. (rest : List Event) × (l ≡ P ++ (events_of (take n x) ++ rest)))
    by None E' are begins = tt
    by (Some E) None are begins = absurd are
    by (Some E) (Some E') are begins = (
      events_of (drop n x) ++ begins.rest,
      are ∙ ap (λ l. P ++ l) (begins.is ∙ ap (λ l. events_of l ++ begins.rest) (sym (take-append-drop n x))
          ∙ ap (λ l. l ++ begins.rest) (events_of-append (take n x) (drop n x))
          ∙ append_assoc (events_of (take n x)) (events_of (drop n x)) begins.rest),
    )

-- A `fill_buf` of which nothing was consumed, before a loop that takes a piece.

-- the calls of a loop begin with a `fill_buf`
parts_first : {d : ℕ} {C : List ReadCall} {x : List ℕ} → PartCalls d C x → (a : Result (List ℕ) Error) (D : List ReadCall)
    → (b : Result (List ℕ) Error) × (E : List ReadCall) × (C ++ Filled a ∷ D ≡ Filled b ∷ E)
parts_first no_part a D = (a, D, refl)
parts_first (and_part C x lent parts _ _) a D =
    let calls = Filled (Ok lent) ∷ Consumed (length lent) ∷ [] in
    let first = parts_first parts (Ok lent) (Consumed (length lent) ∷ Filled a ∷ D) in
    (first.0, first.1, append_assoc C calls (Filled a ∷ D) ∙ first.2)
parts_first (part_interrupted C x e parts _) a D =
    let first = parts_first parts (Err e) (Filled a ∷ D) in
    (first.0, first.1, append_assoc C (Filled (Err e) ∷ []) (Filled a ∷ D) ∙ first.2)

piece_first : (may_refuse : Type 0) (d : ℕ) {C : List ReadCall} (x : List ℕ) (reply : Result ℕ Error) → PieceCalls may_refuse d C x reply
    → (b : Result (List ℕ) Error) × (E : List ReadCall) × (C ≡ Filled b ∷ E)
piece_first may_refuse d x (Ok n) (D, y, lent, k, parts, found, is, calls) =
    let first = parts_first parts (Ok lent) (Consumed k ∷ []) in (first.0, first.1, calls ∙ first.2)
piece_first may_refuse d x (Err e) (D, parts, inl (fault, calls)) =
    let first = parts_first parts (Err e) [] in (first.0, first.1, calls ∙ first.2)
piece_first may_refuse d x (Err e) (D, parts, inr (may, memory, lent, some, calls)) =
    let first = parts_first parts (Ok lent) [] in (first.0, first.1, calls ∙ first.2)

-- if an interrupted one comes before them, it is one of them
parts_waited : {d : ℕ} {e : Error} {C : List ReadCall} {x : List ℕ} → IsInterruption e → PartCalls d C x
    → PartCalls d (Filled (Err e) ∷ C) x
parts_waited {e = e} again no_part = part_interrupted [] [] e no_part again
parts_waited {e = e} again (and_part C x lent parts some lacks) = and_part (Filled (Err e) ∷ C) x lent (parts_waited again parts) some lacks
parts_waited {e = e} again (part_interrupted C x f parts other) = part_interrupted (Filled (Err e) ∷ C) x f (parts_waited again parts) other

piece_waited : (may_refuse : Type 0) (d : ℕ) (e : Error) (C : List ReadCall) (x : List ℕ) (reply : Result ℕ Error) → IsInterruption e
    → PieceCalls may_refuse d C x reply → PieceCalls may_refuse d (Filled (Err e) ∷ C) x reply
piece_waited may_refuse d e C x (Ok n) again (D, y, lent, k, parts, found, is, calls) =
    (Filled (Err e) ∷ D, y, lent, k, parts_waited again parts, found, is, ap (λ l. Filled (Err e) ∷ l) calls)
piece_waited may_refuse d e C x (Err f) again (D, parts, inl (fault, calls)) =
    (Filled (Err e) ∷ D, parts_waited again parts, inl (fault, ap (λ l. Filled (Err e) ∷ l) calls))
piece_waited may_refuse d e C x (Err f) again (D, parts, inr (may, memory, lent, some, calls)) =
    (Filled (Err e) ∷ D, parts_waited again parts, inr (may, memory, lent, some, ap (λ l. Filled (Err e) ∷ l) calls))

-- what comes behind Q comes behind P and Q, if P was taken before
behind_both : {a b : ReaderState} (P Q : List Event) (x : List ℕ) → Takes a P b → ComesBehind b Q x → ComesBehind a (P ++ Q) x
behind_both {a} {b} P Q x takes comes = grind (arith, common_steps)

-- the ends of a piece, if events without bytes and without a fault were taken before
piece_ends_behind : (lacks : ℕ → Type 0) {a b : ReaderState} (d : ℕ) (P Q : List Event) (read : Result ℕ Error) → Takes a P b → HasNoFault P
    → event_bytes P ≡ [] → PieceEnds lacks d b Q read → PieceEnds lacks d a (P ++ Q) read
piece_ends_behind lacks d P Q (Ok n) takes free none ends = (
  HasNoFault-append P Q free ends.0,
  ends.1 ∙ ap length (same Q),
  ⊎_elim (λ end. inl (P ++ end.0, ap (λ l. P ++ l) end.1 ∙ sym (append_assoc P end.0 (byte d ∷ [])), subst (Lacks d) (same end.0) end.2))
      (λ all. inr (subst (Lacks d) (same Q) all.0, IsAll-behind P Q takes all.1)) ends.2,
)
  where
    same : (R : List Event) → event_bytes R ≡ event_bytes (P ++ R)
    same R = sym (bytes-append P R ∙ ap (λ l. l ++ event_bytes R) none)
piece_ends_behind lacks d P Q (Err e) takes free none ends =
    grind (arith, common_steps, bytes-append, ⊎_elim, EndsInFault-behind, HasNoFault-append, behind_both)

-- A `fill_buf` of which nothing was consumed came before such a loop.
module _ {X A : Type 0} {R : Reader X} {d : ℕ} {old now new : X} {buf buf' : Vec ℕ A} {reply : Result ℕ Error} where
  module _ (until : ReadUntilLaw R now d buf reply buf' new) where
    -- if it lent some bytes, the loop's first one lends the same and changes nothing, so both are as one
    pub until_lent : {lent : List ℕ} → FilledLaw R old (Ok lent) now → 0 < length lent → ReadUntilLaw R old d buf reply buf' new
    until_lent {lent} filled some = search (arith, rules, piece_first, takes_then, piece_ends_behind)

    -- if it was interrupted, it is one more
    pub until_waited : {e : Error} → FilledLaw R old (Err e) now → IsInterruption e → ReadUntilLaw R old d buf reply buf' new
    until_waited {e} filled again = record {
      taken = fails e ∷ until.taken;
      takes = takes_then filled.takes until.takes;
      appends = until.appends;
      ends = piece_ends_behind (λ n. vec_capacity buf < vec_len buf + n) d (fails e ∷ []) until.taken reply filled.takes
          (again, tt) refl until.ends;
      capacity = until.capacity;
      calls = record {
        calls = Filled (Err e) ∷ until.calls.calls;
        made = (now, filled, until.calls.made);
        are = piece_waited (Unit {0}) d e until.calls.calls (event_bytes until.taken) reply again until.calls.are;
      };
    }

-- For `run_split` and `run_lines`: how the items of a run come to be all pieces, by what each `next` says.
use Rattle.no_std_io2.proofs.Words.{◌≡◌, ℕ, true, false, Bool, Option, Some, None, Result, Ok, Err, List, [], ◌∷◌, ◌++◌, map, refl, ap, ap₂}
use Rattle.no_std_io2.proofs.Words.{◌∙◌, subst, sym, inl, inr, ◌<◌, ◌⊎◌, length, arith, length-append, append-nil, append_assoc, IfErr}
use Rattle.no_std_io2.proofs.Words.{concat, common_steps, IsFault, IsOutOfMemory, Event, byte, fails, event_bytes, HasNoFault, split_delim}
use Rattle.no_std_io2.proofs.Words.{bytes_to_fault, first_fault, to_come, Reader, tells, Made, newline, strip_last, split_reader}
use Rattle.no_std_io2.proofs.{GivenPieces.{next_error, next_fault, next_item, next_none}, CallsLemmas.{made_more}}
use Rattle.no_std_io2.specs.{declared.io.{Error.{Error}, Split.{Split}, Lines.{Lines}}, inner.Kinds.{is_interruption}}
use Rattle.no_std_io2.specs.inner.{Pieces.{pieces_given, GivesNext, GivesNone}, Lines.{RefusesLine, line_text}}
use Rattle.no_std_io2.specs.inner.Iterators.{ends_at, split_is_ended, lines_reader, lines_is_ended, NextPieceLaw}
use Rattle.std.proofs.Common.{IfSome}
use Rattle.io_bench.{specs.{Appended.{appended}, PieceRuns.{AllPieces, GathersPieces, RunsNexts}}, proofs.RunLemmas.{appended-one}}

-- the first pieces were gathered, trimmed, and the others are to come
record GatheredSoFar (trim : List ℕ → List ℕ) (d : ℕ) (E : List Event) (items : List (List ℕ)) (after : List Event) : Type 0 where
  before : List (List ℕ)
  given : pieces_given d E ≡ before ++ pieces_given d after
  fault : first_fault E ≡ first_fault after
  bytes : bytes_to_fault E ≡ concat before ++ bytes_to_fault after
  are : items ≡ map trim before

-- what holds of the events if they are told
pub if_told : (told : Option (List Event)) {P : List Event → Type 0} → ((E : List Event) → told ≡ Some E → P E) → IfSome told P
if_told told holds = grind (arith, common_steps)

-- one item more was yielded
pub one_yielded : {X T : Type 0} (next : X → Option (Result T Error) → X → Type 0) (from mid now : X) (old : List T) {items items' : List T}
    (x : T) {r : Option (Result T Error)} → items ≡ old ++ appended old items → items' ≡ items ++ x ∷ []
    → Made (λ s x t. next s (Some (Ok x)) t) from (appended old items) mid → next mid r now → r ≡ Some (Ok x)
    → Made (λ s x t. next s (Some (Ok x)) t) from (appended old items') now
one_yielded next from mid now old x h pushed made one is =
    grind (arith, common_steps, appended-one, made_more)

-- the same items were yielded
pub still_yielded : {X T : Type 0} (next : X → Option (Result T Error) → X → Type 0) (from now : X) (old : List T) {items items' : List T}
    → items' ≡ items → Made (λ s x t. next s (Some (Ok x)) t) from (appended old items) now
    → Made (λ s x t. next s (Some (Ok x)) t) from (appended old items') now
still_yielded next from now old same made = subst (λ l. Made (λ s x t. next s (Some (Ok x)) t) from (appended old l) now) (sym same) made

-- the error of a line that is not UTF-8 is a fault
refused_fault : (piece : List ℕ) (e : Error) → RefusesLine piece e → IsFault e
refused_fault piece e refused = ap is_interruption refused.1.0

-- the law of a `next`, by an equal delimiter and an equal result
law_at : {X T : Type 0} {R : Reader X} {old new : X} {view : T → List ℕ} (trim : ℕ → List ℕ → List ℕ)
    {refuses : List ℕ → Error → Type 0} {d' d : ℕ} {result r : Option (Result T Error)} → d' ≡ d → result ≡ r
    → NextPieceLaw R old view (trim d') refuses d' result new → NextPieceLaw R old view (trim d) refuses d r new
law_at trim same is law = rw (same, is) at law

-- if there is no first fault, there is no fault
fault_free : (E : List Event) → first_fault E ≡ None → HasNoFault E × (bytes_to_fault E ≡ event_bytes E)
fault_free [] h = (tt, refl)
fault_free (byte b ∷ E) h = let rest = fault_free E h in (rest.0, ap (λ l. b ∷ l) rest.1)
fault_free (fails e ∷ E) h = grind (arith, common_steps, fault_free E)

-- at the end all pieces were gathered
all_gathered : (trim : List ℕ → List ℕ) (d : ℕ) {E : List Event} {items : List (List ℕ)} {mid : List Event}
    → GatheredSoFar trim d E items mid → GivesNone d mid → AllPieces trim d E items
all_gathered trim d {E} t end =
    let none : first_fault E ≡ None = t.fault ∙ end.1 in
    let free = fault_free E none in
    record { no_fault = free.0; are = grind (arith, common_steps, none, free.1, t.given, t.are, end.0) }

-- an error ends it
gathered_to : (A : Type 0) (trim : List ℕ → List ℕ) (refuses : List ℕ → Error → Type 0) (full : Type 0) (d : ℕ) {E : List Event}
    {items : List (List ℕ)} {mid : List Event} {e : Error} → GatheredSoFar trim d E items mid
    → ((pieces_given d mid ≡ []) × (first_fault mid ≡ Some e))
    ⊎ (((piece : List ℕ) × (after : List Event) × GivesNext d mid piece after × refuses piece e)
    ⊎ (IsOutOfMemory e × (0 < length (bytes_to_fault mid))))
    → GathersPieces {A = A} trim refuses full d E (Err e) items
gathered_to A trim refuses full d t (inl end) =
    let given = t.given ∙ ap (λ l. t.before ++ l) end.0 ∙ append-nil t.before in
    inl (record { fault = t.fault ∙ end.1; are = t.are ∙ ap (map trim) (sym given) })
gathered_to A trim refuses full d t (inr (inl (piece, after, next, refused))) =
    inr (inl (record {
      before = t.before;
      piece = piece;
      behind = pieces_given d after;
      given = t.given ∙ ap (λ l. t.before ++ l) next.pieces;
      refused = refused;
      are = t.are;
    }))
gathered_to A trim refuses full d {mid = mid} t (inr (inr memory)) =
    inr (inr (record {
      before = t.before;
      behind = pieces_given d mid;
      given = t.given;
      refused = memory.0;
      short = inr (omega (arith, ap length t.bytes, length-append (concat t.before) (bytes_to_fault mid), memory.1));
      are = t.are;
    }))

-- What one `next` of an iterator over a lender does, if it has not ended: it takes the next piece, and after an item it
-- has not ended.
pub record TakesPieces {V X T : Type 0} (R : Reader X) (reader : V → X) (view : T → List ℕ) (trim : List ℕ → List ℕ)
    (refuses : List ℕ → Error → Type 0) (d : ℕ) (next : V → Option (Result T Error) → V → Type 0) (live : V → Type 0) : Type 0 where
  pub law : (s t : V) (r : Option (Result T Error)) → live s → next s r t → NextPieceLaw R (reader s) view trim refuses d r (reader t)
  pub lives : (s t : V) (x : T) → live s → next s (Some (Ok x)) t → live t

module _ {V X T : Type 0} (R : Reader X) (reader : V → X) (view : T → List ℕ) (trim : List ℕ → List ℕ)
    (refuses : List ℕ → Error → Type 0) (d : ℕ) (next : V → Option (Result T Error) → V → Type 0) (live : V → Type 0)
    (takes : TakesPieces R reader view trim refuses d next live) where
  -- it has not ended after items
  still_lives : (xs : List T) (s now : V) → live s → Made (λ s x t. next s (Some (Ok x)) t) s xs now → live now
  still_lives [] s now lives made = subst live (sym made) lives
  still_lives (x ∷ xs) s now lives made = still_lives xs made.0 now (takes.lives s made.0 x lives made.1) made.2

  -- and they are the first pieces
  first_pieces : (xs : List T) (s now : V) (E : List Event) → live s → Made (λ s x t. next s (Some (Ok x)) t) s xs now
      → to_come (tells R (reader s)) ≡ Some E
      → (after : List Event) × (to_come (tells R (reader now)) ≡ Some after) × GatheredSoFar trim d E (map view xs) after
  first_pieces [] s now E lives made told = (
    E,
    ap (λ s. to_come (tells R (reader s))) made ∙ told,
    record { before = []; given = refl; fault = refl; bytes = refl; are = refl },
  )
  first_pieces (x ∷ xs) s now E lives made told =
      let (mid, still, (piece, trimmed, gives)) = next_item told (takes.law s made.0 (Some (Ok x)) lives made.1) in
      let (after, left, rest) = first_pieces xs made.0 now mid (takes.lives s made.0 x lives made.1) made.2 still in (
        after,
        left,
        record {
          before = piece ∷ rest.before;
          given = gives.pieces ∙ ap (λ l. piece ∷ l) rest.given;
          fault = gives.fault ∙ rest.fault;
          bytes =
              gives.bytes ∙ ap (λ l. piece ++ l) rest.bytes ∙ sym (append_assoc piece (concat rest.before) (bytes_to_fault after));
          are = ap₂ (λ y l. y ∷ l) trimmed rest.are;
        },
      )

  -- so a whole run gives all pieces, or those before its error
  pub run_gathers : (A full : Type 0) (xs : List T) (s now : V) (reply : Result A Error) → live s → RunsNexts next full s xs reply now
      → IfSome (to_come (tells R (reader s))) (λ E. GathersPieces {A = A} trim refuses full d E reply (map view xs))
  run_gathers A full xs s now (Ok u) lives (mid, made, last) = if_told _ (λ E told.
      let (after, left, all) = first_pieces xs s mid E lives made told in
      all_gathered trim d all (next_none left (takes.law mid now None (still_lives xs s mid lives made) last)))
  run_gathers A full xs s now (Err e) lives (mid, made, inl last) = if_told _ (λ E told.
      let (after, left, all) = first_pieces xs s mid E lives made told in
      gathered_to A trim refuses full d all
      (next_error left (takes.law mid now (Some (Err e)) (still_lives xs s mid lives made) last)))
  run_gathers A full xs s now (Err e) lives (mid, made, inr (memory, is_full, same)) = if_told _ (λ E told.
      let (after, left, all) = first_pieces xs s mid E lives made told in
      inr (inr (record {
        before = all.before;
        behind = pieces_given d after;
        given = all.given;
        refused = memory;
        short = inl is_full;
        are = all.are;
      })))

-- the error of a run is a fault, if those of its iterator are
pub run_faults : {X T A : Type 0} (next : X → Option (Result T Error) → X → Type 0) (full : Type 0) (xs : List T) (s now : X)
    (reply : Result A Error) → ((s t : X) (e : Error) → next s (Some (Err e)) t → IsFault e) → RunsNexts next full s xs reply now
    → IfErr reply IsFault
run_faults next full xs s now reply faults run = grind (arith, common_steps)

-- what one `next` of a `split` does, as its iterator says it
abbrev pub split_next : {X T : Type 0} → Reader X → (T → List ℕ) → Split X → Option (Result T Error) → Split X → Type 0
split_next R view s r t = (split_is_ended s ≡ true → (r ≡ None) × (t ≡ s))
    × (split_is_ended s ≡ false → (split_is_ended t ≡ ends_at r)
    × NextPieceLaw R (split_reader s) view (strip_last (split_delim s)) (λ _ _. ⊥) (split_delim s) r (split_reader t))
    × (split_delim t ≡ split_delim s)

-- and one of a `lines`
abbrev pub lines_next : {X T : Type 0} → Reader X → (T → List ℕ) → Lines X → Option (Result T Error) → Lines X → Type 0
lines_next R view s r t = (lines_is_ended s ≡ true → (r ≡ None) × (t ≡ s))
    × (lines_is_ended s ≡ false → (lines_is_ended t ≡ ends_at r)
    × NextPieceLaw R (lines_reader s) view line_text RefusesLine newline r (lines_reader t))

-- an iterator that yields an item had not ended
not_ended : {A X : Type 0} (was : Bool) {item : A} → (was ≡ true → (Some item ≡ None) × X) → was ≡ false
not_ended was ended = grind (arith, common_steps)

-- so each of their errors is a fault
pub split_faults : {X T : Type 0} (R : Reader X) (view : T → List ℕ) (s t : Split X) (e : Error) → split_next R view s (Some (Err e)) t
    → IsFault e
split_faults R view s t e does = grind (arith, common_steps, next_fault, not_ended)

pub lines_faults : {X T : Type 0} (R : Reader X) (view : T → List ℕ) (s t : Lines X) (e : Error) → lines_next R view s (Some (Err e)) t
    → IsFault e
lines_faults R view s t e does = next_fault (Some (Err e)) refused_fault (does.1 (not_ended (lines_is_ended s) does.0)).1

-- a `split` takes pieces without their delimiter,
pub split_takes : {X T : Type 0} (R : Reader X) (view : T → List ℕ) (d : ℕ)
    → TakesPieces R split_reader view (strip_last d) (λ _ _. ⊥) d (split_next R view)
    (λ s. (split_is_ended s ≡ false) × (split_delim s ≡ d))
split_takes R view d = record {
  law = λ s t r lives does. law_at strip_last lives.1 refl (does.1 lives.0).1;
  lives = λ s t x lives does. ((does.1 lives.0).0, does.2 ∙ lives.1);
}

-- and a `lines` their text
pub lines_takes : {X T : Type 0} (R : Reader X) (view : T → List ℕ)
    → TakesPieces R lines_reader view line_text RefusesLine newline (lines_next R view) (λ s. lines_is_ended s ≡ false)
lines_takes R view = record {
  law = λ s t r lives does. (does.1 lives).1;
  lives = λ s t x lives does. (does.1 lives).0;
}

-- For `reads`: pieces at the front of the held bytes, and the store after a call.
use Rattle.std.proofs.{lemmas.Grind.{common_steps}, Common.{IfSome, drop-drop, take_all, String, string_bytes, string_len, string_capacity}}
use Rattle.no_std_io2.proofs.Words.{◌≡◌, ◌+◌, ◌-◌, ◌<◌, ◌++◌, ℕ, List, [], Option, None, Some, Result, Ok, IfOk, length, refl, subst, sym}
use Rattle.no_std_io2.proofs.Words.{ap, ap₂, ◌∙◌, drop, arith, drop-append_seam, step_back, store_before, store_if, Event, answered}
use Rattle.no_std_io2.proofs.Words.{KeepsContent, Store, Bool, true, ◌∷◌, take, Err, ⊎_elim, inl, inr, append_assoc, append-nil}
use Rattle.no_std_io2.proofs.Words.{length-append, length-take-le, take-append-drop, Vec, IsOutOfMemory, Made, event_bytes, Reader}
use Rattle.no_std_io2.proofs.Words.{ReadCall, Filled, Consumed, ReadCallLaw, tells, newline, IsSuffix, reader_held, reader_behind}
use Rattle.no_std_io2.proofs.{Words.{reader_inner, FillsBelow, lent_held, lent_read}, BufferedReads.{before_decides, buf_reader}}
use Rattle.no_std_io2.{proofs.CallsLemmas.{made_split}, specs.declared.{io.Error.{Error}, buffered.buf_reader.BufReader.{BufReader}}}
use Rattle.no_std_io2.specs.{Takes.{gave_front}, BufRead.{ReadUntilLaw, ReadLineLaw}}
use Rattle.no_std_io2.specs.inner.Lines.{AnswersLine, out_of_memory, part_follows, part_invalid}
use Rattle.no_std_io2.specs.inner.Pieces.{Lacks, EndsPiece, FindsPiece, PartCalls, no_part, and_part, part_interrupted, PieceCalls}
use Rattle.no_std_io2.specs.{inner.{Pieces.{PieceEnds}, BufReader.{TakesHeld, TakesHeldLine, HasBuffer}}, Calls.{ByCalls}}

-- For `reads`: the store after a call, if it was told before; and the events.

-- a store that was told still is, with its content
pub store_after : (Goes : ℕ → ℕ → ℕ → Type 0) {was : Store} (old new : Option Store) → KeepsContent old Goes new → old ≡ Some was
    → (now : Store) × (new ≡ Some now) × KeepsContent (Some was) Goes (Some now)
store_after Goes {was} old new keeps told = by new (subst (λ o. KeepsContent o Goes new) told keeps)
  where
    by : (o : Option Store) → KeepsContent (Some was) Goes o → (now : Store) × (o ≡ Some now) × KeepsContent (Some was) Goes (Some now)
    by None kept = absurd kept
    by (Some now) kept = (now, refl, kept)

-- a `read` that gave no byte into some room met the end
pub none_left : (buf : List ℕ) (reply : Result ℕ Error) {told : Option (List Event)} {E after : List Event}
    → IfOk reply (λ n. n ≡ 0 → 0 < length buf → IfSome told (λ F. F ≡ [])) → told ≡ Some after
    → E ≡ answered (gave_front reply buf) ++ after → reply ≡ Ok 0 → 0 < length buf → E ≡ []
none_left buf reply ends told split is_zero some = grind (arith, common_steps, IfSome)

-- The held bytes stand in the content right before the position, with `front` before them: so the store is told, at
-- their first byte.
pub store_below : (held front after : List ℕ) (s : Store) {content : List ℕ} → content ≡ front ++ (held ++ after) → s.content ≡ content
    → s.position ≡ length front + length held → store_before held (Some s) ≡ Some (step_back (length held) s)
store_below held front after s has same at =
    let all : s.content ≡ front ++ (held ++ after) = same ∙ has in
    let from_held : drop (s.position - length held) s.content ≡ held ++ after =
    ap₂ drop (omega (arith, at)) all ∙ drop-append_seam front (held ++ after) in
    let from_after : drop s.position s.content ≡ after =
    ap₂ drop at all ∙ sym (drop-drop (length held) (length front) (front ++ (held ++ after)))
    ∙ ap (drop (length held)) (drop-append_seam front (held ++ after)) ∙ drop-append_seam held after in
    ap (λ t. store_if t (step_back (length held) s))
    ((before_decides held s).1 (omega (arith, at), from_held ∙ ap (λ l. held ++ l) (sym from_after)))

-- For `reads`: a piece at the front of the held bytes, and what lies behind after a piece was taken.

-- if d is among the bytes, they do not lack it
has_end : (d : ℕ) (front rest : List ℕ) → Lacks d (front ++ d ∷ rest) → ⊥
has_end d [] rest h = h.0 refl
has_end d (x ∷ front) rest h = has_end d front rest h.1

-- one list has one first d
same_front : (d : ℕ) (f g us vs : List ℕ) → f ++ d ∷ us ≡ g ++ d ∷ vs → Lacks d f → Lacks d g → (f ≡ g) × (us ≡ vs)
same_front d [] [] us vs is lf lg = (refl, cc)
same_front d [] (x ∷ g) us vs is lf lg = absurd (lg.0 (let same : x ≡ d = cc in same))
same_front d (x ∷ f) [] us vs is lf lg = absurd (lf.0 (let same : x ≡ d = cc in same))
same_front d (x ∷ f) (y ∷ g) us vs is lf lg =
    let tail : f ++ d ∷ us ≡ g ++ d ∷ vs = cc in
    let head : x ≡ y = cc in
    let rest = same_front d f g us vs tail lf.1 lg.1 in
    (ap₂ (λ a l. a ∷ l) head rest.0, rest.1)

-- a piece and what follows it
whole : (d : ℕ) (piece rest : List ℕ) (ends : EndsPiece d piece) → piece ++ rest ≡ ends.0 ++ d ∷ rest
whole d piece rest ends = ap (λ l. l ++ rest) ends.1 ∙ append_assoc ends.0 (d ∷ []) rest

-- with a piece held, some bytes are
pub piece_some : (d : ℕ) (piece rest : List ℕ) {held : List ℕ} → held ≡ piece ++ rest → EndsPiece d piece → 0 < length held
piece_some d piece rest is ends = omega (arith, ap length (is ∙ whole d piece rest ends), length-append ends.0 (d ∷ rest))

-- what was found is that piece
pub piece_found : {d : ℕ} {n : ℕ} {is_whole : Bool} (piece rest lent : List ℕ) → lent ≡ piece ++ rest → EndsPiece d piece
    → FindsPiece d lent n is_whole → is_whole ≡ true → (n ≡ length piece) × (take n lent ≡ piece) × (drop n lent ≡ rest)
piece_found {d} {n} piece rest lent is ends found ended = ⊎_elim
    (λ end.
    let both =
    sym (append_assoc end.0 (d ∷ []) (drop n lent)) ∙ ap (λ l. l ++ drop n lent) (sym end.1) ∙ take-append-drop n lent ∙ is
    ∙ whole d piece rest ends in
    let same = same_front d end.0 ends.0 (drop n lent) rest both end.2 ends.2 in
    let part : take n lent ≡ piece = end.1 ∙ ap (λ l. l ++ d ∷ []) same.0 ∙ sym ends.1 in
    (omega (arith, ap length part, length-take-le n lent found.within), part, same.1))
    (λ none. let some = piece_some d piece rest is ends in absurd (omega (arith, some, ap length none)))
    (found.whole ended)

module _ {R : Type 0} {S : ℕ} (K : Reader R) (old : BufReader R S) (d : ℕ) where
  -- a call, by its law
  abbrev law : BufReader R S → ReadCall → BufReader R S → Type 0
  law = ReadCallLaw (buf_reader K)

  -- with a piece held, the first `fill_buf` lends it, so no part is taken before it
  module _ (piece rest : List ℕ) (is : reader_held old ≡ piece ++ rest) (ends : EndsPiece d piece) where
    some : 0 < length (reader_held old)
    some = piece_some d piece rest is ends

    no_part_first : {C : List ReadCall} {x : List ℕ} → PartCalls d C x → (mid : BufReader R S) → Made law old C mid → (x ≡ []) × (mid ≡ old)
    no_part_first no_part mid made = (refl, made)
    no_part_first (and_part C x lent parts _ lacks) mid made =
        let split = made_split law C old (Filled (Ok lent) ∷ Consumed (length lent) ∷ []) mid made in
        let first = no_part_first parts split.0 split.1 in
        let filled = split.2.1.held (subst (λ r. 0 < length (reader_held r)) (sym first.1) some) in
        let held : lent ≡ piece ++ rest = (let same : lent ≡ reader_held split.0 = cc in same) ∙ ap reader_held first.1 ∙ is in
        absurd (has_end d ends.0 rest (subst (Lacks d) (held ∙ whole d piece rest ends) lacks))
    no_part_first (part_interrupted C x e parts again) mid made =
        let split = made_split law C old (Filled (Err e) ∷ []) mid made in
        let first = no_part_first parts split.0 split.1 in
        let filled = split.2.1.held (subst (λ r. 0 < length (reader_held r)) (sym first.1) some) in
        absurd (let no : ⊥ = cc in no)

    -- so that piece is taken; or an allocation failed, and nothing was
    abbrev Took : List ℕ → Result ℕ Error → BufReader R S → Type 0
    Took x (Ok n) new = (x ≡ piece) × HasBuffer new (reader_behind old ++ piece) rest × (reader_inner new ≡ reader_inner old)
    Took x (Err e) new = IsOutOfMemory e × (x ≡ []) × (new ≡ old)

    piece_held : (x : List ℕ) {new : BufReader R S} (reply : Result ℕ Error)
        → ByCalls law old (λ C. PieceCalls (Unit {0}) d C x reply) new → Took x reply new
    piece_held all {new} (Ok n) m =
        let (D, y, lent, k, parts, found, x, calls) = m.are in
        let split = made_split law D old (Filled (Ok lent) ∷ Consumed k ∷ []) new (subst (λ C. Made law old C new) calls m.made) in
        let first = no_part_first parts split.0 split.1 in
        let filled = split.2.1.held (subst (λ r. 0 < length (reader_held r)) (sym first.1) some) in
        let lends : lent ≡ reader_held old = (let same : lent ≡ reader_held split.0 = cc in same) ∙ ap reader_held first.1 in
        let is_piece = piece_found piece rest lent (lends ∙ is) ends found refl in
        let same : split.2.0 ≡ old = filled.1 ∙ first.1 in
        let part : take k (reader_held split.2.0) ≡ piece = ap (λ r. take k (reader_held r)) same ∙ ap (take k) (sym lends) ∙ is_piece.1 in
        let left : drop k (reader_held split.2.0) ≡ rest = ap (λ r. drop k (reader_held r)) same ∙ ap (drop k) (sym lends) ∙ is_piece.2 in
        let consumed = split.2.2.1.1.call in
        let end : new ≡ split.2.2.0 = split.2.2.2 in (
          x ∙ ap₂ (λ a b. a ++ b) first.0 is_piece.1,
          (
            ap reader_behind end ∙ consumed.1.0 ∙ ap₂ (λ a b. a ++ b) (ap reader_behind same) part,
            ap reader_held end ∙ consumed.1.1 ∙ left,
          ),
          ap reader_inner end ∙ consumed.0 ∙ ap reader_inner same,
        )
    piece_held x {new} (Err e) m = by m.are
      where
        by : PieceCalls (Unit {0}) d m.calls x (Err e) → Took x (Err e) new
        by (D, parts, inl (fault, calls)) =
            let split = made_split law D old (Filled (Err e) ∷ []) new (subst (λ C. Made law old C new) calls m.made) in
            let first = no_part_first parts split.0 split.1 in
            let filled = split.2.1.held (subst (λ r. 0 < length (reader_held r)) (sym first.1) some) in
            absurd (let no : ⊥ = cc in no)
        by (D, parts, inr (_, memory, lent, _, calls)) =
            let split = made_split law D old (Filled (Ok lent) ∷ []) new (subst (λ C. Made law old C new) calls m.made) in
            let first = no_part_first parts split.0 split.1 in
            let filled = split.2.1.held (subst (λ r. 0 < length (reader_held r)) (sym first.1) some) in
            (memory, first.0, split.2.2 ∙ filled.1 ∙ first.1)

    -- by `read_until`
    pub until_held : {A : Type 0} {buf buf' : Vec ℕ A} {new : BufReader R S} (reply : Result ℕ Error)
        → ReadUntilLaw (buf_reader K) old d buf reply buf' new → TakesHeld piece rest old buf.items reply buf'.items new
    until_held {buf = buf} (Ok n) until =
        let taken = piece_held (event_bytes until.taken) (Ok n) until.calls in
        (until.ends.1 ∙ ap length taken.0, until.appends ∙ ap (λ l. buf.items ++ l) taken.0, taken.1, taken.2)
    until_held {buf = buf} (Err e) until =
        let taken = piece_held (event_bytes until.taken) (Err e) until.calls in
        (taken.0, until.appends ∙ ap (λ l. buf.items ++ l) taken.1 ∙ append-nil buf.items, taken.2)

-- by `read_line`
module _ {R : Type 0} {S : ℕ} (K : Reader R) (old : BufReader R S) (line rest : List ℕ) (is : reader_held old ≡ line ++ rest)
    (ends : EndsPiece newline line) where
  was_answered : (x : List ℕ) (new : BufReader R S) (text text' : List ℕ) (read reply : Result ℕ Error)
      → IfOk read (λ n. n ≡ length x) → Took K old newline line rest is ends x read new
      → AnswersLine x read reply text text' → TakesHeldLine line rest old text reply text' new
  was_answered x new text text' (Ok n) (Ok m) count taken answers =
      (answers.1 ∙ count ∙ ap length taken.0, answers.0.1 ∙ ap (λ l. text ++ l) taken.0, taken.1, taken.2)
  was_answered x new text text' (Ok n) (Err e) count taken answers = (answers.2, taken.2, inl taken.1)
  was_answered x new text text' (Err f) (Ok m) count taken answers = absurd answers
  was_answered x new text text' (Err f) (Err e) count taken (same, out_of_memory memory stays) = (
    stays,
    ap reader_inner taken.2,
    inr (subst IsOutOfMemory (sym same) taken.0, (ap reader_behind taken.2, ap reader_held taken.2)),
  )
  was_answered x new text text' (Err f) (Err e) count taken (same, part_follows other follows) = absurd (other taken.0.0)
  was_answered x new text text' (Err f) (Err e) count taken (same, part_invalid other bad stays) = absurd (other taken.0.0)

  pub line_held : {A : Type 0} {text text' : String A} {new : BufReader R S} (reply : Result ℕ Error)
      → ReadLineLaw (buf_reader K) old text reply text' new
      → TakesHeldLine line rest old (string_bytes text) reply (string_bytes text') new
  line_held {text = text} reply law =
      was_answered (event_bytes law.taken) _ _ _ law.read reply (counts law.read law.ends)
      (piece_held K old newline line rest is ends (event_bytes law.taken) law.read law.calls) law.answers
    where
      counts : (read : Result ℕ Error)
          → PieceEnds (λ n. string_capacity text < string_len text + n) newline (tells (buf_reader K) old) law.taken read
          → IfOk read (λ n. n ≡ length (event_bytes law.taken))
      counts (Ok n) ends = ends.1
      counts (Err e) ends = tt

-- what is behind after a `fill_buf`
filled_behind : {R : Type 0} {S : ℕ} {K : Reader R} {answer : Result (List ℕ) Error} (x : List ℕ) (old new : BufReader R S)
    → FillsBelow K old answer new → IsSuffix x (reader_behind old) → IsSuffix x (reader_behind new)
filled_behind x old new (lent_held h is same) front = (front.0, front.1 ∙ ap (λ r. front.0 ++ reader_behind r) (sym same))
filled_behind x old new (lent_read none law buffer) front = (x, sym (append-nil x) ∙ ap (λ l. x ++ l) (sym buffer.0))

-- and after a `consume`
consumed_behind : (x part : List ℕ) {behind behind' : List ℕ} → IsSuffix x behind → behind' ≡ behind ++ part → IsSuffix (x ++ part) behind'
consumed_behind x part suffix more = grind (arith, common_steps, append_assoc)

module _ {R : Type 0} {S : ℕ} (K : Reader R) (old : BufReader R S) (d : ℕ) where
  lent_behind : (x lent : List ℕ) (n : ℕ) (now mid new : BufReader R S) → IsSuffix x (reader_behind now)
      → ReadCallLaw (buf_reader K) now (Filled (Ok lent)) mid → ReadCallLaw (buf_reader K) mid (Consumed n) new
      → IsSuffix (x ++ take n lent) (reader_behind new)
  lent_behind x lent n now mid new front filled dropped = grind (arith, common_steps, consumed_behind, filled_behind)

  parts_behind : {C : List ReadCall} {x : List ℕ} → PartCalls d C x → (now : BufReader R S) → Made (ReadCallLaw (buf_reader K)) old C now
      → IsSuffix (reader_behind old ++ x) (reader_behind now)
  parts_behind no_part now made = ([], append-nil (reader_behind old) ∙ ap reader_behind (sym made))
  parts_behind (and_part C x lent parts _ lacks) now made =
      let split = made_split (ReadCallLaw (buf_reader K)) C old (Filled (Ok lent) ∷ Consumed (length lent) ∷ []) now made in
      let before = parts_behind parts split.0 split.1 in
      let after = lent_behind (reader_behind old ++ x) lent (length lent) split.0 split.2.0 split.2.2.0 before split.2.1 split.2.2.1 in
      subst (IsSuffix (reader_behind old ++ (x ++ lent))) (ap reader_behind (sym split.2.2.2))
      (subst (λ l. IsSuffix l (reader_behind split.2.2.0))
      (ap (λ l. (reader_behind old ++ x) ++ l) (take_all (length lent) lent (omega arith)) ∙ append_assoc (reader_behind old) x lent) after)
  parts_behind (part_interrupted C x e parts again) now made =
      let split = made_split (ReadCallLaw (buf_reader K)) C old (Filled (Err e) ∷ []) now made in
      let before = parts_behind parts split.0 split.1 in
      subst (IsSuffix (reader_behind old ++ x)) (ap reader_behind (sym split.2.2))
      (filled_behind (reader_behind old ++ x) split.0 split.2.0 split.2.1.call before)

  -- The bytes behind after a piece was taken are a suffix of those behind before, followed by the piece.
  pub piece_behind : (x : List ℕ) {new : BufReader R S} (may_refuse : Type 0) (reply : Result ℕ Error)
      → ByCalls (ReadCallLaw (buf_reader K)) old (λ C. PieceCalls may_refuse d C x reply) new
      → IsSuffix (reader_behind old ++ x) (reader_behind new)
  piece_behind x {new} may_refuse reply m = by reply m.are
    where
      made : (C : List ReadCall) → m.calls ≡ C → Made (ReadCallLaw (buf_reader K)) old C new
      made C is = subst (λ C. Made (ReadCallLaw (buf_reader K)) old C new) is m.made

      by : (reply : Result ℕ Error) → PieceCalls may_refuse d m.calls x reply → IsSuffix (reader_behind old ++ x) (reader_behind new)
      by (Ok k) (D, y, lent, n, parts, found, is, calls) =
          let split = made_split (ReadCallLaw (buf_reader K)) D old (Filled (Ok lent) ∷ Consumed n ∷ []) new (made _ calls) in
          let after = lent_behind (reader_behind old ++ y) lent n split.0 split.2.0 split.2.2.0
          (parts_behind parts split.0 split.1) split.2.1
          split.2.2.1 in
          subst (IsSuffix (reader_behind old ++ x)) (ap reader_behind (sym split.2.2.2))
          (subst (λ l. IsSuffix l (reader_behind split.2.2.0))
          (append_assoc (reader_behind old) y (take n lent) ∙ ap (λ l. reader_behind old ++ l) (sym is)) after)
      by (Err e) (D, parts, stopped) =
          let last : (answer : Result (List ℕ) Error) × (m.calls ≡ D ++ Filled answer ∷ []) =
          elim stopped [ inl fault ↦ (Err e, fault.1) | inr refused ↦ (Ok refused.2, refused.4) ] in
          let split = made_split (ReadCallLaw (buf_reader K)) D old (Filled last.0 ∷ []) new (made _ last.1) in
          subst (IsSuffix (reader_behind old ++ x)) (ap reader_behind (sym split.2.2))
          (filled_behind (reader_behind old ++ x) split.0 split.2.0 split.2.1.call (parts_behind parts split.0 split.1))

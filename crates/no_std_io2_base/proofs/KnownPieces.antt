-- What a call that takes one piece gives if the piece is known to come, and a `read_to_string` if all is.
use Rattle.std.proofs.Common.{◌≡◌, ℕ, ◌+◌, List, [], ◌∷◌, ◌++◌, length, refl, ap, sym, ◌∙◌, arith, append_assoc, append-nil, inl, inr}
use Rattle.std.proofs.Common.{subst, Some, Result, Ok, Err, IfOk, IfErr, IfSome, Vec, String, string_bytes, length-append, IsUtf8}
use Rattle.std.proofs.{Common.{string_len, string_capacity, vec_len, vec_capacity, ◌<◌, ◌≤◌}, lemmas.Grind.{common_steps}}
use Rattle.no_std_io2_base.specs.{declared.error.Error.{Error}, Errors.{IsOutOfMemory}, Events.{Event, byte, fails, events_of, event_bytes}}
use Rattle.no_std_io2_base.specs.{Takes.{Reader, ReaderState, Takes, tells, to_come}, BufRead.{ReadUntilLaw, ReadLineLaw}, Pieces.{newline}}
use Rattle.no_std_io2_base.specs.inner.{Pieces.{Lacks, PieceEnds, EndsAt, IsAll, IsPiecePart, ComesBehind, but_last}, Events.{EndsInFault}}
use Rattle.no_std_io2_base.specs.{inner.{Lines.{AnswersLine}, Read.{DrainsOrStops, least_room}}, Read.{ReadToStringLaw}}
use Rattle.no_std_io2_base.proofs.{PieceLemmas.{Lacks-append}, KnownBytes.{all_known, few_known, no_fault_known}}
use Rattle.no_std_io2_base.proofs.TakesLemmas.{events_of-append, bytes-behind, bytes-append, bytes-events_of, left_of}

-- up to the first d, two lists of events have the same front and the same rest
to_first : (d : ℕ) (Q : List Event) (x : List ℕ) (after rest : List Event) → Lacks d (event_bytes Q) → Lacks d x
    → Q ++ byte d ∷ after ≡ events_of x ++ byte d ∷ rest → (Q ≡ events_of x) × (after ≡ rest)
to_first d [] [] after rest q l e = (refl, cc)
to_first d [] (b ∷ x) after rest q l e = let same : b ≡ d = cc in absurd (l.0 same)
to_first d (byte b ∷ Q) [] after rest q l e = let same : b ≡ d = cc in absurd (q.0 same)
to_first d (fails f ∷ Q) [] after rest q l e = let no : ⊥ = cc in absurd no
to_first d (byte b ∷ Q) (c ∷ x) after rest q l e =
    let tail : Q ++ byte d ∷ after ≡ events_of x ++ byte d ∷ rest = cc in
    let more = to_first d Q x after rest q.1 l.1 tail in
    let head : b ≡ c = cc in
    let front : Q ≡ events_of x = more.0 in
    (cc, more.1)
to_first d (fails f ∷ Q) (c ∷ x) after rest q l e = let no : ⊥ = cc in absurd no

-- no fault comes before the first d
no_fault_yet : (d : ℕ) (Q : List Event) (x : List ℕ) (f : Error) (after rest : List Event) → Lacks d (event_bytes Q)
    → Q ++ fails f ∷ after ≡ events_of x ++ byte d ∷ rest → ⊥
no_fault_yet d [] [] f after rest q e = cc
no_fault_yet d [] (b ∷ x) f after rest q e = cc
no_fault_yet d (byte b ∷ Q) [] f after rest q e = let same : b ≡ d = cc in q.0 same
no_fault_yet d (fails g ∷ Q) [] f after rest q e = cc
no_fault_yet d (byte b ∷ Q) (c ∷ x) f after rest q e =
    let tail : Q ++ fails f ∷ after ≡ events_of x ++ byte d ∷ rest = cc in no_fault_yet d Q x f after rest q.1 tail
no_fault_yet d (fails g ∷ Q) (c ∷ x) f after rest q e = cc

-- bytes that lack d, and are first, are no more than those before the first d
few_before : (d : ℕ) (bs x tail cs : List ℕ) → Lacks d bs → bs ++ cs ≡ x ++ d ∷ tail → length bs ≤ length x
few_before d [] x tail cs free is = omega arith
few_before d (b ∷ bs) [] tail cs free is = let same : b ≡ d = cc in absurd (free.0 same)
few_before d (b ∷ bs) (c ∷ x) tail cs free is =
    let more : bs ++ cs ≡ x ++ d ∷ tail = cc in omega (arith, few_before d bs x tail cs free.1 more)

-- a list that is not empty ends in its last element
last_of : (bs : List ℕ) → 0 < length bs → (last : ℕ) × (bs ≡ but_last bs ++ last ∷ [])
last_of [] some = absurd (omega (arith, some))
last_of (b ∷ []) some = (b, refl)
last_of (b ∷ c ∷ bs) some = let (last, is) = last_of (c ∷ bs) (omega arith) in (last, ap (λ l. b ∷ l) is)

-- bytes with a d do not lack it
has_one : (d : ℕ) (x y : List ℕ) → Lacks d (x ++ d ∷ y) → ⊥
has_one d [] y l = l.0 refl
has_one d (b ∷ x) y l = has_one d x y l.1

-- the events of a piece and of its d, and then others
told_piece : (d : ℕ) (x : List ℕ) (rest : List Event) → events_of (x ++ d ∷ []) ++ rest ≡ events_of x ++ byte d ∷ rest
told_piece d [] rest = refl
told_piece d (b ∷ x) rest = ap (λ E. byte b ∷ E) (told_piece d x rest)

module _ (lacks : ℕ → Type 0) (d : ℕ) {t t' : ReaderState} {P : List Event} (takes : Takes t P t') (x : List ℕ) (rest : List Event)
    (none : Lacks d x) (told : to_come t ≡ Some (events_of (x ++ d ∷ []) ++ rest)) where
  -- what is left, behind what was taken
  parts_there : (after : List Event) × (to_come t' ≡ Some after) × (P ++ after ≡ events_of x ++ byte d ∷ rest)
  parts_there = let left = left_of takes told in (left.0, left.1, sym left.2 ∙ told_piece d x rest)

  -- what ended at its first d is the piece
  ended_there : EndsAt d P → (event_bytes P ≡ x ++ d ∷ []) × (to_come t' ≡ Some rest)
  ended_there at =
      let parts : at.0 ++ byte d ∷ parts_there.0 ≡ events_of x ++ byte d ∷ rest =
      sym (append_assoc at.0 (byte d ∷ []) parts_there.0) ∙ ap (λ Q. Q ++ parts_there.0) (sym at.1) ∙ parts_there.2 in
      let same = to_first d at.0 x parts_there.0 rest at.2 none parts in
      let is : P ≡ events_of (x ++ d ∷ []) = at.1 ∙ ap (λ Q. Q ++ byte d ∷ []) same.0 ∙ sym (events_of-append x (d ∷ [])) in
      (ap event_bytes is ∙ bytes-events_of (x ++ d ∷ []), parts_there.1 ∙ ap Some same.1)

  -- all that is to come does not lack d
  not_all : Lacks d (event_bytes P) × IsAll t P → ⊥
  not_all all =
      let same : events_of (x ++ d ∷ []) ++ rest ≡ P = subst (λ o. IfSome o (λ E. E ≡ P)) told all.1 in
      let bytes : event_bytes P ≡ x ++ d ∷ event_bytes rest =
      ap event_bytes (sym same) ∙ bytes-behind (x ++ d ∷ []) rest ∙ append_assoc x (d ∷ []) (event_bytes rest) in
      has_one d x (event_bytes rest) (subst (λ y. Lacks d y) bytes all.0)

  -- no fault was met
  not_faulty : {e : Error} → Lacks d (event_bytes P) → EndsInFault P e → ⊥
  not_faulty {e} free fault =
      let parts : fault.0 ++ fails e ∷ parts_there.0 ≡ events_of x ++ byte d ∷ rest =
      sym (append_assoc fault.0 (fails e ∷ []) parts_there.0) ∙ ap (λ Q. Q ++ parts_there.0) (sym fault.1) ∙ parts_there.2 in
      let bytes : event_bytes P ≡ event_bytes fault.0 =
      ap event_bytes fault.1 ∙ bytes-append fault.0 (fails e ∷ []) ∙ append-nil (event_bytes fault.0) in
      no_fault_yet d fault.0 x e parts_there.0 rest (subst (λ y. Lacks d y) bytes free) parts

  -- a part of the piece that needed memory, with what was taken before it, is no longer than the piece
  part_short : (part : List ℕ) → Lacks d (event_bytes P) → IsPiecePart d part → ComesBehind t P part
      → length (event_bytes P) + length part ≤ length x + 1
  part_short part free is_part comes =
      let (after, is) = subst (λ o. IfSome o (λ E. (r : List Event) × (E ≡ P ++ (events_of part ++ r)))) told comes in
      let (last, ends) = last_of part is_part.0 in
      let first = event_bytes P ++ but_last part in
      let whole : first ++ (last ∷ event_bytes after) ≡ x ++ d ∷ event_bytes rest =
      append_assoc (event_bytes P) (but_last part) (last ∷ event_bytes after)
      ∙ ap (λ l. event_bytes P ++ l) (sym (append_assoc (but_last part) (last ∷ []) (event_bytes after))
      ∙ ap (λ l. l ++ event_bytes after) (sym ends) ∙ sym (bytes-behind part after))
      ∙ sym (bytes-append P (events_of part ++ after)) ∙ ap event_bytes (sym is)
      ∙ bytes-behind (x ++ d ∷ []) rest ∙ append_assoc x (d ∷ []) (event_bytes rest) in
      let short = few_before d first x (event_bytes rest) (last ∷ event_bytes after)
      (Lacks-append d (event_bytes P) (but_last part) free is_part.1) whole in
      omega (arith, short, ap length ends, length-append (but_last part) (last ∷ []), length-append (event_bytes P) (but_last part))

  -- A call that takes a piece x, which is known to come up to its d, takes that and no more; or an allocation failed, since
  -- there was no room for so many bytes of it.
  pub piece_known : (read : Result ℕ Error) → PieceEnds lacks d t P read
      → IfOk read (λ n. (n ≡ length x + 1) × (event_bytes P ≡ x ++ d ∷ []) × (to_come t' ≡ Some rest))
      × IfErr read (λ e. IsOutOfMemory e × ((n : ℕ) × (n ≤ length x + 1) × lacks n))
  piece_known (Ok n) (free, count, inl at) =
      let (bytes, left) = ended_there at in ((count ∙ ap length bytes ∙ length-append x (d ∷ []), bytes, left), tt)
  piece_known (Ok n) (free, count, inr all) = absurd (not_all all)
  piece_known (Err e) (free, inl fault) = absurd (not_faulty free fault)
  piece_known (Err e) (free, inr (clean, refused, (part, is_part, comes, why))) =
      (tt, (refused, (_, part_short part free is_part comes, why)))

-- If a piece x is known to come, up to its d, a `read_until` appends that, and the rest is to come; or an allocation failed, since the
-- vector had no room for it.
pub until_known : {X A : Type 0} {R : Reader X} {old new : X} {d : ℕ} {buf buf' : Vec ℕ A} (reply : Result ℕ Error) (x : List ℕ)
    (rest : List Event) → ReadUntilLaw R old d buf reply buf' new → Lacks d x
    → to_come (tells R old) ≡ Some (events_of (x ++ d ∷ []) ++ rest)
    → IfOk reply (λ n. (n ≡ length x + 1) × (buf'.items ≡ buf.items ++ (x ++ d ∷ [])) × (to_come (tells R new) ≡ Some rest))
    × IfErr reply (λ e. IsOutOfMemory e × (vec_capacity buf < vec_len buf + (length x + 1)))
until_known {d = d} {buf} (Ok n) x rest law none told =
    let (known, fine) = piece_known (λ n. vec_capacity buf < vec_len buf + n) d law.takes x rest none told (Ok n) law.ends in
    ((known.0, law.appends ∙ ap (λ l. buf.items ++ l) known.1, known.2), tt)
until_known {d = d} {buf} (Err e) x rest law none told =
    let (fine, (refused, (n, most, why))) =
    piece_known (λ n. vec_capacity buf < vec_len buf + n) d law.takes x rest none told (Err e) law.ends in
    (tt, (refused, omega (arith, most, why)))

-- If a line x is known to come, up to its newline, and is UTF-8, a `read_line` appends that, and the rest is to come; or an allocation
-- failed, since the string had no room for it.
pub line_known : {X A : Type 0} {R : Reader X} {old new : X} {buf buf' : String A} (reply : Result ℕ Error) (x : List ℕ)
    (rest : List Event) → ReadLineLaw R old buf reply buf' new → Lacks newline x → IsUtf8 (x ++ newline ∷ [])
    → to_come (tells R old) ≡ Some (events_of (x ++ newline ∷ []) ++ rest)
    → IfOk reply (λ n. (n ≡ length x + 1) × (string_bytes buf' ≡ string_bytes buf ++ (x ++ newline ∷ []))
    × (to_come (tells R new) ≡ Some rest)) × IfErr reply (λ e. IsOutOfMemory e × (string_capacity buf < string_len buf + (length x + 1)))
line_known {R = R} {new = new} {buf} {buf'} reply x rest law none text told = by reply law.read law.answers known
  where
    line : List ℕ
    line = x ++ newline ∷ []

    lacks : ℕ → Type 0
    lacks n = string_capacity buf < string_len buf + n

    known : IfOk law.read (λ n. (n ≡ length x + 1) × (event_bytes law.taken ≡ line) × (to_come (tells R new) ≡ Some rest))
        × IfErr law.read (λ e. IsOutOfMemory e × ((n : ℕ) × (n ≤ length x + 1) × lacks n))
    known = piece_known lacks newline law.takes x rest none told law.read law.ends

    by : (reply read : Result ℕ Error) → AnswersLine (event_bytes law.taken) read reply (string_bytes buf) (string_bytes buf')
        → IfOk read (λ n. (n ≡ length x + 1) × (event_bytes law.taken ≡ line) × (to_come (tells R new) ≡ Some rest))
        × IfErr read (λ e. IsOutOfMemory e × ((n : ℕ) × (n ≤ length x + 1) × lacks n))
        → IfOk reply (λ n. (n ≡ length x + 1) × (string_bytes buf' ≡ string_bytes buf ++ line) × (to_come (tells R new) ≡ Some rest))
        × IfErr reply (λ e. IsOutOfMemory e × lacks (length x + 1))
    by (Ok k) (Ok m) answers is = grind (arith, common_steps)
    by (Err e) (Ok m) answers is = let long = length-append x (newline ∷ []) in grind (arith, common_steps)
    by (Ok k) (Err f) answers is = absurd answers
    by (Err e) (Err f) answers is = grind (arith, common_steps)

-- If all bytes to come are known, and are UTF-8, a `read_to_string` appends them, and nothing is left; or an allocation failed, since the
-- string had no room for them and 32 more.
pub string_known : {X A : Type 0} {R : Reader X} {old new : X} {buf buf' : String A} (reply : Result ℕ Error) (x : List ℕ)
    → ReadToStringLaw R old buf reply buf' new → IsUtf8 x → to_come (tells R old) ≡ Some (events_of x)
    → IfOk reply (λ n. (n ≡ length x) × (string_bytes buf' ≡ string_bytes buf ++ x) × (to_come (tells R new) ≡ Some []))
    × IfErr reply (λ e. IsOutOfMemory e × (string_capacity buf < string_len buf + (length x + least_room)))
string_known {R = R} {new = new} {buf} {buf'} reply x law text told = by reply law.read law.count law.ends law.answers
  where
    few : length (event_bytes law.taken) ≤ length x
    few = few_known x told law.takes

    lacks : ℕ → Type 0
    lacks n = string_capacity buf < string_len buf + (n + least_room)

    by : (reply read : Result ℕ Error) → IfOk read (λ n. n ≡ length (event_bytes law.taken))
        → DrainsOrStops (lacks (length (event_bytes law.taken))) law.taken read (tells R new)
        → AnswersLine (event_bytes law.taken) read reply (string_bytes buf) (string_bytes buf')
        → IfOk reply (λ n. (n ≡ length x) × (string_bytes buf' ≡ string_bytes buf ++ x) × (to_come (tells R new) ≡ Some []))
        × IfErr reply (λ e. IsOutOfMemory e × lacks (length x))
    by (Ok k) (Ok m) count ends answers = let (all, left) = all_known x told law.takes ends.1 in grind (arith, common_steps)
    by (Err e) (Ok m) count ends answers = let (all, left) = all_known x told law.takes ends.1 in grind (arith, common_steps)
    by (Ok k) (Err f) count ends answers = absurd answers
    by (Err e) (Err f) count (inl fault) answers = absurd (no_fault_known x told law.takes fault)
    by (Err e) (Err f) count (inr (clean, refused, why)) answers = grind (arith, common_steps, few)

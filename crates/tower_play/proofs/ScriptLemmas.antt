-- For `parse_kind`, `parse_line` and `Script::read`: how lines make a script.
use Rattle.no_std_io2.proofs.Words.{◌≡◌, ℕ, zero, suc, true, nat_lt, List, [], ◌∷◌, arith, common_steps, nat_tests, get_or, subst, ◌+◌, ◌-◌}
use Rattle.no_std_io2.proofs.Words.{◌^◌, ◌++◌, false, Option, None, Some, refl, sym, ap, ◌∙◌, length, length-append, map, Result, Ok, Err}
use Rattle.no_std_io2.proofs.Words.{inl, ◌⊎◌, is_some, append_assoc, IsFault, IsOutOfMemory, Event, byte, fails, first_fault, HasNoFault}
use Rattle.no_std_io2.proofs.Words.{Made, Reader, tells, split_delim, split_reader, to_come, strip_last, Bool, error_kind, if◌then◌else◌}
use Rattle.no_std_io2.{proofs.CallsLemmas.{made_more}, specs.declared.io.{ErrorKind.{ErrorKind}, Error.{Error}, Split.{Split}}}
use Rattle.no_std_io2.specs.inner.{Iterators.{split_is_ended}, Faults.{HasFirstFault}, Kinds.{is_interruption}}
use Rattle.std.{specs.{List.{list_all}, Str.{IsUtf8, IsAscii}, Prelude.{min}, Option.{IfSome}}, proofs.lemmas.Str.{IsUtf8-from_ascii}}
use Rattle.tower_play.specs.{Script.{IsTextArgument}, declared.script.{Line.{Line}, Script.{Script}}, Lines.{Says, IsNoBad, IsGood}}
use Rattle.tower_play.specs.Reading.{Adds, AddsAll, IsBadAt, IsBadLine, IsFirstBad, IsFreshScript, IsRead}
use Rattle.io_bench.specs.{PieceRuns.{AllPieces, GathersPieces, RunsNexts}, Kinds.{kind_name}}
use Rattle.io_bench.proofs.PieceRunLemmas.{run_gathers, split_next, split_takes}

-- For `parse_kind`: the name of each kind is a text.

-- bytes below 128 are a text
text : (bs : List ℕ) → list_all (λ b. nat_lt b 128) bs ≡ true → IsUtf8 bs
text bs h = IsUtf8-from_ascii bs (below bs h)
  where
    below : (bs : List ℕ) → list_all (λ b. nat_lt b 128) bs ≡ true → IsAscii bs
    below [] h i = grind (arith, common_steps)
    below (b ∷ bs) h zero = grind (arith, common_steps, nat_tests)
    below (b ∷ bs) h (suc i) = below bs (grind (arith, common_steps, nat_tests)) i

-- each name is of such bytes
name_below : (kind : ErrorKind) → list_all (λ b. nat_lt b 128) (kind_name kind) ≡ true
name_below kind = grind (arith, common_steps)

-- each name is a text
pub kind_name-IsUtf8 : (kind : ErrorKind) → IsUtf8 (kind_name kind)
kind_name-IsUtf8 kind = text (kind_name kind) (name_below kind)

-- For `parse_line`: the text after the letter of a line that makes a call.

-- of a `w`
said_write : (rest : List ℕ) (said : Line) → Says (119 ∷ rest) said → IsNoBad said
    → (text : List ℕ) × IsTextArgument rest text
said_write rest said says good = grind (arith, common_steps, get_or)

-- of an `a`
said_write_all : (rest : List ℕ) (said : Line) → Says (97 ∷ rest) said → IsNoBad said
    → (text : List ℕ) × IsTextArgument rest text
said_write_all rest said says good = grind (arith, common_steps, get_or)

-- a `w` with no text after it says nothing
pub no_write : {line rest : List ℕ} → line ≡ 119 ∷ rest
    → ((x : List ℕ) → IsTextArgument rest x → ⊥) → IsGood line → ⊥
no_write {line} {rest} is none it =
    let found = said_write rest it.said (subst (λ l. Says l it.said) is it.says) it.good in
    none found.0 found.1

-- nor does an `a`
pub no_write_all : {line rest : List ℕ} → line ≡ 97 ∷ rest
    → ((x : List ℕ) → IsTextArgument rest x → ⊥) → IsGood line → ⊥
no_write_all {line} {rest} is none it =
    let found = said_write_all rest it.said (subst (λ l. Says l it.said) is it.says) it.good in
    none found.0 found.1

-- For `Script::read`: how the lines that were read so far make a script.

-- so many lines were read, and made the script, unless one of them was bad: then its number is known
pub record ReadSoFar {X T : Type 0} (next : X → Option (Result T Error) → X → Type 0) (view : T → List ℕ) (old : X) (number : ℕ)
    (bad : Option ℕ) (script : Script) (now : X) : Type 0 where
  pub items : List T
  pub made : Made (λ s x t. next s (Some (Ok x)) t) old items now
  pub lines : List (List ℕ)
  pub are : map view items ≡ lines
  pub start : Script
  pub fresh : IsFreshScript start
  pub adds : bad ≡ None → AddsAll lines start script
  pub count : number ≡ min (length lines) (2 ^ 64 - 1)
  pub first : IfSome bad (IsFirstBad lines)

-- one line more
adds_more : (lines : List (List ℕ)) (line : List ℕ) (old mid new : Script) → AddsAll lines old mid → Adds line mid new
    → AddsAll (lines ++ line ∷ []) old new
adds_more [] line old mid new all one = (new, subst (λ s. Adds line s new) all one, refl)
adds_more (l ∷ lines) line old mid new all one = (all.0, all.1, adds_more lines line all.0 mid new all.2 one)

-- a first bad line stays the first
first_more : (o : Option ℕ) (lines : List (List ℕ)) (line : List ℕ) → IfSome o (IsFirstBad lines)
    → IfSome o (IsFirstBad (lines ++ line ∷ []))
first_more None lines line first = tt
first_more (Some n) lines line first = record {
  good = first.good;
  bad = first.bad;
  left = first.left ++ line ∷ [];
  are = ap (λ l. l ++ line ∷ []) first.are ∙ append_assoc first.good (first.bad ∷ first.left) (line ∷ []);
  start = first.start;
  fresh = first.fresh;
  made = first.made;
  adds = first.adds;
  is = first.is;
  number = first.number;
}

-- a bad line after lines that made a script is the first
first_here : (lines : List (List ℕ)) (line : List ℕ) (n next : ℕ) (start script : Script) → IsFreshScript start
    → AddsAll lines start script → IsBadLine line script → n ≡ min (length lines) (2 ^ 64 - 1)
    → next ≡ min (n + 1) (2 ^ 64 - 1) → IsFirstBad (lines ++ line ∷ []) next
first_here lines line n next start script fresh adds is count more = record {
  good = lines;
  bad = line;
  left = [];
  are = refl;
  start = start;
  fresh = fresh;
  made = script;
  adds = adds;
  is = is;
  number = omega arith;
}

-- what is not there
pub is_none : (o : Option ℕ) → is_some o ≡ false → o ≡ None
is_none o none = grind (arith, common_steps)

module _ {X T : Type 0} {next : X → Option (Result T Error) → X → Type 0} {view : T → List ℕ} {old mid now : X} {number number' : ℕ}
    {bad bad' : Option ℕ} {script : Script} (script' : Script) (item : T) (so : ReadSoFar next view old number bad script mid)
    (gave : next mid (Some (Ok item)) now) (count : number' ≡ min (number + 1) (2 ^ 64 - 1)) where
  -- one line more was read
  read_more : (bad' ≡ None → AddsAll (so.lines ++ view item ∷ []) so.start script')
      → IfSome bad' (IsFirstBad (so.lines ++ view item ∷ [])) → ReadSoFar next view old number' bad' script' now
  read_more adds first = record {
    items = so.items ++ item ∷ [];
    made = made_more (λ s x t. next s (Some (Ok x)) t) so.items old so.made gave;
    lines = so.lines ++ view item ∷ [];
    are = grind (arith, common_steps, so.are);
    start = so.start;
    fresh = so.fresh;
    adds = adds;
    count = omega (arith, so.count, count, length-append so.lines (view item ∷ []));
    first = first;
  }

  -- it was good,
  pub read_good : bad ≡ None → bad' ≡ bad → Adds (view item) script script' → ReadSoFar next view old number' bad' script' now
  read_good none same line = grind (arith, common_steps, adds_more, read_more)

  -- or the first bad one,
  pub read_bad : bad ≡ None → bad' ≡ Some number' → IsBadLine (view item) script → ReadSoFar next view old number' bad' script' now
  read_bad none is line = read_more
      (λ none. absurd (cc (is, none)))
      (subst (λ b. IfSome b (IsFirstBad (so.lines ++ view item ∷ []))) (sym is)
      (first_here so.lines (view item) number number' so.start script so.fresh (so.adds none) line so.count count))

  -- or one after a bad one
  pub read_after : is_some bad ≡ true → bad' ≡ bad → ReadSoFar next view old number' bad' script' now
  read_after some same = grind (arith, common_steps, first_more, is_some, read_more)

-- what holds if events are told
if_map : (P Q : List Event → Type 0) (told : Option (List Event)) → ((E : List Event) → P E → Q E) → IfSome told P → IfSome told Q
if_map P Q told each h = grind (arith, common_steps)

-- e is the first fault of E: this is before it, and this after it
abbrev FaultAt : List Event → Error → Type 0
FaultAt E e = (Q : List Event) × (rest : List Event) × (E ≡ Q ++ fails e ∷ rest) × HasNoFault Q × IsFault e

first_at : (E : List Event) {e : Error} → first_fault E ≡ Some e → FaultAt E e
first_at [] is = cc
first_at (byte b ∷ E) is =
    let (Q, rest, split, free, fault) = first_at E is in (byte b ∷ Q, rest, ap (λ l. byte b ∷ l) split, free, fault)
first_at (fails f ∷ E) {e} is = by_kind (is_interruption (error_kind f)) refl is (λ is. first_at E is)
  where
    by_kind : (t : Bool) → is_interruption (error_kind f) ≡ t → (if t then first_fault E else Some f) ≡ Some e
        → (first_fault E ≡ Some e → FaultAt E e) → FaultAt (fails f ∷ E) e
    by_kind true again is later =
        let (Q, rest, split, free, fault) = later is in (fails f ∷ Q, rest, ap (λ l. fails f ∷ l) split, (again, free), fault)
    by_kind false fault is later = let same : f ≡ e = cc in ([], E, ap (λ x. fails x ∷ E) same, tt, subst IsFault same fault)

first_is : (E : List Event) (e : Error) → first_fault E ≡ Some e → HasFirstFault E e
first_is E e is =
    let (Q, rest, split, free, fault) = first_at E is in
    record { front = Q ++ fails e ∷ []; rest = rest; split = split ∙ sym (append_assoc Q _ rest); ends = (Q, refl, free, fault) }

-- a line that could not be read: the reader had its first fault, or an allocation failed
stopped : (d : ℕ) (lines : List (List ℕ)) (e : Error) (told : Option (List Event))
    → IfSome told (λ E. GathersPieces {A = Unit {0}} (strip_last d) (λ _ _. ⊥) ⊥ d E (Err e) lines)
    → IfSome told (λ E. HasFirstFault E e) ⊎ IsOutOfMemory e
stopped d lines e told h = grind (arith, common_steps, first_is)

module _ {X T : Type 0} (R : Reader X) (view : T → List ℕ) {old mid : Split X} (now : Split X) {number : ℕ} {bad : Option ℕ}
    {script : Script} (so : ReadSoFar (split_next R view) view old number bad script mid) (fresh : split_is_ended old ≡ false) where
  abbrev d : ℕ
  d = split_delim old

  abbrev told : Option (List Event)
  told = to_come (tells R (split_reader old))

  -- what this result of a whole run says of the lines
  gathers : (reply : Result (Unit {0}) Error) → RunsNexts (split_next R view) ⊥ old so.items reply now
      → IfSome told (λ E. GathersPieces {A = Unit {0}} (strip_last d) (λ _ _. ⊥) ⊥ d E reply so.lines)
  gathers reply run =
      subst (λ lines. IfSome told (λ E. GathersPieces {A = Unit {0}} (strip_last d) (λ _ _. ⊥) ⊥ d E reply lines)) so.are
      (run_gathers R split_reader view (strip_last d) (λ _ _. ⊥) d (split_next R view) _ (split_takes R view d) (Unit {0}) ⊥ so.items old
      now reply (fresh, refl) run)

  -- after the last line the script is read, or the first bad line is known
  pub read_all : split_next R view mid None now → bad ≡ None → IfSome told (λ E. IsRead d E script)
  read_all last none = if_map (λ E. AllPieces (strip_last d) d E so.lines) (λ E. IsRead d E script) told
      (λ E all. record { lines = so.lines; all = all; start = so.start; fresh = so.fresh; adds = so.adds none })
      (gathers (Ok tt) (mid, so.made, last))

  pub read_first : {n : ℕ} → split_next R view mid None now → bad ≡ Some n → IfSome told (λ E. IsBadAt d E n)
  read_first {n} last some = if_map (λ E. AllPieces (strip_last d) d E so.lines) (λ E. IsBadAt d E n) told
      (λ E all. record { lines = so.lines; all = all; first = subst (λ b. IfSome b (IsFirstBad so.lines)) some so.first })
      (gathers (Ok tt) (mid, so.made, last))

  -- a line that cannot be read ends it
  pub read_stops : {e : Error} → split_next R view mid (Some (Err e)) now → IfSome told (λ E. HasFirstFault E e) ⊎ IsOutOfMemory e
  read_stops {e} last = stopped d so.lines e told (gathers (Err e) (mid, so.made, inl last))

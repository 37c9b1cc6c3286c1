-- A content and a position in it, and the calls of a seeker.
use Rattle.std.proofs.Common.{rules, ◌≡◌, ℕ, ◌+◌, ◌-◌, ◌<◌, ◌≤◌, ◌⊎◌, min, List, [], ◌∷◌, ◌++◌, Ok, Err, Result, length, take, drop}
use Rattle.std.proofs.Common.{replicate, refl, sym, ap, ◌∙◌, arith, count_by, inl, inr, append-nil, take-append-drop, length-append, ◌^◌}
use Rattle.std.proofs.{Common.{true, Some, length-drop, ℤ, pos, subst}, lemmas.{Grind.{common_steps}, Bool.{cases_lt}}}
use Rattle.std.proofs.lemmas.{List.{length-replicate, drop-drop, take_all, drop_all, take-replicate}, Bool.Decides.{nat_tests}}
use Rattle.std.{proofs.Math.Seq.{take-append-add, drop-append_seam}, specs.{Result.{OnOk, OnErr, IfErr}, List.{splice}}}
use Rattle.std.specs.declared.dyn_box.DynBox.{DynBox}
use Rattle.no_std_io2_base.specs.{declared.error.{Error.{Error}, ErrorKind.{TheVariants.{WriteZero}, ErrorKind}}, Errors.{error_kind}}
use Rattle.no_std_io2_base.specs.{Errors.{IsFault, IsNoInterruption, IsOutOfMemory}, inner.Kinds.{is_interruption}, Moves.{WriterState}}
use Rattle.no_std_io2_base.specs.{Moves.{Moves, MovesFront, told_out}, Write.{accepted_of, write_mishap}, inner.Write.{zero_write}}
use Rattle.no_std_io2_base.specs.{Calls.{ByCalls, SeekCall, Sought, Measured}, inner.{Calls.{BoxMay}, Cursor.{bytes_before, put_at}}}
use Rattle.no_std_io2_base.specs.inner.Cursor.{fitting, IsRefusal, PutsWhole, PutsAll, PutsFitting, PutsAllFitting}
use Rattle.no_std_io2_base.specs.{inner.InMemory.{AppendsWhole}, Events.{events_of}, Takes.{ReaderState, Takes, KeepsContent, to_come}}
use Rattle.no_std_io2_base.specs.{Takes.{store_at}, inner.Takes.{fits_u64}, declared.traits.seek.SeekFrom.{TheVariants.{End}, SeekFrom}}
use Rattle.no_std_io2_base.specs.{inner.Seek.{LenCalls, measured, was_at_end, here}, Seek.{Seeker, SeekLaw, StreamPositionLaw, RewindLaw}}
use Rattle.no_std_io2_base.{specs.Seek.{StreamLenLaw, SeekRelativeLaw}, proofs.TakesLemmas.{events_of-append, length-events_of}}
use Rattle.no_std_io2_base.proofs.{TakesLemmas.{bytes-events_of}, CallsLemmas.{by_call, by_two}, Forwards.{holding, in_box}}

-- A content and a position in it.

-- n bytes further on
pub left_after : (all : List ℕ) (place n : ℕ) → drop (place + n) all ≡ drop n (drop place all)
left_after all place n = sym (drop-drop n place all)

-- zeros that follow the bytes, up to a place, are the zeros that would be added before that place
before-opened : (more place : ℕ) (bs : List ℕ) → place ≤ length bs + more → take place (bs ++ replicate more 0) ≡ bytes_before place bs
before-opened more place bs near = elim (cases_lt (length bs) place) [ inl past ↦ behind past | inr within ↦ inside within ]
  where
    inside : place ≤ length bs → take place (bs ++ replicate more 0) ≡ bytes_before place bs
    inside within = grind (arith, common_steps)

    behind : length bs < place → take place (bs ++ replicate more 0) ≡ bytes_before place bs
    behind past =
        let gap = place - length bs in
        let at : place ≡ length bs + gap = omega arith in
        let all : take place bs ≡ bs = take_all place bs (omega arith) in
        ap (λ n. take n (bs ++ replicate more 0)) at ∙ take-append-add bs (replicate more 0) gap
        ∙ ap (λ l. bs ++ l) (take-replicate gap more 0 (omega arith)) ∙ ap (λ l. l ++ replicate gap 0) (sym all)

-- x was put over zeros that followed the bytes, and the zeros after x were cut off
put_opened : (more place : ℕ) (x bs : List ℕ) → length bs ≤ place + length x → place + length x ≤ length bs + more
    → take place (bs ++ replicate more 0) ++ x ≡ put_at place x bs
put_opened more place x bs past near = grind (arith, common_steps, before-opened, append-nil, drop_all)

-- the bytes reach `end`, with zeros added if they were shorter
abbrev pub IsLengthened : ℕ → List ℕ → List ℕ → Type 0
IsLengthened end bs grown = (end ≤ length bs) × (grown ≡ bs) ⊎ (length bs ≤ end) × (grown ≡ bs ++ replicate (end - length bs) 0)

-- so they do
pub lengthened_reaches : (end : ℕ) (bs grown : List ℕ) → IsLengthened end bs grown → end ≤ length grown
lengthened_reaches end bs grown lengthened = grind (arith, common_steps)

-- x was put into such bytes
pub put_lengthened : (place end : ℕ) (x bs grown : List ℕ) → end ≡ place + length x → IsLengthened end bs grown
    → splice grown place end x ≡ put_at place x bs
put_lengthened place end x bs grown at long = grind (arith, common_steps, length-append, length-replicate, drop_all, append-nil, put_opened)

-- bytes are out as soon as they are accepted
appends_moves : {old new x : List ℕ} {k : List ErrorKind} → new ≡ old ++ x → count_by is_interruption k ≡ 0
    → Moves (told_out old) x k (told_out new)
appends_moves {old} {new} {x} is none = grind (arith, common_steps)

-- all of x was accepted
all_accepted : {a b : WriterState} {x : List ℕ} → Moves a x [] b → MovesFront a x (Ok tt) b
all_accepted {x = x} moves = record { accepted = x; front = ([], sym (append-nil x)); whole = refl; moves = moves }

-- a refusal is no interruption
refused_fault : (place : ℕ) (x : List ℕ) (e : Error) → IsRefusal place x e → IsFault e
refused_fault place x e refused = grind (arith, common_steps)

-- x that was put goes out
put_goes_out : (bs : List ℕ) (place : ℕ) (x bs' : List ℕ) (place' : ℕ) → bs' ≡ put_at place x bs
    → place' ≡ place + length x → bytes_before place' bs' ≡ bytes_before place bs ++ x
put_goes_out bs place x bs' place' is at = grind (arith, common_steps)

-- the mishap of a write that returned `Ok`, if it is one, is no interruption
quiet_count : (n : ℕ) (x : List ℕ) → count_by is_interruption (zero_write n x) ≡ 0
quiet_count n x = grind (arith, nat_tests)

-- `write` to a vector keeps the law of writers
pub puts_moves : (bs : List ℕ) (place : ℕ) (x : List ℕ) (reply : Result ℕ Error) (bs' : List ℕ) (place' : ℕ)
    → PutsWhole bs place x reply bs' place'
    → Moves (told_out (bytes_before place bs)) (accepted_of reply x) (write_mishap reply x) (told_out (bytes_before place' bs'))
puts_moves bs place x (Ok n) bs' place' h =
    let whole : x ≡ take n x = sym (take_all n x (omega (arith, h.1))) in
    appends_moves (put_goes_out bs place x bs' place' h.2 h.3 ∙ ap (λ l. bytes_before place bs ++ l) whole) (quiet_count n x)
puts_moves bs place x (Err e) bs' place' h = grind (arith, common_steps)

-- what fits in a slice goes out
fitting_goes_out : (bs : List ℕ) (place : ℕ) (x bs' : List ℕ) (place' : ℕ) → PutsFitting bs place x bs' place'
    → bytes_before place' bs' ≡ bytes_before place bs ++ fitting place x bs
fitting_goes_out bs place x bs' place' h = grind (arith, common_steps)

-- `write` to a slice keeps the law of writers
pub fits_moves : (bs : List ℕ) (place : ℕ) (x : List ℕ) {n : ℕ} {bs' : List ℕ} {place' : ℕ}
    → n ≡ min (length x) (length bs - place) → PutsFitting bs place x bs' place'
    → Moves (told_out (bytes_before place bs)) (take n x) (write_mishap (Ok n) x) (told_out (bytes_before place' bs'))
fits_moves bs place x {n} {bs'} {place'} count h =
    let part : take n x ≡ fitting place x bs = grind (arith, common_steps) in
    appends_moves (fitting_goes_out bs place x bs' place' h ∙ ap (λ l. bytes_before place bs ++ l) (sym part)) (quiet_count n x)

-- the same holds for a `write_all` of which not all fits
fits_moves_part : (bs : List ℕ) (place : ℕ) {x : List ℕ} (e : Error) {bs' : List ℕ} {place' : ℕ} → error_kind e ≡ WriteZero
    → PutsFitting bs place x bs' place' → MovesFront (told_out (bytes_before place bs)) x (Err e) (told_out (bytes_before place' bs'))
fits_moves_part bs place {x} e {bs'} {place'} kind h = record {
  accepted = fitting place x bs;
  front = (drop (length bs - place) x, sym (take-append-drop (length bs - place) x));
  whole = tt;
  moves = appends_moves (fitting_goes_out bs place x bs' place' h) (ap (λ k. count_by is_interruption (k ∷ [])) kind);
}

-- and for one of which all fits
fits_moves_all : (bs : List ℕ) (place : ℕ) {x bs' : List ℕ} {place' : ℕ} → length x ≤ length bs - place → PutsFitting bs place x bs' place'
    → MovesFront (told_out (bytes_before place bs)) x (Ok tt) (told_out (bytes_before place' bs'))
fits_moves_all bs place {x} {bs'} {place'} room h = search (arith, rules, take_all, all_accepted, appends_moves, fitting_goes_out)

-- so a `write_all` over a slice keeps the law
pub fits_all : (bs : List ℕ) (place : ℕ) {x : List ℕ} (reply : Result (Unit {0}) Error) {bs' : List ℕ} {place' : ℕ}
    → PutsAllFitting bs place x reply bs' place'
    → IsNoInterruption reply × MovesFront (told_out (bytes_before place bs)) x reply (told_out (bytes_before place' bs'))
fits_all bs place (Ok u) h = (tt, fits_moves_all bs place (h.variant.0 refl) h.puts)
fits_all bs place (Err e) h = (ap is_interruption h.says.0, fits_moves_part bs place e h.says.0 h.puts)

-- `write_all` of a vector keeps the law: an allocation failed and no byte was accepted, or all were
append_moves : {old new x : List ℕ} (reply : Result (Unit {0}) Error) → OnOk reply (new ≡ old ++ x) → OnErr reply (new ≡ old)
    → IfErr reply IsOutOfMemory → MovesFront (told_out old) x reply (told_out new)
append_moves {x} (Ok tt) is same refused = all_accepted (appends_moves is refl)
append_moves {old} {x} (Err e) is same refused = grind (arith, common_steps)

-- after a `write_all` of x all of x is out, also if x is empty
all_goes_out : (bs : List ℕ) (place : ℕ) (x bs' : List ℕ) (place' : ℕ) → PutsAll bs place x (Ok tt) bs' place'
    → bytes_before place' bs' ≡ bytes_before place bs ++ x
all_goes_out bs place x bs' place' h = grind (arith, common_steps, put_goes_out)

-- so it keeps the law of writers
pub puts_all : (bs : List ℕ) (place : ℕ) (x : List ℕ) (reply : Result (Unit {0}) Error) (bs' : List ℕ) (place' : ℕ)
    → PutsAll bs place x reply bs' place'
    → IsNoInterruption reply × MovesFront (told_out (bytes_before place bs)) x reply (told_out (bytes_before place' bs'))
puts_all bs place x (Ok u) bs' place' h = (tt, all_accepted (appends_moves (all_goes_out bs place x bs' place' h) refl))
puts_all bs place x (Err e) bs' place' h = (
  refused_fault place x e h.1,
  record { accepted = []; front = (x, refl); whole = tt; moves = puts_moves bs place x (Err e) bs' place' h },
)

-- what an append did, in one word
pub appends_whole : {A : Type 0} (old new x : List ℕ) (len capacity : ℕ) (reply : Result A Error) → OnOk reply (new ≡ old ++ x)
    → OnErr reply (new ≡ old) → IfErr reply IsOutOfMemory → OnErr reply (capacity < len + length x)
    → AppendsWhole old len capacity x reply new
appends_whole old new x len capacity reply is same refused full = grind (arith, common_steps)

-- and as a `write_all` it keeps the law
pub appends_all : {old new x : List ℕ} (len capacity : ℕ) (reply : Result (Unit {0}) Error) → AppendsWhole old len capacity x reply new
    → IsNoInterruption reply × MovesFront (told_out old) x reply (told_out new)
appends_all len capacity (Ok u) is = (tt, append_moves (Ok u) is tt tt)
appends_all len capacity (Err e) h = (ap is_interruption h.0.0, append_moves (Err e) tt h.2 h.0)

-- What is told of a content and a position in it.

-- both fit, so the test says so
pub fits_at : (content : List ℕ) (position : ℕ) → length content < 2 ^ 64 → position < 2 ^ 64 → fits_u64 content position ≡ true
fits_at content position small near = grind (arith, common_steps)

-- from one position to another the content stays
pub keeps_at : (Goes : ℕ → ℕ → ℕ → Type 0) (content : List ℕ) (was now : ℕ) → (length content < 2 ^ 64 → was < 2 ^ 64 → now < 2 ^ 64)
    → Goes (length content) was now → KeepsContent (store_at content was) Goes (store_at content now)
keeps_at Goes content was now near goes = grind (arith, common_steps)

-- what a reader tells of a content from a position on
abbrev tells_at : List ℕ → ℕ → ReaderState
tells_at content position = record {
  events = Some (events_of (drop position content));
  store = store_at content position;
  turns = length (drop position content);
}

-- whether or not it is a store, the bytes from the position on are to come
pub told_at : (content : List ℕ) (position : ℕ) → to_come (tells_at content position) ≡ Some (events_of (drop position content))
told_at content position = grind (arith, common_steps)

-- behind a part of them come the others
pub behind_at : (content : List ℕ) (was now : ℕ) (part rest : List ℕ) → drop was content ≡ part ++ rest → now ≡ was + length part
    → drop now content ≡ rest
behind_at content was now part rest split moved =
    ap (λ n. drop n content) moved ∙ sym (drop-drop (length part) was content) ∙ ap (drop (length part)) split ∙ drop-append_seam part rest

-- the next bytes of a told store are taken
pub takes_at : (content : List ℕ) (was now : ℕ) (part : List ℕ) → drop was content ≡ part ++ drop now content → now ≡ was + length part
    → Takes (tells_at content was) (events_of part) (tells_at content now)
takes_at content was now part split moved =
    grind (arith, common_steps, tells_at, told_at, events_of-append, keeps_at, length-drop, bytes-events_of, length-events_of)

-- The calls of a `stream_len`, and those of a reference, a box and a boxed object.

module _ {X : Type 0} (may : X → SeekCall → X → Type 0) {old new : X} where
  -- the `stream_len` of a type that has a body of its own for it
  pub len_measured : (reply : Result ℕ Error) → may old (Measured reply) new → ByCalls may old (λ C. LenCalls C reply) new
  len_measured reply call = by_call (Measured reply) call measured

  -- the position was at the end
  pub len_at_end : {mid : X} {n len : ℕ} → may old (Sought here (Ok n)) mid → may mid (Sought (End (pos 0)) (Ok len)) new → n ≡ len
      → ByCalls may old (λ C. LenCalls C (Ok len)) new
  len_at_end {n = n} first call there = by_two _ _ _ first call
      (subst (λ m. LenCalls (Sought here (Ok n) ∷ Sought (End (pos 0)) (Ok m) ∷ []) (Ok m)) there was_at_end)

-- S' tells the store of S, whose values are put into its own, and may make its calls
pub record SeeksThrough {X Y : Type 0} (S : Seeker X) (S' : Seeker Y) (put : X → Y) : Type 0 where
  pub store : (x : X) → S'.store (put x) ≡ S.store x
  pub may : (x y : X) (call : SeekCall) → S.may x call y → S'.may (put x) call (put y)
  pub sound : (x : X) → S'.sound (put x) → S.sound x
  pub stays : (x : X) → S.sound x → S'.sound (put x)

-- what a call did to a value, it did to that which the value was put into
module _ {X Y : Type 0} {S : Seeker X} {S' : Seeker Y} (put : X → Y) (through : SeeksThrough S S' put) {a b : X} where
  pub seek_through : {target : SeekFrom} {reply : Result ℕ Error} → SeekLaw S a target reply b → SeekLaw S' (put a) target reply (put b)
  seek_through law = grind (arith, common_steps)

  pub stream_position_through : {reply : Result ℕ Error} → StreamPositionLaw S a reply b → StreamPositionLaw S' (put a) reply (put b)
  stream_position_through law = grind (arith, common_steps)

  pub rewind_through : {reply : Result (Unit {0}) Error} → RewindLaw S a reply b → RewindLaw S' (put a) reply (put b)
  rewind_through {reply} law = grind (arith, common_steps)

  pub stream_len_through : {reply : Result ℕ Error} → StreamLenLaw S a reply b → StreamLenLaw S' (put a) reply (put b)
  stream_len_through law = grind (arith, common_steps)

  pub seek_relative_through : {offset : ℤ} {reply : Result (Unit {0}) Error} → SeekRelativeLaw S a offset reply b
      → SeekRelativeLaw S' (put a) offset reply (put b)
  seek_relative_through {offset} {reply} law = grind (arith, common_steps)

module _ {I A : Type 0} {V : I → Type 0} (o : (p : (x : I) × V x) → Seeker (V p.0)) (box : DynBox I A V) where
  -- the value in a box, by what its trait object tells, and the box
  abbrev value_seeker : (i : I) → Seeker (V i)
  value_seeker i = record { store = λ v. (o (i, v)).store v; may = λ v. (o (i, v)).may v; sound = λ v. (o (i, v)).sound v }

  abbrev box_seeker : Seeker (DynBox I A V)
  box_seeker = record {
    store = λ b. (value_seeker b.vtable).store b.value;
    may = λ b. BoxMay b (value_seeker b.vtable).may;
    sound = λ b. (value_seeker b.vtable).sound b.value;
  }

  -- what a call did to the value that was lent, it did to the box
  pub seeks_box : (Law : (X : Type 0) → Seeker X → X → X → Type 0)
      → (SeeksThrough (value_seeker box.vtable) box_seeker (holding box box.vtable) → (new : V box.vtable)
      → Law _ (value_seeker box.vtable) box.value new → Law _ box_seeker box (holding box box.vtable new))
      → (lent : (x : I) × V x) → lent ≡ (box.vtable, box.value) → (new : V lent.0) → Law _ (value_seeker lent.0) lent.1 new
      → Law _ box_seeker box (holding box lent.0 new)
  seeks_box Law through = in_box box (λ i a b. Law _ (value_seeker i) a b) (Law _ box_seeker box)
      (through (record { store = λ x. refl; may = λ x y call may. (y, refl, may); sound = λ x is. is; stays = λ x is. is }))

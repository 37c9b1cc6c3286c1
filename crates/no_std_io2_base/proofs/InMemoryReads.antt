-- Reads from memory, and those of any reader that fills its room.
use Rattle.std.proofs.Common.{◌≡◌, ℕ, zero, suc, ◌+◌, min, List, Result, Ok, Err, Some, IsOkAnd, length, refl, sym, ap, subst, ◌∙◌, arith}
use Rattle.std.proofs.Common.{length-append, ◌<◌, ◌≤◌, [], ◌++◌, take, drop, le_refl, None, IfOk, IfErr, IfSome, Vec, vec_len, vec_capacity}
use Rattle.std.{proofs.{Common.{take-append-drop, length-take}, lemmas.Grind.{common_steps}}, specs.Borrow.{Bor}}
use Rattle.no_std_io2_base.specs.{declared.error.Error.{Error}, Events.{events_of, event_bytes}, Takes.{to_come, ReaderState, Takes}}
use Rattle.no_std_io2_base.specs.{Takes.{IsAtEnd, store_at, Reader, tells, bytes_left}, inner.Takes.{AreTaken, told_bytes}}
use Rattle.no_std_io2_base.specs.{inner.Read.{GaveLaw, without_number, least_room, FillsOrEnds, DrainsOrStops}, Calls.{ReadCall, Gave}}
use Rattle.no_std_io2_base.specs.{Calls.{GaveExactly, GaveAll}, Read.{ReadLaw, ReadExactLaw, ReadToEndLaw}, inner.Charges.{FillsFor}}
use Rattle.no_std_io2_base.specs.{Meter.{FillsRoom, IsReadMeter}, Errors.{IsUnexpectedEnd, IsOutOfMemory}, inner.InMemory.{GivesLeft}}
use Rattle.no_std_io2_base.{specs.{declared.cursor.Cursor.{Cursor}, inner.Cursor.{cursor_left}}, proofs.TakesLemmas.{bytes-events_of}}
use Rattle.no_std_io2_base.proofs.TakesLemmas.{length-events_of, events_of-append, HasNoFault-events_of, gives_whole, drains_ended}
use Rattle.no_std_io2_base.proofs.{CursorLemmas.{told_at}, CallsLemmas.{exact_own, to_end_own}}

-- Reads of a reader that fills its room, and how it is shown to fill it.

-- if only bytes are to come, these are told
pub left_is : {X : Type 0} (R : Reader X) (x : X) (left : List ℕ) → to_come (tells R x) ≡ Some (events_of left) → bytes_left R x ≡ left
left_is R x left told = ap told_bytes told ∙ bytes-events_of left

-- a reader that fills its room tells that only bytes are to come
pub fills_told : {X : Type 0} {R : Reader X} {x : X} → FillsRoom R x → to_come (tells R x) ≡ Some (events_of (bytes_left R x))
fills_told fills = (fills.always 1).0

-- What a read of a reader that fills its room did: it gave as many bytes as fit, and the reader goes on filling its room.
pub record Drawn {X : Type 0} (R : Reader X) (a : X) (room : ℕ) (answer : Result (List ℕ) Error) (b : X) : Type 0 where
  pub gave : List ℕ
  pub is : answer ≡ Ok gave
  pub count : length gave ≡ min room (length (bytes_left R a))
  pub rest : length gave + length (bytes_left R b) ≡ length (bytes_left R a)
  pub fills : FillsRoom R b

-- a read of a reader that fills its room
pub drawn : {X : Type 0} {R : Reader X} {a b : X} {room : ℕ} (answer : Result (List ℕ) Error) → FillsRoom R a → GaveLaw R a room answer b
    → Drawn R a room answer b
drawn {R = R} {a} {b} {room} (Ok x) fills law =
    let after : FillsRoom R b = record { always = λ n. ((fills.always (suc n)).1 room (Ok x) b law).1 } in
    let told : AreTaken (Some (events_of (bytes_left R a))) (events_of x) (Some (events_of (bytes_left R b))) =
    subst (λ E. AreTaken E (events_of x) (Some (events_of (bytes_left R b)))) (fills_told fills)
    (subst (λ E. AreTaken (to_come (tells R a)) (events_of x) E) (fills_told after) law.takes.events) in
    let long = ap length told ∙ length-append (events_of x) (events_of (bytes_left R b)) in
    record {
      gave = x;
      is = refl;
      count = ((fills.always 1).1 room (Ok x) b law).0;
      rest = omega (arith, long, length-events_of x, length-events_of (bytes_left R a), length-events_of (bytes_left R b));
      fills = after;
    }
drawn {b = b} {room} (Err e) fills law = absurd ((fills.always 1).1 room (Err e) b law).0

-- A reader fills its room in each state of a set that its reads keep, if in these states only the bytes `left` are to come, and a read
-- gives as many of them as fit.
pub fills_by : {X : Type 0} {R : Reader X} (now : X → Type 0) (left : X → List ℕ)
    → ((x : X) → now x → to_come (tells R x) ≡ Some (events_of (left x)))
    → ((x : X) (room : ℕ) (answer : Result (List ℕ) Error) (after : X) → now x → GaveLaw R x room answer after
    → IsOkAnd answer (λ g. length g ≡ min room (length (left x))) × now after) → (x : X) → now x → FillsRoom R x
fills_by {X} {R} now left told gives x is = record { always = λ n. for n x is }
  where
    for : (n : ℕ) (x : X) → now x → FillsFor R n x
    for zero x is = tt
    for (suc n) x is =
        let same = left_is R x (left x) (told x is) in (
          told x is ∙ ap (λ l. Some (events_of l)) (sym same),
          λ room answer after law.
              let one = gives x room answer after is law in
              (subst (λ l. IsOkAnd answer (λ g. length g ≡ min room (length l))) (sym same) one.0, for n after one.1),
        )

-- what passes each call on to the reader in it, as a reference and a box do; a call of it may do this
abbrev pub passing : {V X : Type 0} → (V → X) → (V → ReadCall → V → Type 0) → Reader X → Reader V
passing get may R = record {
  store = λ v. R.store (get v);
  turns = λ v. R.turns (get v);
  events = λ v. R.events (get v);
  may = may;
  held = λ v. R.held (get v);
}

module _ {V X : Type 0} (get : V → X) {may : V → ReadCall → V → Type 0} (R : Reader X)
    (each : (a b : V) (call : ReadCall) → may a call b → R.may (get a) call (get b)) where
  -- it fills its room if that reader does
  pub fills_passing : (v : V) → FillsRoom R (get v) → FillsRoom (passing get may R) v
  fills_passing v fills = fills_by {R = passing get may R} (λ v. FillsRoom R (get v)) (λ v. bytes_left R (get v)) (λ v now. fills_told now)
      (λ v room answer after now law.
      let law' : GaveLaw R (get v) room answer (get after) =
      record { bound = law.bound; takes = law.takes; end = law.end; call = each v after (Gave room answer) law.call } in
      let one = drawn answer now law' in
      (subst (λ a. IsOkAnd a (λ g. length g ≡ min room (length (bytes_left R (get v))))) (sym one.is) one.count, one.fills)) v fills

  -- a number that counts the reads of that reader counts its reads
  pub meters_passing : (cost : X → ℕ) → IsReadMeter R.may cost → IsReadMeter may (λ v. cost (get v))
  meters_passing cost meter old new room answer made = meter (get old) (get new) room answer (each old new (Gave room answer) made)

-- Bytes that a reader in memory gives, as its laws say it.

-- what a reader tells that has these bytes left, and no store
abbrev tells_left : List ℕ → ReaderState
tells_left left = record { events = Some (events_of left); store = None; turns = length left }

-- the first of them are taken
pub takes_left : (left part rest : List ℕ) → left ≡ part ++ rest → Takes (tells_left left) (events_of part) (tells_left rest)
takes_left left part rest split = grind (arith, common_steps, events_of-append, length-append, length-events_of)

-- the first n bytes, and the others
pub split_at : (n : ℕ) (all : List ℕ) {part rest : List ℕ} → part ≡ take n all → rest ≡ drop n all → all ≡ part ++ rest
split_at n all {part} front left = sym (take-append-drop n all) ∙ ap (λ l. l ++ drop n all) (sym front) ∙ ap (λ l. part ++ l) (sym left)

-- as many as fit
fitting_part : (left part rest : List ℕ) (room : ℕ) → left ≡ part ++ rest → length part ≡ min (length left) room
    → (part ≡ take room left) × (rest ≡ drop room left)
fitting_part left part rest room split long = grind (arith, common_steps)

-- From old to new a reader gave `part` of the bytes that were left.
pub record GivesPart {X : Type 0} (R : Reader X) (left : X → List ℕ) (old : X) (part : List ℕ) (new : X) : Type 0 where
  pub split : left old ≡ part ++ left new
  pub takes : Takes (tells R old) (events_of part) (tells R new)
  pub told : to_come (tells R new) ≡ Some (events_of (left new))

module _ {X : Type 0} {R : Reader X} {left : X → List ℕ} {old new : X} {part : List ℕ} (gives : GivesPart R left old part new) where
  -- if nothing is left, the reader is at its end
  ends : left new ≡ [] → IsAtEnd (tells R new)
  ends none = subst (λ E. IfSome E (λ l. l ≡ [])) (sym gives.told) (ap events_of none)

  -- a `read` gave it
  pub read_part : {buf : List ℕ} (buf' : List ℕ) (n : ℕ) → part ≡ take n buf' → n ≤ length buf' → (n ≡ 0 → 0 < length buf' → left new ≡ [])
      → R.may old (Gave (length buf') (Ok (take n buf'))) new → ReadLaw R old buf (Ok n) buf' new
  read_part buf' n is bound none call = grind (arith, common_steps)

  -- a `read_to_end` appended it
  pub memory_drained : {A : Type 0} {buf buf' : Vec ℕ A} (reply : Result ℕ Error) → buf'.items ≡ buf.items ++ part
      → IfOk reply (λ n. (n ≡ length part) × (left new ≡ []))
      → IfErr reply (λ e. IsOutOfMemory e × (vec_capacity buf < vec_len buf' + least_room)) → vec_capacity buf ≤ vec_capacity buf'
      → R.may old (GaveAll part (without_number reply)) new → ReadToEndLaw R old buf reply buf' new
  memory_drained {buf = buf} {buf'} reply grown done failed capacity call =
      let stops : DrainsOrStops (vec_capacity buf < vec_len buf + (length (event_bytes (events_of part)) + least_room)) (events_of part)
      reply
      (tells R new) = grind (arith, common_steps, ends, bytes-events_of, HasNoFault-events_of, length-append) in
      record {
        taken = events_of part;
        takes = gives.takes;
        appends = grind (arith, common_steps, bytes-events_of);
        ends = stops;
        capacity = capacity;
        calls = to_end_own (call, (events_of part, gives.takes, bytes-events_of part, drains_ended _ (events_of part) reply _ stops))
            (bytes-events_of part);
      }

module _ {X : Type 0} {R : Reader X} {left : X → List ℕ} where
  module _ (may : (old new : X) (call : ReadCall) → GivesLeft left old call new → R.may old call new) {old : X} where
    -- a `read` of a reader that gives what is left gave as many bytes as fit
    pub read_left : {new : X} {buf : List ℕ} (buf' : List ℕ) (n : ℕ) → GivesPart R left old (take n buf') new
        → n ≡ min (length (left old)) (length buf') → ReadLaw R old buf (Ok n) buf' new
    read_left {new} buf' n gives count = grind (arith, common_steps)

    -- a `read_exact` fills the buffer
    pub exact_part : {new : X} {buf buf' : List ℕ} {u : Unit {0}} → GivesPart R left old buf' new → (length buf ≡ 0 → new ≡ old)
        → ReadExactLaw R old buf (Ok u) buf' new
    exact_part {new} {buf' = buf'} {u} gives empty =
        let room = length buf' in
        let long = ap length gives.split ∙ length-append buf' (left new) in
        let front = fitting_part (left old) buf' (left new) room gives.split (omega (arith, long)) in
        let fills : FillsOrEnds room (events_of buf') (Ok buf') (tells R new) = (gives_whole buf' (le_refl _), refl) in
        let given : GivesLeft left old (GaveExactly room (Ok buf')) new =
        (λ fits. (ap Ok front.0, front.1), λ short. absurd (omega (arith, short, long))) in
        record {
          taken = events_of buf';
          takes = gives.takes;
          ends = fills;
          empty = λ none. (refl, empty none);
          calls = exact_own (Ok u) buf' (may old new _ given, (events_of buf', gives.takes, fills));
        }

    -- too few bytes were left
    pub exact_short : {buf buf' : List ℕ} {e : Error} → GivesPart R left old [] old → length (left old) < length buf' → IsUnexpectedEnd e
        → (length buf ≡ 0 → ⊥) → ReadExactLaw R old buf (Err e) buf' old
    exact_short {buf' = buf'} {e} gives short kind some =
        grind (arith, common_steps, HasNoFault-events_of, bytes-events_of, ends, exact_own)

-- a reader that gives what is left is filling
pub fills_left : {X : Type 0} {R : Reader X} (left : X → List ℕ) → ((x : X) → to_come (tells R x) ≡ Some (events_of (left x)))
    → ((old new : X) (call : ReadCall) → R.may old call new → GivesLeft left old call new) → (x : X) → FillsRoom R x
fills_left left told gives x = fills_by (λ _. Unit {0}) left (λ x now. told x)
    (λ old room answer new now law. (
      subst (λ a. IsOkAnd a (λ g. length g ≡ min room (length (left old)))) (sym (gives old new (Gave room answer) law.call).0)
          (length-take room (left old)),
      tt,
    ))
    x tt

-- a slice, as the laws take it, and that it is filling
abbrev pub slice_reader : Reader (Bor (List ℕ))
slice_reader = record {
  store = λ s. None;
  turns = λ s. length s.now;
  events = λ s. Some (events_of s.now);
  may = GivesLeft (λ s. s.now);
  held = λ s. s.now;
}

-- a slice is filling
pub slice_fills : (s : Bor (List ℕ)) → FillsRoom slice_reader s
slice_fills s = fills_left {R = slice_reader} (λ s. s.now) (λ s. refl) (λ old new call given. given) s

-- a cursor, as the laws take it, and that it is filling
abbrev pub cursor_reader : {T : Type 0} → (T → List ℕ) → Reader (Cursor T)
cursor_reader slice = record {
  store = λ c. store_at (slice c.inner) c.pos;
  turns = λ c. length (cursor_left slice c);
  events = λ c. Some (events_of (cursor_left slice c));
  may = GivesLeft (cursor_left slice);
  held = cursor_left slice;
}

-- a cursor is filling
pub cursor_fills : {T : Type 0} (slice : T → List ℕ) (c : Cursor T) → FillsRoom (cursor_reader slice) c
cursor_fills slice c = fills_left {R = cursor_reader slice} (cursor_left slice) (λ c. told_at (slice c.inner) c.pos)
    (λ old new call given. given) c

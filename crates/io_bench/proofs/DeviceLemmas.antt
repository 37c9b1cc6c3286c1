-- For `Faulty`, `Feed` and `Tally`: what their calls do, and when they fill their room.
use Rattle.no_std_io2.proofs.Words.{CallOf, Writer, common_steps, ◌≡◌, ℕ, ◌<◌, List, [], ◌∷◌, ◌++◌, drop, Option, None, Some, ap, ◌∙◌}
use Rattle.no_std_io2.proofs.Words.{subst, arith, append-nil, ◌≤◌, min, length, take, Result, IfOk, length-take, WriterState, Moves, Wrote}
use Rattle.no_std_io2.proofs.Words.{zero, suc, ◌+◌, false, ◌==◌, nat_lt, Ok, refl, sym, length-drop, length-take-le, nat_tests, byte}
use Rattle.no_std_io2.proofs.Words.{events_of, Reader, ReadLaw, map, answered, FillsRoom, IsReadMeter, bytes_left}
use Rattle.no_std_io2.proofs.{MovesLemmas.{Moves-refl, Moves-forget, count_by-append}, TakesLemmas.{length-events_of}}
use Rattle.no_std_io2.proofs.InMemoryReads.{fills_by, drawn, fills_told}
use Rattle.std.proofs.{Common.{take-take, take_all, set, IsOkAnd}, Math.Seq.{take-add}, lemmas.List.{take_more_set, drop-drop}}
use Rattle.no_std_io2.specs.{declared.io.{Error.{Error}, ErrorKind.{TheVariants.{WriteZero}, ErrorKind}}, inner.Moves.{HasSpent}}
use Rattle.no_std_io2.specs.{Write.{accepted_of, write_mishap}, inner.Write.{zero_write}}
use Rattle.std.specs.Option.{option_map}
use Rattle.io_bench.specs.declared.{faulty.{Act.{Act, TheVariants.{Take}}, Faulty.{Faulty}}, feed.Event.{Event, TheVariants.{Byte}}}
use Rattle.io_bench.specs.Faulty.{act_mishap, act_mishaps, acts_left, faulty_inner, faulty_told, first_act, with_acts, WritesBehind}
use Rattle.io_bench.specs.{declared.{feed.Feed.{Feed}, tally.Tally.{Tally}}, Tally.{tally_inner, tally_reads, ReadsCounted}}
use Rattle.io_bench.specs.Feed.{all_to_come, leading_bytes, first_failure, feed_left, feed_piece, feed_gives, FeedMay, feed_answer}

-- For `Faulty`: what a call does with its act, and the acts that are left.

-- the mishaps that happened and those that acts made are gone
spent_mishaps : (old : Option (List ErrorKind)) (k l m : List ErrorKind) (new : Option (List ErrorKind)) → HasSpent old k new
    → HasSpent (option_map (λ kinds. kinds ++ (l ++ m)) old) (k ++ l) (option_map (λ kinds. kinds ++ m) new)
spent_mishaps old k l m new h = grind (arith, common_steps, count_by-append)

-- a call that spent an act made its mishaps, and those that the act makes
moves_act : (a b : WriterState) (x : List ℕ) (k : List ErrorKind) (act : Act) (acts : List Act) → Moves a x k b
    → Moves (with_acts a (act ∷ acts)) x (k ++ act_mishap act) (with_acts b acts)
moves_act a b x k act acts m = grind (arith, common_steps, spent_mishaps, count_by-append)

-- the acts after the first
acts_are : (acts : List Act) (act : Act) → first_act acts ≡ Some act → acts ≡ act ∷ drop 1 acts
acts_are acts act is = grind (arith, common_steps)

-- the writer tells the same
moves_from : {a a' b : WriterState} {x : List ℕ} {k : List ErrorKind} → a ≡ a' → Moves a x k b → Moves a' x k b
moves_from {b = b} {x} {k} same m = subst (λ t. Moves t x k b) same m

-- the next act is spent, and nothing else happened
pub moves_spent : (a b : WriterState) (k : List ErrorKind) (act : Act) (acts acts' : List Act) → b ≡ a → k ≡ act_mishap act
    → first_act acts ≡ Some act → acts' ≡ drop 1 acts → Moves (with_acts a acts) [] k (with_acts b acts')
moves_spent a b k act acts acts' same made is left = grind (arith, common_steps, moves_act, Moves-refl, acts_are)

-- `Ok(0)` is what an act of no byte makes of a `write`, and of one of nothing it is no mishap
pub moves_zero : {a b : WriterState} (buf : List ℕ) {act : Act} (acts : List Act) {acts' : List Act} → b ≡ a
    → act_mishap act ≡ WriteZero ∷ []
    → first_act acts ≡ Some act → acts' ≡ drop 1 acts → Moves (with_acts a acts) [] (zero_write 0 buf) (with_acts b acts')
moves_zero buf acts same made is left = grind (arith, common_steps, Moves-forget, moves_spent)

-- the next act lets some bytes through, and the inner writer took some of these
pub moves_through : {a a' b : WriterState} {x : List ℕ} {k : List ErrorKind} {act : Act} (acts : List Act) {acts' : List Act} → a' ≡ a
    → Moves a' x k b
    → act_mishap act ≡ [] → first_act acts ≡ Some act → acts' ≡ drop 1 acts → Moves (with_acts a acts) x k (with_acts b acts')
moves_through {a} {b} {x} {k} {act} acts {acts'} same m none is left =
    grind (arith, common_steps, append-nil, acts_are, moves_act, moves_from)

-- no act was left, and the call was passed on
pub moves_past : {a a' b : WriterState} {x : List ℕ} {k : List ErrorKind} (acts : List Act) {acts' : List Act} → a' ≡ a → Moves a' x k b
    → first_act acts ≡ None
    → acts' ≡ drop 1 acts → Moves (with_acts a acts) x k (with_acts b acts')
moves_past {a} {b} {x} {k} acts {acts'} same m is left = grind (arith, common_steps, append-nil, moves_from, spent_mishaps)

-- a writer that was given a front of some bytes took a front of these
pub taken_of_front : {a b : WriterState} (reply : Result ℕ Error) (n : ℕ) {most : ℕ} (buf : List ℕ) → 0 < n → most ≡ min n (length buf)
    → IfOk reply (λ m. m ≤ length (take most buf)) → Moves a (accepted_of reply (take most buf)) (write_mishap reply (take most buf)) b
    → Moves a (accepted_of reply buf) (write_mishap reply buf) b
taken_of_front reply n buf some is bound m = grind (arith, common_steps, length-take, take-take)

-- what the call did after it used up its act
pub behind : {W : Type 0} (I : Writer W) {act act' : Option Act} {a a' : W} (b : W) (x : List ℕ) (reply : Result ℕ Error) → act' ≡ act
    → a' ≡ a
    → WritesBehind I act' a' x reply b → WritesBehind I act a x reply b
behind I {act} {a' = a'} b x reply same kept done = grind (arith, common_steps)

-- the act lets that many bytes through, and there may be fewer
pub behind_take : {W : Type 0} (I : Writer W) {a b : W} (n : ℕ) {most : ℕ} (buf : List ℕ) (reply : Result ℕ Error) → 0 < n
    → most ≡ min n (length buf) → CallOf I a (Wrote (take most buf) reply) b → WritesBehind I (Some (Take n)) a buf reply b
behind_take I {a} {b} n {most} buf reply some is wrote = grind (arith, common_steps, take_all)

-- with no act left, and no mishap to come from the inner writer, no mishap is to come
pub faulty_steady : {W : Type 0} (told : W → WriterState) (f : Faulty W) → (told (faulty_inner f)).mishaps ≡ Some []
    → acts_left f ≡ [] → (faulty_told told f).mishaps ≡ Some []
faulty_steady told f e g = ap (option_map (λ kinds. kinds ++ act_mishaps (acts_left f))) e ∙ ap (λ acts. Some (act_mishaps acts)) g

-- For `Feed`: what its script's events give to a reader.

-- the first n bytes are given, and the events after them are left
pub given_first : (n : ℕ) (left : List Event) → n ≤ length (leading_bytes left)
    → all_to_come left ≡ events_of (take n (leading_bytes left)) ++ all_to_come (drop n left)
given_first zero left h = refl
given_first (suc n) (Byte b ∷ left) h = ap (λ E. byte b ∷ E) (given_first n left (omega arith))
given_first _ _ h = absurd (omega arith)

-- if the first n leading bytes are gone, the others are the leading bytes now
leading-drop : (n : ℕ) (left : List Event) → n ≤ length (leading_bytes left) → leading_bytes (drop n left) ≡ drop n (leading_bytes left)
leading-drop zero left h = refl
leading-drop (suc n) (Byte b ∷ left) h = leading-drop n left (omega arith)
leading-drop _ _ h = absurd (omega arith)

-- the leading bytes are no more than all events
pub leading-le : (left : List Event) → length (leading_bytes left) ≤ length left
leading-le (Byte b ∷ left) = let rest = leading-le left in omega (arith, rest)
leading-le _ = omega arith

-- if no byte and no failure comes first, nothing is left
pub nothing_left : (left : List Event) → length (leading_bytes left) ≡ 0 → first_failure left ≡ None → left ≡ []
nothing_left left h f = grind (arith, common_steps)

-- one more byte was given
pub given_next : (n b : ℕ) (left rest : List Event) (buf : List ℕ) → n < length buf → n ≤ length (leading_bytes left)
    → take n buf ≡ take n (leading_bytes left) → drop n left ≡ Byte b ∷ rest
    → (n + 1 ≤ length (leading_bytes left)) × (take (n + 1) (set buf n b) ≡ take (n + 1) (leading_bytes left)) × (rest ≡ drop (n + 1) left)
given_next n b left rest buf room enough same e =
    let tail : drop n (leading_bytes left) ≡ b ∷ leading_bytes rest = sym (leading-drop n left enough) ∙ ap leading_bytes e in (
      omega (arith, ap length tail, length-drop n (leading_bytes left)),
      take_more_set buf n b room ∙ ap (λ l. l ++ b ∷ []) same
          ∙ ap (λ l. take n (leading_bytes left) ++ take 1 l) (sym tail) ∙ sym (take-add n 1 (leading_bytes left)),
      ap (drop 1) (sym e) ∙ drop-drop 1 n left,
    )

-- the first event is no byte
pub given_all : (n : ℕ) (left rest : List Event) → n ≤ length (leading_bytes left) → rest ≡ drop n left
    → leading_bytes rest ≡ [] → n ≡ length (leading_bytes left)
given_all n left rest enough e none =
    omega (
      arith,
      ap length none,
      ap (λ l. length (leading_bytes l)) e,
      ap length (leading-drop n left enough),
      length-drop n (leading_bytes left),
    )

-- what a `Feed` tells, and what its reads do
abbrev pub feeds : Reader Feed
feeds = record {
  store = λ _. None;
  turns = λ f. length (feed_left f);
  events = λ f. Some (all_to_come (feed_left f));
  may = FeedMay;
  held = λ _. [];
}

-- a read that gives bytes
pub feed_reads : (old mid new : Feed) (n : ℕ) (buf buf' : List ℕ) → length buf' ≡ length buf → false ≡ (length buf == 0)
    → None ≡ first_failure (feed_left old) → feed_left mid ≡ feed_left old → feed_piece mid ≡ feed_piece old
    → n ≡ feed_gives mid (length buf) → take n buf' ≡ take n (leading_bytes (feed_left mid)) → feed_left new ≡ drop n (feed_left mid)
    → feed_piece new ≡ feed_piece mid → ReadLaw feeds old buf (Ok n) buf' new
feed_reads old mid new n buf buf' long some none same kept count given rest piece =
    grind (arith, nat_tests, events_of, given_first, leading-le, length-drop, length-events_of, length-take-le, nat_lt, nothing_left)

-- A `Feed` whose failures have come, and whose bytes one read may give, fills its room.

-- a script of bytes alone
to_come_all : (x : List ℕ) → all_to_come (map Byte x) ≡ events_of x
to_come_all [] = refl
to_come_all (b ∷ x) = ap (λ E. byte b ∷ E) (to_come_all x)

-- all of them come before the first failure,
leading_all : (x : List ℕ) → leading_bytes (map Byte x) ≡ x
leading_all [] = refl
leading_all (b ∷ x) = ap (λ l. b ∷ l) (leading_all x)

-- of which there is none
no_failure : (x : List ℕ) → first_failure (map Byte x) ≡ None
no_failure [] = refl
no_failure (b ∷ x) = refl

-- after the first n come the others
drop_bytes : (n : ℕ) (x : List ℕ) → drop n (map Byte x) ≡ map Byte (drop n x)
drop_bytes zero x = refl
drop_bytes (suc n) [] = refl
drop_bytes (suc n) (b ∷ x) = drop_bytes n x

-- it gives as many of them as fit
gives_all : (f : Feed) (x : List ℕ) (room : ℕ) → feed_left f ≡ map Byte x → length x ≤ feed_piece f
    → feed_answer f room ≡ Ok (take (min room (length x)) x)
gives_all f x room is fits = grind (arith, common_steps, nat_tests, leading_all, no_failure)

-- only these bytes are left, and one read may give all of them
abbrev pub IsLastPiece : Feed → Type 0
IsLastPiece f = (x : List ℕ) × (feed_left f ≡ map Byte x) × (length x ≤ feed_piece f)

-- then it fills its room
pub feed_fills : (f : Feed) → IsLastPiece f → FillsRoom feeds f
feed_fills f last = fills_by {R = feeds} IsLastPiece (λ f. leading_bytes (feed_left f))
    (λ f now. ap (λ E. Some (all_to_come E)) now.1 ∙ ap Some (to_come_all now.0)
    ∙ ap (λ E. Some (events_of E)) (sym (ap leading_bytes now.1 ∙ leading_all now.0)))
    (λ f room answer after now law.
    let x = now.0 in
    let n = min room (length x) in
    let lead : leading_bytes (feed_left f) ≡ x = ap leading_bytes now.1 ∙ leading_all x in
    let gave : answer ≡ Ok (take n x) = law.call.0 ∙ gives_all f x room now.1 now.2 in
    let long : length (take n x) ≡ n = omega (arith, length-take n x) in
    let left : feed_left after ≡ map Byte (drop n x) =
    law.call.1 ∙ ap (λ a. drop (length (answered a)) (feed_left f)) gave
    ∙ ap (λ k. drop k (feed_left f)) (length-events_of (take n x) ∙ long) ∙ ap (drop n) now.1 ∙ drop_bytes n x in (
      subst (λ a. IsOkAnd a (λ g. length g ≡ min room (length (leading_bytes (feed_left f))))) (sym gave)
          (long ∙ ap (λ l. min room (length l)) (sym lead)),
      (drop n x, left, omega (arith, now.2, law.call.2, length-drop n x)),
    ))
    f last

-- A `Tally` as a reader: its count is a meter, and it fills its room if its inner reader does.

-- what it tells as a reader, and what its reads do
abbrev pub tallied_reader : {T : Type 0} → Reader T → Reader (Tally T)
tallied_reader I = record {
  store = λ t. I.store (tally_inner t);
  turns = λ t. I.turns (tally_inner t);
  events = λ t. I.events (tally_inner t);
  may = ReadsCounted I;
  held = λ _. [];
}

-- each read into some room is one more
pub tally_meters_reads : {T : Type 0} (I : Reader T) → IsReadMeter (ReadsCounted I) tally_reads
tally_meters_reads I old new room answer made = made.reads

-- it fills its room if its inner reader does
pub tally_fills : {T : Type 0} {I : Reader T} (t : Tally T) → FillsRoom I (tally_inner t) → FillsRoom (tallied_reader I) t
tally_fills {I = I} t fills = fills_by {R = tallied_reader I} (λ t. FillsRoom I (tally_inner t)) (λ t. bytes_left I (tally_inner t))
    (λ t now. fills_told now)
    (λ t room answer after now law.
    let one = drawn answer now law.call.handed in
    (subst (λ a. IsOkAnd a (λ g. length g ≡ min room (length (bytes_left I (tally_inner t))))) (sym one.is) one.count, one.fills))
    t fills

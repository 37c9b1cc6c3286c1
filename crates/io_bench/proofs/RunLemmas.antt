-- For `run_writes`: one item more, how many calls failed, its law, and replies that say what was accepted.
use Rattle.no_std_io2.proofs.Words.{common_steps, arith, [], ◌≡◌, List, ◌∷◌, ◌++◌, ℕ, true, if◌then◌else◌, length, Option, Some, refl}
use Rattle.no_std_io2.proofs.Words.{Moves, WriterState, CallOf, TakesAll, Writer, sym, ap, ◌∙◌, append_assoc, append-nil, WriteCall, Made}
use Rattle.no_std_io2.proofs.Words.{ByCalls, LevelCalls, take, zero, suc, ◌+◌, ◌<◌, ◌≤◌, get_or, ap₂, subst, inl, inr, take_more}
use Rattle.no_std_io2.proofs.{Words.{nil_from_length}, MovesLemmas.{all_calls, Moves-refl, Moves-steady, Moves-trans}, CallsLemmas.{by_are}}
use Rattle.no_std_io2.proofs.{CallsLemmas.{by_then, made_split}, BufWriterLemmas.{level_by_level}}
use Rattle.io_bench.specs.{Appended.{appended}, declared.runs.{Op.{Op}, Reply.{Reply}}, Runs.{EndsFlushed, IsShorterBy, Ran, Run}}
use Rattle.io_bench.specs.Runs.{failures, is_failure, mishap_of, mishaps_of, Accepts, AreWhole, IsFlushed, IsWhole, JoinsEach}
use Rattle.io_bench.specs.{Runs.{OpCalls, RunBelow, RunCalls, RunLaw}, declared.runs.Op.TheVariants.{Write, WriteAll, Flush}}
use Rattle.io_bench.specs.{declared.runs.Reply.TheVariants.{Took, Done, Failed}, Joined.{IsClear, AreClear, IsJoined, HasIdleFailure}}
use Rattle.std.proofs.{Common.{count_by, take_all}, lemmas.List.{length-append, append_cancel_left, Sums.{sum_by-cons}}}
use Rattle.no_std_io2.specs.{declared.io.ErrorKind.{ErrorKind}, inner.Moves.{HasSpent}}
use Rattle.std.specs.List.{AllZip}

-- For `run_writes` and `run_items`: one more item is appended.

-- at first none is appended
pub appended-none : {X : Type 0} {old new : List X} → new ≡ old → appended old new ≡ []
appended-none {old = old} is = grind (arith, common_steps)

-- an item that is pushed follows those that were appended before
pub appended-one : {X : Type 0} (old mid new : List X) (x : X) → mid ≡ old ++ appended old mid → new ≡ mid ++ x ∷ []
    → appended old new ≡ appended old mid ++ x ∷ []
appended-one old mid new x h is = grind (arith, common_steps)

-- the list still begins with the old items
pub appended-more : {X : Type 0} (old : List X) {mid new : List X} (x : X) → mid ≡ old ++ appended old mid → new ≡ mid ++ x ∷ []
    → new ≡ old ++ appended old new
appended-more old {mid} {new} x h is = grind (arith, common_steps)

-- For `run_writes`: at most as many calls of a run failed as mishaps were told.

-- if every element is counted, the count is the length
count_by-all : {X : Type 0} (xs : List X) → count_by (λ _. true) xs ≡ length xs
count_by-all [] = refl
count_by-all (x ∷ xs) = omega (arith, sum_by-cons (λ _. 1) x xs, count_by-all xs)

-- a call has one mishap if it failed, and else none
length-mishap_of : (op : Op) (reply : Reply) → length (mishap_of op reply) ≡ (if is_failure op reply then 1 else 0)
length-mishap_of op reply = grind (arith, common_steps)

-- as many calls of a run failed as it had mishaps
pub failures-length : (ops : List Op) (replies : List Reply) → failures ops replies ≡ length (mishaps_of ops replies)
failures-length (op ∷ ops) (reply ∷ replies) =
    omega (arith, failures-length ops replies, length-mishap_of op reply, length-append (mishap_of op reply) (mishaps_of ops replies))
failures-length _ _ = refl

-- told mishaps stay told, and there are fewer of them by at least as many as happened
shorter : (old : Option (List ErrorKind)) (happened : List ErrorKind) (new : Option (List ErrorKind))
    → HasSpent old happened new → IsShorterBy (length happened) old new
shorter old happened new h = grind (arith, common_steps, count_by-all)

-- an empty list of mishaps can become shorter by 0 only
none_left : (n : ℕ) (new : Option (List ErrorKind)) → IsShorterBy n (Some []) new → n ≡ 0
none_left n new h = grind (arith, common_steps)

-- these facts are enough for a run
pub ran_by : {old new : WriterState} {ops : List Op} {replies : List Reply} (accepted : List ℕ) → Run ops replies accepted
    → Moves old accepted (mishaps_of ops replies) new → (EndsFlushed ops replies → new.held ≡ []) → Ran old ops replies new
ran_by accepted run moves flushed = grind (arith, common_steps, failures-length, shorter)

-- over no mishap to come no call fails
pub none_failed : {old new : WriterState} {ops : List Op} {replies : List Reply} → Ran old ops replies new → old.mishaps ≡ Some []
    → failures ops replies ≡ 0
none_failed {new = new} ran none = grind (arith, common_steps, none_left, ran.failed, none)

-- For `run_writes`: the law of a run follows from its calls. And runs through buffers.

-- one call more
pub JoinsEach-more : {A : Type 0} (gives : Op → Reply → List A → Type 0) (ops : List Op) (replies : List Reply) (xs : List A)
    (op : Op) (reply : Reply) (ys : List A) → JoinsEach gives ops replies xs → gives op reply ys
    → JoinsEach gives (ops ++ op ∷ []) (replies ++ reply ∷ []) (xs ++ ys)
JoinsEach-more gives [] [] xs op reply ys r a = (ys, [], a, refl, ap (λ l. l ++ ys) r ∙ sym (append-nil ys))
JoinsEach-more gives (o ∷ ops) (q ∷ replies) xs op reply ys r a =
    (r.0, r.1 ++ ys, r.2, JoinsEach-more gives ops replies r.1 op reply ys r.3 a, ap (λ l. l ++ ys) r.4 ∙ append_assoc r.0 r.1 ys)
JoinsEach-more gives _ _ xs op reply ys r a = absurd r

-- what holds of each call and its reply, and of one more
pub AllZip-more : (P : Op → Reply → Type 0) (ops : List Op) (replies : List Reply) (op : Op) (reply : Reply) → AllZip P ops replies
    → P op reply → AllZip P (ops ++ op ∷ []) (replies ++ reply ∷ [])
AllZip-more P [] [] op reply r a = (a, tt)
AllZip-more P (o ∷ ops) (q ∷ replies) op reply r a = (r.0, AllZip-more P ops replies op reply r.1 a)
AllZip-more P _ _ op reply r a = absurd r

-- the calls of one more
pub RunCalls-more : {W : Type 0} (I : Writer W) {a b c : W} (ops : List Op) (op : Op) (replies : List Reply) (reply : Reply)
    → RunCalls I a ops replies b → ByCalls (CallOf I) b (OpCalls op reply) c → RunCalls I a (ops ++ op ∷ []) (replies ++ reply ∷ []) c
RunCalls-more I ops op replies reply before one = grind (arith, common_steps, JoinsEach-more, by_then)

-- what the calls did that one call of a run made
record OpLaw {W : Type 0} (I : Writer W) (old : W) (op : Op) (reply : Reply) (new : W) : Type 0 where
  accepted : List ℕ
  accepts : Accepts op reply accepted
  moves : Moves (I.told old) accepted (mishap_of op reply) (I.told new)
  flushed : IsFlushed op reply → (I.told new).held ≡ []
  all : TakesAll I old → TakesAll I new × IsWhole op reply

-- the only call that was made
pub made_one : {X A : Type 0} (may : X → A → X → Type 0) {call : A} {C : List A} (a b : X) → C ≡ call ∷ [] → Made may a C b → may a call b
made_one may {call} a b is made = grind (arith, common_steps)

module _ {W : Type 0} (I : Writer W) where
  -- it follows from the laws of these calls
  op_law : (op : Op) (reply : Reply) (C : List WriteCall) → OpCalls op reply C → (a b : W) → Made (CallOf I) a C b → OpLaw I a op reply b
  op_law (Write x) (Took n) C is a b made =
      let law = made_one (CallOf I) a b is made in
      record {
        accepted = take n x.now;
        accepts = (law.bound, refl);
        moves = law.moves;
        flushed = λ ends. absurd ends;
        all = λ t. let (now, whole) = law.all t in (now, cc whole);
      }
  op_law (Write x) (Failed e) C is a b made =
      let law = made_one (CallOf I) a b is made in
      record {
        accepted = [];
        accepts = refl;
        moves = law.moves;
        flushed = λ ends. absurd ends;
        all = λ t. absurd (Moves-steady t.1 law.moves);
      }
  op_law (WriteAll x) Done C is a b made =
      let (_, front, all) = all_calls I is a b made in
      record {
        accepted = front.accepted;
        accepts = front.whole;
        moves = front.moves;
        flushed = λ ends. absurd ends;
        all = λ t. ((all t).0, tt);
      }
  op_law (WriteAll x) (Failed e) C is a b made =
      let (_, front, all) = all_calls I is a b made in
      record {
        accepted = front.accepted;
        accepts = front.front;
        moves = front.moves;
        flushed = λ ends. absurd ends;
        all = λ t. absurd (let no : ⊥ = cc (all t).1 in no);
      }
  op_law Flush Done C is a b made =
      let law = made_one (CallOf I) a b is made in
      record { accepted = []; accepts = refl; moves = law.moves; flushed = λ ends. law.empty; all = λ t. (law.all t, tt) }
  op_law Flush (Failed e) C is a b made =
      let law = made_one (CallOf I) a b is made in
      record {
        accepted = [];
        accepts = refl;
        moves = law.moves;
        flushed = λ ends. absurd ends;
        all = λ t. absurd (Moves-steady t.1 law.moves);
      }
  op_law _ _ C is a b made = absurd is

  -- after the last call nothing is held if it is a flush that succeeded
  last_flushed : (op : Op) (ops : List Op) (reply : Reply) (replies : List Reply) (mid b : W)
      → (IsFlushed op reply → (I.told mid).held ≡ []) → (ops ≡ [] → b ≡ mid) → (EndsFlushed ops replies → (I.told b).held ≡ [])
      → EndsFlushed (op ∷ ops) (reply ∷ replies) → (I.told b).held ≡ []
  last_flushed op ops reply replies mid b now same later ends = grind (arith, common_steps)

  -- so does what a run did
  joined_law : (ops : List Op) (replies : List Reply) (C : List WriteCall) → JoinsEach OpCalls ops replies C → (a b : W)
      → Made (CallOf I) a C b
      → Ran (I.told a) ops replies (I.told b) × (TakesAll I a → TakesAll I b × AreWhole ops replies)
  joined_law [] [] C none a b made = grind (arith, common_steps, ran_by, Moves-refl)
  joined_law (op ∷ ops) (reply ∷ replies) C (first, rest, one, more, is) a b made =
      let (mid, now, later) = made_split (CallOf I) first a rest b (rw is at made) in
      let law = op_law op reply first one a mid now in
      let (ran, all) = joined_law ops replies rest more mid b later in (
        ran_by (law.accepted ++ ran.accepted) (law.accepted, ran.accepted, law.accepts, ran.run, refl) (Moves-trans law.moves ran.moves)
            (last_flushed op ops reply replies mid b law.flushed (λ none. grind (arith, common_steps, none)) ran.flushed),
        λ t. let now = law.all t in let later = all now.0 in (later.0, (now.1, later.1)),
      )
  joined_law _ _ C joined a b made = absurd joined

  -- the law of a run follows from the laws of its calls
  pub run_law : {a b : W} {ops : List Op} {replies : List Reply} → RunCalls I a ops replies b → RunLaw I a ops replies b
  run_law {a} {b} {ops} {replies} run =
      let (ran, all) = joined_law ops replies run.calls run.are a b run.made in record { calls = run; ran = ran; all = all }

-- a run through a buffer is a run of what is below it
pub below_first : {W B : Type 0} (I : Writer W) {K : Writer B} (inner : B → W) (buffer : B → List ℕ)
    (level : List ℕ → WriteCall → List WriteCall → List ℕ → Type 0)
    → ((a b : B) (call : WriteCall) → K.may a call b
    → ByCalls (CallOf I) (inner a) (λ D. level (buffer a) call D (buffer b)) (inner b))
    → {a b : B} (ops : List Op) (replies : List Reply) → RunCalls K a ops replies b
    → RunBelow I (λ calls below. LevelCalls level (buffer a) calls below (buffer b)) (inner a) ops replies (inner b)
below_first I {K = K} inner buffer level each {a = a} {b = b} ops replies r =
    by_are (level_by_level I K inner buffer level each r.calls a b r.made) (λ below is. (r.calls, r.are, is))

-- and one through two buffers
pub below_more : {W B : Type 0} (I : Writer W) {K : Writer B} (inner : B → W) (buffer : B → List ℕ)
    (level : List ℕ → WriteCall → List WriteCall → List ℕ → Type 0)
    → ((a b : B) (call : WriteCall) → K.may a call b
    → ByCalls (CallOf I) (inner a) (λ D. level (buffer a) call D (buffer b)) (inner b))
    → {tower : List WriteCall → List WriteCall → Type 0} {a b : B} (ops : List Op) (replies : List Reply)
    → RunBelow K tower a ops replies b
    → RunBelow I (λ calls below. (mid : List WriteCall) × tower calls mid × LevelCalls level (buffer a) mid below (buffer b))
    (inner a) ops replies (inner b)
below_more I {K = K} inner buffer level each {a = a} {b = b} ops replies r =
    let (calls, joined, upper) = r.are in
    by_are (level_by_level I K inner buffer level each r.calls a b r.made) (λ below is. (calls, joined, (r.calls, upper, is)))

-- such a run, if the calls of the device are related otherwise too
pub below_map : {W : Type 0} (I : Writer W) {tower tower' : List WriteCall → List WriteCall → Type 0} {a b : W} (ops : List Op)
    (replies : List Reply) → ((calls below : List WriteCall) → tower calls below → tower' calls below) → RunBelow I tower a ops replies b
    → RunBelow I tower' a ops replies b
below_map I ops replies each r = by_are r (λ below (calls, joined, is). (calls, joined, each calls below is))

-- For `joined`: a run whose replies say what was accepted, call by call.

-- a reply that says what was accepted says one list
accepted_once : (op : Op) (reply : Reply) (xs ys : List ℕ) → IsClear op reply → Accepts op reply xs → Accepts op reply ys → ys ≡ xs
accepted_once op reply xs ys c a b = grind (arith, common_steps)

-- so do those of a run
pub run_once : (ops : List Op) (replies : List Reply) (xs ys : List ℕ) → AreClear ops replies → Run ops replies xs → Run ops replies ys
    → ys ≡ xs
run_once [] [] xs ys c a b = b ∙ sym a
run_once (op ∷ ops) (reply ∷ replies) xs ys c a b =
    b.4 ∙ ap₂ (λ l m. l ++ m) (accepted_once op reply a.0 b.0 c.0 a.2 b.2) (run_once ops replies a.1 b.1 c.1 a.3 b.3) ∙ sym a.4
run_once _ _ xs ys c a b = absurd c

-- if all replies are clear, each reply is
pub clear_at : (ops : List Op) (replies : List Reply) (i : ℕ) (p : Op) (q : Reply)
    → i < length ops → AreClear ops replies → IsClear (get_or ops i p) (get_or replies i q)
clear_at (op ∷ ops) (reply ∷ replies) zero p q h c = c.0
clear_at (op ∷ ops) (reply ∷ replies) (suc i) p q h c = clear_at ops replies i p q (omega (arith, h)) c.1
clear_at _ _ i p q h c = grind arith

-- what holds of the calls gone through and of the next holds of one more
pub one_more : (P : List Op → List Reply → Type 0) (ops : List Op) (replies : List Reply) {i : ℕ} (p : Op) (q : Reply)
    → i < length ops → length ops ≡ length replies
    → P (take i ops ++ get_or ops i p ∷ []) (take i replies ++ get_or replies i q ∷ []) → P (take (i + 1) ops) (take (i + 1) replies)
one_more P ops replies {i} p q h e more = rw (take_more ops i p h, take_more replies i q (omega (arith, h, e))) more

-- what holds of the calls gone through holds of all, once all are
pub all_through : (P : List Op → List Reply → Type 0) (ops : List Op) (replies : List Reply) (i : ℕ)
    → length ops ≤ i → length ops ≡ length replies → P (take i ops) (take i replies) → P ops replies
all_through P ops replies i h e p = grind (arith, common_steps, take_all)

-- without its first call a run that accepted one list still did
rest_joined : (op : Op) (reply : Reply) (ops : List Op) (replies : List Reply) (b : List ℕ)
    (j : IsJoined (op ∷ ops) (reply ∷ replies) b) → IsJoined ops replies j.0.1
rest_joined op reply ops replies b j = (
  j.0.3,
  λ other r. append_cancel_left j.0.0 other j.0.1 (j.1 (j.0.0 ++ other) (j.0.0, other, j.0.2, r, refl) ∙ j.0.4),
)

-- if some reply does not say what was accepted, different lists fit the replies or none does, except for a failed
-- `write_all` of no bytes
pub unclear : (ops : List Op) (replies : List Reply) (b : List ℕ)
    → IsJoined ops replies b → (AreClear ops replies → ⊥) → HasIdleFailure ops replies
unclear (WriteAll x ∷ ops) (Failed e ∷ replies) b j n =
    let whole = j.1 (x.now ++ j.0.1) (x.now, j.0.1, ([], sym (append-nil x.now)), j.0.3, refl) in
    let none = j.1 j.0.1 ([], j.0.1, (x.now, refl), j.0.3, refl) in
    inl (nil_from_length x.now (omega (arith, ap length (whole ∙ sym none), length-append x.now j.0.1)))
unclear (op ∷ ops) (reply ∷ replies) b j n =
    let said = j.0.2 in
    inr (unclear ops replies j.0.1 (rest_joined op reply ops replies b j) (λ c. n (grind (arith, said), c)))
unclear [] [] b j n = absurd (n tt)
unclear _ _ b j n = absurd j.0

-- a call that accepted some bytes is in no run that accepted none
pub some_accepted : (ops : List Op) (replies : List Reply) (i : ℕ) (p : Op) (q : Reply) (xs : List ℕ) → i < length ops
    → IsClear (get_or ops i p) (get_or replies i q) → Accepts (get_or ops i p) (get_or replies i q) xs → 0 < length xs
    → Run ops replies [] → ⊥
some_accepted (op ∷ ops) (reply ∷ replies) zero p q xs h clear accepts some r =
    omega (arith, some, ap length (accepted_once op reply xs r.0 clear accepts r.2), ap length r.4, length-append r.0 r.1)
some_accepted (op ∷ ops) (reply ∷ replies) (suc i) p q xs h clear accepts some r =
    some_accepted ops replies i p q xs (omega (arith, h)) clear accepts some
    (subst (Run ops replies) (nil_from_length r.1 (omega (arith, ap length r.4, length-append r.0 r.1))) r.3)
some_accepted _ _ i p q xs h clear accepts some r = grind arith

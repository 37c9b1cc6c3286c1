-- For `counts`: how many reads the trait's loops and a copy make.
use Rattle.no_std_io2.proofs.Words.{common_steps, ◌≡◌, ℕ, ◌+◌, ◌-◌, ◌<◌, ◌≤◌, List, [], ◌∷◌, ◌++◌, Result, Ok, Err, min, length, arith}
use Rattle.no_std_io2.proofs.Words.{refl, sym, subst, ◌∙◌, inl, inr, Made, Reader, ReadCall, Gave, GaveAll, answered, Gathers, no_read}
use Rattle.no_std_io2.proofs.Words.{and_gave, and_again, GathersUntil, ExactCalls, ap, OnOk, GaveLaw, ReadCallLaw, bytes_given, IsReadMeter}
use Rattle.no_std_io2.proofs.{Words.{FillsRoom, bytes_left, Writer, Copied}, CallsLemmas.{made_split}, TakesLemmas.{length-events_of}}
use Rattle.no_std_io2.proofs.{CopyLoop.{copied_ok}, InMemoryReads.{drawn}}
use Rattle.no_std_io2.specs.{declared.io.Error.{Error}, inner.Read.{without_number, FillCalls, ToEndCalls}}
use Rattle.promises.specs.Loops.{stopped_by_fault, CountsToEnd}
use Rattle.io_bench.specs.{declared.tally.Tally.{Tally}, Tally.{tally_inner, tally_reads, tally_writes, ReadCounted, ReadsCounted}}
use Rattle.std.specs.Int.{div_ceil}

-- For `counts`: how many reads a `Tally` counts in the trait's loops.

-- how many turns a read spends at least: one if it gives bytes or fails
abbrev turns_spent : Result (List ℕ) Error → ℕ
turns_spent answer = min 1 (length (answered answer))

-- some bytes are some events
some_events : (x : List ℕ) → 0 < length x → 0 < length (answered (Ok x))
some_events x some = omega (arith, length-events_of x)

-- Reads in a row: at least so many, and at most one for each turn that is gone and so many more.
pub record Counted {T : Type 0} (I : Reader T) (fewest more : ℕ) (old new : Tally T) : Type 0 where
  pub least : tally_reads old + fewest ≤ tally_reads new
  pub most : tally_reads new + I.turns (tally_inner new) ≤ tally_reads old + I.turns (tally_inner old) + more
  pub writes : tally_writes new ≡ tally_writes old

module _ {T : Type 0} (I : Reader T) where
  -- reads, and one more
  counted_more : {l l' m m' room : ℕ} {a b c : Tally T} (answer : Result (List ℕ) Error) → Counted I l m a b → ReadCounted I b room answer c
      → 0 < room → l' ≤ l + 1 → m + (1 - turns_spent answer) ≤ m' → Counted I l' m' a c
  counted_more answer so_far read some fewer slack = record {
    least = omega (arith, so_far.least, read.reads);
    most = omega (arith, so_far.most, read.reads, read.handed.takes.turns);
    writes = read.writes ∙ so_far.writes;
  }

  -- calls, and one more read
  last_counts : (C : List ReadCall) {l l' m m' room : ℕ} (answer : Result (List ℕ) Error) (a b : Tally T)
      → ((mid : Tally T) → Made (ReadsCounted I) a C mid → Counted I l m a mid) → 0 < room → l' ≤ l + 1
      → m + (1 - turns_spent answer) ≤ m' → Made (ReadsCounted I) a (C ++ Gave room answer ∷ []) b → Counted I l' m' a b
  last_counts C {room = room} answer a b before some fewer slack made = grind (arith, common_steps, made_split, counted_more)

  -- no call is one of its own
  no_other : (C : List ReadCall) (call : ReadCall) (a b : Tally T) → ((c d : Tally T) → ReadsCounted I c call d → ⊥)
      → Made (ReadsCounted I) a (C ++ call ∷ []) b → ⊥
  no_other C call a b none made = grind (arith, common_steps, made_split)

  -- reads that gave x
  gathers_count : {asks : ℕ → ℕ → Type 0} {C : List ReadCall} {x : List ℕ} → ((at room : ℕ) → asks at room → 0 < room) → Gathers asks C x
      → (a b : Tally T) → Made (ReadsCounted I) a C b → Counted I (min 1 (length x)) 0 a b
  gathers_count into no_read a b made =
      subst (Counted I 0 0 a) (sym made)
      (record { least = omega arith; most = omega arith; writes = refl })
  gathers_count into (and_gave C x y room before asked some) a b made =
      let spent = some_events y some in
      last_counts C (Ok y) a b (λ mid m. gathers_count into before a mid m) (into _ _ asked) (omega arith) (omega (arith, spent)) made
  gathers_count into (and_again C x room e before asked interrupted) a b made =
      last_counts C (Err e) a b (λ mid m. gathers_count into before a mid m) (into _ _ asked) (omega arith) (omega arith) made

  -- and one that ended them
  until_counts : {asks : ℕ → ℕ → Type 0} {C : List ReadCall} {x : List ℕ} (answer : Result (List ℕ) Error)
      → ((at room : ℕ) → asks at room → 0 < room) → GathersUntil asks C x answer → (a b : Tally T) → Made (ReadsCounted I) a C b
      → Counted I 1 (1 - turns_spent answer) a b
  until_counts answer into until a b made =
      last_counts until.0 answer a b (λ mid m. gathers_count into until.2 a mid m) (into _ _ until.3) (omega arith) (omega arith)
      (subst (λ K. Made (ReadsCounted I) a K b) until.4 made)

  -- less is so too
  counted_less : {l l' m m' : ℕ} {a b : Tally T} → Counted I l m a b → l' ≤ l → m ≤ m' → Counted I l' m' a b
  counted_less c fewer more = grind (arith, common_steps)

  fill_counts : (C : List ReadCall) (buf : List ℕ) (reply : Result (Unit {0}) Error) (a b : Tally T) → FillCalls C reply buf
      → Made (ReadsCounted I) a C b → Counted I (min 1 (length buf)) (stopped_by_fault reply) a b
  fill_counts C buf (Ok u) a b reads made = gathers_count (λ at room rest. rest.1) reads a b made
  fill_counts C buf (Err e) a b (x, front, inl end) made =
      counted_less (until_counts (Ok []) (λ at room rest. rest.1) end.1 a b made) (omega arith) (omega arith)
  fill_counts C buf (Err e) a b (x, front, inr fault) made =
      counted_less (until_counts (Err e) (λ at room rest. rest.1) fault.1 a b made) (omega arith) (omega arith)

  -- the reads of a `read_exact`
  pub exact_counts : (C : List ReadCall) (buf : List ℕ) (reply : Result (Unit {0}) Error) (a b : Tally T) → ExactCalls C reply buf
      → Made (ReadsCounted I) a C b → Counted I (min 1 (length buf)) (stopped_by_fault reply) a b
  exact_counts C buf reply a b calls made = grind (arith, common_steps, no_other, fill_counts)

  -- how often a `read_to_end` reads, and what else the reads do
  abbrev DrainCounts : Result ℕ Error → Tally T → Tally T → Type 0
  DrainCounts reply a b =
      CountsToEnd (tally_reads a) (I.turns (tally_inner a)) reply (I.turns (tally_inner b)) (tally_reads b)
      × ((l m : ℕ) × Counted I l m a b)

  -- the reads of a `read_to_end`
  pub drain_counts : (C : List ReadCall) (x : List ℕ) (reply : Result ℕ Error) (a b : Tally T) → ToEndCalls C x (without_number reply)
      → Made (ReadsCounted I) a C b → DrainCounts reply a b
  drain_counts C x reply a b (inl own) made =
      absurd (no_other own.0 (GaveAll own.2 (without_number reply)) a b (λ c d no. no)
      (subst (λ K. Made (ReadsCounted I) a K b) own.5 made))
  drain_counts C x (Ok n) a b (inr until) made =
      let c = until_counts (Ok []) (λ at room some. some) until a b made in
      (record { least = omega (arith, c.least); asked = tt; most = c.most }, (1, 1, c))
  drain_counts C x (Err e) a b (inr (inl fault)) made =
      let c = until_counts (Err e) (λ at room some. some) fault.1 a b made in
      (record { least = tt; asked = inr (omega (arith, c.least)); most = omega (arith, c.most) }, (1, 0, c))
  drain_counts C x (Err e) a b (inr (inr refused)) made =
      let c = gathers_count (λ at room some. some) refused.1 a b made in
      (record { least = tt; asked = inl refused.0; most = c.most }, (min 1 (length x), 0, c))

-- For `counts`: how many reads a copy makes of a reader that fills its room.

-- a read into the whole room that gave bytes
one_read : (room : ℕ) {size : ℕ} (n : ℕ) {left : ℕ} (left' cost : ℕ) {cost' all : ℕ} → 0 < room → size ≡ room
    → n ≡ min size left → 0 < n → left ≡ n + left' → cost' ≡ cost + min 1 size
    → cost + div_ceil left room ≡ all → cost' + div_ceil left' room ≡ all
one_read room n {left = left} left' cost some whole gave more fewer paid before = grind (arith, common_steps)

-- a read that gave nothing
last_read : (room left cost : ℕ) {cost' all : ℕ} → 0 < room → 0 ≡ min room left → cost' ≡ cost + min 1 room
    → cost + div_ceil left room ≡ all → cost' ≡ all + 1
last_read room left cost some gave paid before = grind (arith, common_steps)

module _ {R : Type 0} (K : Reader R) (cost : R → ℕ) (meter : IsReadMeter K.may cost) (S : ℕ) (some : 0 < S) where
  -- what reads into the whole buffer cost; the reader goes on filling its room
  reads_cost : {C : List ReadCall} {x : List ℕ} → Gathers (λ _ room. room ≡ S) C x → (a b : R) → FillsRoom K a
      → Made (ReadCallLaw K) a C b
      → (cost b + div_ceil (length (bytes_left K b)) S ≡ cost a + div_ceil (length (bytes_left K a)) S) × FillsRoom K b
  reads_cost no_read a b fills made =
      (ap (λ r. cost r + div_ceil (length (bytes_left K r)) S) made, subst (λ r. FillsRoom K r) (sym made) fills)
  reads_cost (and_gave C x y room before whole more) a b fills made =
      let (mid, first, last) = made_split (ReadCallLaw K) C a (Gave room (Ok y) ∷ []) b made in
      let law : GaveLaw K mid room (Ok y) b = subst (λ r. GaveLaw K mid room (Ok y) r) (sym last.2) last.1 in
      let (so_far, now) = reads_cost before a mid fills first in
      let one = drawn (Ok y) now law in
      let same : y ≡ one.gave = ap bytes_given one.is in (
        one_read S (length y) (length (bytes_left K b)) (cost mid) some whole (ap length same ∙ one.count) more
            (omega (arith, one.rest, ap length same)) (meter mid b room (Ok y) law.call) so_far,
        one.fills,
      )
  reads_cost (and_again C x room e before whole again) a b fills made =
      let (mid, first, last) = made_split (ReadCallLaw K) C a (Gave room (Err e) ∷ []) b made in
      let one = drawn (Err e) (reads_cost before a mid fills first).1 last.1 in
      absurd (let no : ⊥ = cc one.is in no)

  -- a copy that came to the end makes one read for each S bytes, rounded up, and one more
  pub copy_cost : {W : Type 0} {I : Writer W} {a b : R} {old new : W} (reply : Result ℕ Error) → FillsRoom K a
      → Copied K I S a old reply b new → OnOk reply (cost b ≡ cost a + (div_ceil (length (bytes_left K a)) S + 1))
  copy_cost {a = a} {b} (Ok n) fills copied =
      let hands = (copied_ok copied).calls in
      let (mid, first, last) = made_split (ReadCallLaw K) hands.reads a (Gave S (Ok []) ∷ []) b hands.asked in
      let law : GaveLaw K mid S (Ok []) b = subst (λ r. GaveLaw K mid S (Ok []) r) (sym last.2) last.1 in
      let (so_far, now) = reads_cost hands.gathered a mid fills first in
      let one = drawn (Ok []) now law in
      let all = last_read S (length (bytes_left K mid)) (cost mid) some (ap (λ r. length (bytes_given r)) one.is ∙ one.count)
      (meter mid b S (Ok []) law.call) so_far in
      omega (arith, all)
  copy_cost (Err e) fills copied = tt

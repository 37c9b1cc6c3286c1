-- Sums of bytes, and what was summed up so far.
use Rattle.no_std_io2.proofs.Words.{common_steps, ◌^◌, Ok, refl, sum, Reader, ◌≡◌, ◌+◌, ◌%◌, ℕ, List, [], ◌++◌, ◌<◌, ◌≤◌, true, false}
use Rattle.no_std_io2.proofs.Words.{arith, Bool, Err, inl, inr, length, subst, event_bytes, ◌∙◌, append-nil, ap, sym, Result, WroteAll}
use Rattle.no_std_io2.proofs.{CallsAdd.{Joins, joins_modulo}, ReadsLemmas.{fetches_none, fetches_then, fetches_reads, fetches_until}}
use Rattle.no_std_io2.{proofs.{ReadsLemmas.{fetches_end, fetches_fault}, BufWriterLemmas.{AddsThrough}}, specs.declared.io.Error.{Error}}
use Rattle.no_std_io2.specs.{inner.Writers.{OfObject}, Read.{ReadFullLaw}, Reads.{Fetches}, Write.{CallAdds, RestAdds}}
use Rattle.std.proofs.lemmas.List.Sums.{sum_by-append}
use Rattle.examples.specs.{declared.summed.Summed.{Summed}, Summed.{summed_sum, Sums}}

-- A sum of no bytes is nothing, and a sum of bytes and then others is that of both.

-- sums modulo 2^64 join
pub sums_join : {W : Type 0} → Joins {W = Summed W} Sums
sums_join = joins_modulo summed_sum sum (2 ^ 64) refl (sum_by-append (λ b. b))

-- All of x was summed up through a buffer, by a `write_all` and a `flush`, if nothing was held before them.
pub sums_sent : {W : Type 0} (a m b : Summed W) (x held left last : List ℕ) → held ≡ []
    → CallAdds (AddsThrough Sums held left) a (WroteAll x (Ok tt)) m → RestAdds Sums m left (Ok tt) b last
    → summed_sum a ≡ 0 → summed_sum b % 2 ^ 64 ≡ sum x % 2 ^ 64
sums_sent a m b x held left last none (accepted, front, whole, through) (rest, split, empty, adds) zero =
    let sent_then = split ∙ ap (λ l. rest ++ l) empty ∙ append-nil rest in
    let all : x ≡ through.sent ++ rest = sym whole ∙ ap (λ h. h ++ accepted) (sym none) ∙ through.split
    ∙ ap (λ l. through.sent ++ l) sent_then in
    let joined = sums_join.more a m b through.sent rest through.adds adds in
    omega (arith, joined, zero, ap sum all)

-- the sum of the stream that a result has
pub same_sum : {W E : Type 0} {x y : Summed W} → (let r : Result (Summed W) E = Ok x in r ≡ Ok y) → summed_sum x ≡ summed_sum y
same_sum same = cc

-- What was summed up so far.

-- these bytes were read, without a fault, from the value of an object, and s is their sum
pub record SumsSoFar {X : Type 0} {V : X → Type 0} (R : (o : (x : X) × V x) → Reader (V o.0)) (old now : (x : X) × V x) (s : ℕ)
    : Type 0 where
  pub bytes : List ℕ
  pub fetched : OfObject old (λ a b. Fetches (R old) a bytes (Ok true) b) now
  pub is : s % 2 ^ 64 ≡ sum bytes % 2 ^ 64

module _ {X : Type 0} {V : X → Type 0} (R : (o : (x : X) × V x) → Reader (V o.0)) (same : (x : X) (a b : V x) → R (x, a) ≡ R (x, b)) where
  -- at the start none
  pub sums_none : (old : (x : X) × V x) → SumsSoFar R old old 0
  sums_none old = record { bytes = []; fetched = (old.1, refl, fetches_none refl); is = refl }

  -- calls on the value of an object, and then others
  pub then_fetched : (old mid : (x : X) × V x) (value : V mid.0) {x y : List ℕ} {how : Result Bool Error}
      → OfObject old (λ a b. Fetches (R old) a x (Ok true) b) mid → Fetches (R mid) mid.1 y how value
      → OfObject old (λ a b. Fetches (R old) a (x ++ y) how b) (mid.0, value)
  then_fetched old mid value {x} {y} {how} (v, is, f) g =
      subst (λ m. (w : V m.0) → Fetches (R m) m.1 y how w → OfObject old (λ a b. Fetches (R old) a (x ++ y) how b) (m.0, w)) (sym is)
      (λ w h. (w, refl, fetches_then f (subst (λ I. Fetches I v y how w) (same old.0 v old.1) h))) value g

-- and then these
pub sums_more : (s t : ℕ) (bytes x : List ℕ) → s % 2 ^ 64 ≡ sum bytes % 2 ^ 64 → t % 2 ^ 64 ≡ (s + sum x) % 2 ^ 64
    → t % 2 ^ 64 ≡ sum (bytes ++ x) % 2 ^ 64
sums_more s t bytes x before next = omega (arith, before, next, sum_by-append (λ b. b) bytes x)

module _ {X : Type 0} {R : Reader X} {a b : X} {buf buf' : List ℕ} {n : ℕ} where
  -- the calls of a `read_full` that filled the buffer
  pub fetched_full : {u : Unit {0}} (law : ReadFullLaw R a buf 0 (Ok u) buf' n b) → length buf ≤ n
      → Fetches R a (event_bytes law.taken) (Ok true) b
  fetched_full law full = grind (arith, common_steps, fetches_reads)

  -- of one that met the end
  pub fetched_end : {u : Unit {0}} (law : ReadFullLaw R a buf 0 (Ok u) buf' n b) → n < length buf
      → Fetches R a (event_bytes law.taken) (Ok false) b
  fetched_end law few = elim law.calls.are [
    | inl whole ↦ absurd (omega (arith, law.counts, few, whole.1))
    | inr end ↦ fetches_until (Ok false) b (λ c at room into read. fetches_end room read into.1) end law.calls.made
  ]

  -- and of one that met a fault
  pub fetched_fault : {e : Error} (law : ReadFullLaw R a buf 0 (Err e) buf' n b) → Fetches R a (event_bytes law.taken) (Err e) b
  fetched_fault {e} law =
      fetches_until (Err e) b (λ c at room into read. fetches_fault room read law.calls.are.0) law.calls.are.1 law.calls.made

-- What the reads of `open` give of known bytes.
use Rattle.no_std_io2.proofs.Words.{◌≡◌, ℕ, ◌+◌, ◌<◌, ◌≤◌, ◌^◌, List, [], ◌∷◌, ◌++◌, length, take, drop, refl, sym, ap, subst, ◌∙◌, arith}
use Rattle.no_std_io2.proofs.Words.{append_assoc, append-nil, length-append, length-drop, length-take-le, take-append-drop, Some}
use Rattle.no_std_io2.proofs.Words.{common_steps, cases_lt, inl, inr, Result, Err, Event, event_bytes, events_of, HasNoFault, fails}
use Rattle.no_std_io2.proofs.Words.{to_come, Reader, tells, ReaderState, Takes, Option, take-append_seam, Ok, true, false, Bool}
use Rattle.no_std_io2.proofs.{KnownBytes.{full_known}, TakesLemmas.{left_of, HasNoFault-front, HasNoFault-behind, HasNoFault-events_of}}
use Rattle.no_std_io2.proofs.{TakesLemmas.{bytes-append, bytes-events_of, events_of-append}, ReadsLemmas.{fetches_then, fetches_reads}}
use Rattle.no_std_io2.{proofs.ReadsLemmas.{fetches_until, fetches_end, fetches_fault}, specs.declared.io.Error.{Error}}
use Rattle.no_std_io2.specs.{inner.Events.{EndsInFault}, Read.{ReadFullLaw}}
use Rattle.std.{proofs.{Math.Seq.{take-length, take-add}, lemmas.List.{drop-drop, Sums.{fold-append}}}, specs.{Prelude.{true}, List.{fold}}}
use Rattle.std.specs.Int.{w32, from_le_bytes}
use Rattle.record_log.specs.Records.{add_number, start, header, check_of, record_of, log_of, AreShort, HasNoRecord}
use Rattle.record_log.specs.Opening.{GivesPiece, AddsPiece, PassesRecord, PassesRecords, FetchesSome}
use Rattle.record_log.proofs.RecordLemmas.{told_record, log-append, AreShort-append}

module _ {a b : ReaderState} (x : List ℕ) (told : to_come a ≡ Some (events_of x)) {P : List Event} (takes : Takes a P b) where
  -- no fault comes
  no_fault_in : {e : Error} → EndsInFault P e → ⊥
  no_fault_in {e} fault =
      let (after, still, split) = left_of takes told in
      let clean = HasNoFault-front P after (subst HasNoFault split (HasNoFault-events_of x)) in
      let last = HasNoFault-behind fault.0 (fails e ∷ []) (subst HasNoFault fault.1 clean) in
      let no : ⊥ = cc (last.0, fault.3) in no

  -- no more bytes were taken than these
  few_in : length (event_bytes P) ≤ length x
  few_in = grind (arith, common_steps, left_of takes told, bytes-events_of x, bytes-append P, length-append (event_bytes P))

module _ {X : Type 0} {R : Reader X} {old new : X} {buf buf' : List ℕ} {filled : ℕ} (bytes : List ℕ)
    (told : to_come (tells R old) ≡ Some (events_of bytes)) where
  -- a `read_full` of known bytes does not fail
  pub piece_comes : (e : Error) → ReadFullLaw R old buf 0 (Err e) buf' filled new → ⊥
  piece_comes e law = no_fault_in bytes told law.takes law.ends.0

  -- of enough bytes it fills the piece
  enough : (reply : Result (Unit {0}) Error) → ReadFullLaw R old buf 0 reply buf' filled new → length buf' ≡ length buf
      → length buf' ≤ length bytes → (filled ≡ length buf') × GivesPiece bytes true buf' (to_come (tells R new))
  enough reply law same le =
      let n = length buf' in
      let long : length (take n bytes) ≡ n = length-take-le n bytes le in
      let split : events_of bytes ≡ events_of (take n bytes) ++ events_of (drop n bytes) =
      ap events_of (sym (take-append-drop n bytes)) ∙ events_of-append (take n bytes) (drop n bytes) in
      let known = full_known reply (take n bytes) (events_of (drop n bytes)) law (omega (arith, long, same)) (told ∙ ap Some split) in
      let all : filled ≡ n = omega (arith, known.1, long) in
      (all, (le, sym (take-length buf') ∙ ap (λ m. take m buf') (sym all) ∙ known.2, known.3))

  pub piece_full : (reply : Result (Unit {0}) Error) → ReadFullLaw R old buf 0 reply buf' filled new → length buf' ≡ length buf
      → length buf' ≤ filled → GivesPiece bytes true buf' (to_come (tells R new))
  piece_full reply law same le =
      (enough reply law same (omega (arith, le, law.counts, few_in bytes told law.takes))).1

  -- it is not full if they were too few
  pub piece_short : (reply : Result (Unit {0}) Error) → ReadFullLaw R old buf 0 reply buf' filled new → length buf' ≡ length buf
      → filled < length buf' → length bytes < length buf'
  piece_short reply law same less = grind (arith, enough reply law same, cases_lt (length bytes) (length buf'))

module _ {X : Type 0} {R : Reader X} where
  -- one read after another
  pub some_then : {a b c : X} {how : Result Bool Error} → FetchesSome R a (Ok true) b → FetchesSome R b how c → FetchesSome R a how c
  some_then first next = (first.0 ++ next.0, fetches_then first.1 next.1)

  module _ {a b : X} {buf buf' : List ℕ} {n : ℕ} where
    -- a `read_full` that filled a piece
    pub some_full : {u : Unit {0}} (law : ReadFullLaw R a buf 0 (Ok u) buf' n b) → length buf ≤ n → FetchesSome R a (Ok true) b
    some_full law full = elim law.calls.are [
      | inl whole ↦ (_, fetches_reads whole.0 b law.calls.made)
      | inr end ↦ absurd (omega (arith, law.counts, full, end.3.0, end.3.1))
    ]

    -- one that met the end
    pub some_short : {u : Unit {0}} (law : ReadFullLaw R a buf 0 (Ok u) buf' n b) → n < length buf → FetchesSome R a (Ok false) b
    some_short law few = elim law.calls.are [
      | inl whole ↦ absurd (omega (arith, law.counts, few, whole.1))
      | inr end ↦ (_, fetches_until (Ok false) b (λ c at room into read. fetches_end room read into.1) end law.calls.made)
    ]

    -- and one that met a fault
    pub some_fault : {e : Error} → ReadFullLaw R a buf 0 (Err e) buf' n b → FetchesSome R a (Err e) b
    some_fault {e} law =
        (_, fetches_until (Err e) b (λ c at room into read. fetches_fault room read law.calls.are.0) law.calls.are.1 law.calls.made)

-- one piece, and then the next
pub adds_more : (bytes : List ℕ) (k n m check sum next : ℕ) {o p : Option (List Event)} → AddsPiece bytes k check (Some sum) o
    → AddsPiece (drop k bytes) n sum (Some next) p → m ≡ k + n → AddsPiece bytes m check (Some next) p
adds_more bytes k n m check sum next {p = p} first more is =
    grind (arith, common_steps, length-drop k bytes, fold-append add_number check, take-add k n bytes, drop-drop n k bytes)

module _ (bytes head p rest : List ℕ) (is : head ≡ take 8 bytes) (begins : bytes ≡ record_of p ++ rest) where
  -- what is at the front of a record
  head_is : head ≡ header (length p) (check_of p)
  head_is = is ∙ ap (take 8) begins

  head_len : length p < 2 ^ 32 → from_le_bytes w32 (take 4 head) ≡ length p
  head_len small = ap (λ l. from_le_bytes w32 (take 4 l)) head_is ∙ told_record p [] small

  behind_head : drop 8 bytes ≡ p ++ rest
  behind_head = ap (drop 8) begins

module _ (bytes head : List ℕ) (len : ℕ) (is : head ≡ take 8 bytes) (says : len ≡ from_le_bytes w32 (take 4 head)) where
  -- nor is a header with fewer bytes behind it than it says
  pub none_behind : length (drop 8 bytes) < len → HasNoRecord bytes
  none_behind few = λ p rest small begins.
      grind (arith, common_steps, head_len bytes head p rest is begins small, behind_head bytes head p rest is begins, length-append p rest)

  module _ (check : ℕ) (sum : check ≡ fold add_number (start len) (take len (drop 8 bytes))) where
    -- nor one whose check is another
    pub none_checked : (head ≡ header len check → ⊥) → HasNoRecord bytes
    none_checked other = λ p rest small begins. grind (
      arith,
      common_steps,
      head_len bytes head p rest is begins small,
      behind_head bytes head p rest is begins,
      head_is bytes head p rest is begins,
      take-append_seam p rest,
    )

    -- and else it is one
    pub one_checked : {o : Option (List Event)} (n : ℕ) → len < 2 ^ 32 → len ≤ length (drop 8 bytes) → head ≡ header len check → n ≡ 8 + len
        → o ≡ Some (events_of (drop len (drop 8 bytes))) → PassesRecord bytes (Some n) o
    one_checked n small le same counts left =
        let p = take len (drop 8 bytes) in
        let long : length p ≡ len = length-take-le len (drop 8 bytes) le in (
          p,
          drop len (drop 8 bytes),
          omega (arith, small, long),
          grind (arith, common_steps, append_assoc, take-append-drop 8 bytes, take-append-drop len (drop 8 bytes), sum, is, same, long),
          omega (arith, counts, long),
          left,
        )

-- Whole records were passed, and these bytes are to come.
pub record Passed (bytes : List ℕ) (end : ℕ) (left : Option (List Event)) : Type 0 where
  pub payloads : List (List ℕ)
  pub rest : List ℕ
  pub short : AreShort payloads
  pub split : bytes ≡ log_of payloads ++ rest
  pub counts : end ≡ length (log_of payloads)
  pub still : left ≡ Some (events_of rest)

-- none yet
pub passed_none : (bytes : List ℕ) {o : Option (List Event)} → o ≡ Some (events_of bytes) → Passed bytes 0 o
passed_none bytes told = record { payloads = []; rest = bytes; short = tt; split = refl; counts = refl; still = told }

-- one more
pub passed_more : (bytes : List ℕ) (end n sum : ℕ) {o p : Option (List Event)} (s : Passed bytes end o) → length bytes < 2 ^ 64
    → PassesRecord s.rest (Some n) p → (end + n < 2 ^ 64 → sum ≡ end + n) → Passed bytes sum p
passed_more bytes end n sum s fits (payload, rest, small, is, long, left) adds =
    let log : log_of (s.payloads ++ payload ∷ []) ≡ log_of s.payloads ++ record_of payload =
    log-append s.payloads (payload ∷ []) ∙ ap (λ l. log_of s.payloads ++ l) (append-nil (record_of payload)) in
    let size : length (log_of (s.payloads ++ payload ∷ [])) ≡ end + n =
    omega (arith, ap length log, length-append (log_of s.payloads) (record_of payload), s.counts, long) in
    let split : bytes ≡ log_of (s.payloads ++ payload ∷ []) ++ rest = grind (arith, common_steps, append_assoc, s.split) in record {
      payloads = s.payloads ++ payload ∷ [];
      rest = rest;
      short = AreShort-append s.payloads (payload ∷ []) s.short (small, tt);
      split = split;
      counts = adds (omega (arith, fits, size, ap length split, length-append (log_of (s.payloads ++ payload ∷ [])) rest)) ∙ sym size;
      still = left;
    }

-- and these were all
pub passed_all : (bytes : List ℕ) (end : ℕ) {o : Option (List Event)} (s : Passed bytes end o) → HasNoRecord s.rest
    → PassesRecords bytes end
passed_all bytes end s none = (s.payloads, s.rest, record { short = s.short; bytes = s.split; none = none }, s.counts)

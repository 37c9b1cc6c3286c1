-- For `adaptors`: a `Take` at its limit, and the calls of a `Chain`.
use Rattle.std.proofs.{lemmas.{Grind.{common_steps}, Str.{IsUtf8-nil}}, Common.{IsUtf8, String, string_bytes, string_len, string_capacity}}
use Rattle.no_std_io2.proofs.Words.{◌+◌, ◌≡◌, ℕ, ◌<◌, ◌⊎◌, List, [], ◌∷◌, ◌++◌, Result, Ok, Err, OnOk, IfOk, IfErr, length, refl, sym, ap}
use Rattle.no_std_io2.proofs.Words.{subst, ◌∙◌, arith, inl, inr, append-nil, Vec, Event, event_bytes, Reader, ReadCall, Filled, ReadCallLaw}
use Rattle.no_std_io2.proofs.{Words.{tells, newline, Made}, CallsLemmas.{made_split}, CallsAdd.{piece_adds, EachAdds}}
use Rattle.no_std_io2.proofs.{LimitLemmas.{limit_reader, limit_each, limit_exact}, ToEndLemmas.{chain_reader}}
use Rattle.no_std_io2.specs.{declared.io.{Error.{Error}, Take.{Take}}, Errors.{IsUnexpectedEnd}, inner.{Events.{cut}, Read.{FillCalls}}}
use Rattle.no_std_io2.specs.inner.{Read.{gave_whole}, Lines.{AnswersLine}, Pieces.{PieceCalls, PieceEnds}, Take.{limit_left, LimitTakes}}
use Rattle.no_std_io2.specs.{inner.Chain.{InTurn}, Calls.{GaveExactly, ByCalls}, Read.{ReadExactLaw}, BufRead.{ReadUntilLaw, ReadLineLaw}}

-- For `adaptors`: at limit 0 a `Take` gives nothing, over every reader.

-- nothing is taken
pub took_nothing : {T : Type 0} {inner : Reader T} {old new : Take T} {P : List Event} → LimitTakes inner old P new → limit_left old ≡ 0
    → P ≡ []
took_nothing {P = P} took low = sym took.within ∙ ap (λ k. cut k P) low

module _ {T : Type 0} (inner : Reader T) where
  -- a call changes nothing
  still : (a b : Take T) (call : ReadCall) → ReadCallLaw (limit_reader inner) a call b → limit_left a ≡ 0 → b ≡ a
  still a b call law low = grind (arith, common_steps)

  stands : (C : List ReadCall) (a b : Take T) → Made (ReadCallLaw (limit_reader inner)) a C b → limit_left a ≡ 0 → b ≡ a
  stands [] a b made low = made
  stands (call ∷ C) a b made low =
      let first = still a made.0 call made.1 low in stands C made.0 b made.2 (ap limit_left first ∙ low) ∙ first

  -- so each call is made at limit 0
  last_call : (C : List ReadCall) (call : ReadCall) (a b : Take T) → Made (ReadCallLaw (limit_reader inner)) a (C ++ call ∷ []) b
      → limit_left a ≡ 0 → (c : Take T) × (d : Take T) × (limit_left c ≡ 0) × ReadCallLaw (limit_reader inner) c call d
  last_call C call a b made low =
      let parts = made_split (ReadCallLaw (limit_reader inner)) C a (call ∷ []) b made in
      (parts.0, parts.2.0, ap limit_left (stands C a parts.0 parts.1 low) ∙ low, parts.2.1)

  -- the reads of a `read_exact` meet the end
  fill_at_limit : (C : List ReadCall) (buf : List ℕ) (old new : Take T) (e : Error) → Made (ReadCallLaw (limit_reader inner)) old C new
      → FillCalls C (Err e) buf → limit_left old ≡ 0 → IsUnexpectedEnd e
  fill_at_limit C buf old new e made calls low = grind (arith, common_steps, last_call, limit_reader)

  pub exact_at_limit : {old new : Take T} {buf buf' : List ℕ} (reply : Result (Unit {0}) Error)
      → ReadExactLaw (limit_reader inner) old buf reply buf' new → limit_left old ≡ 0 → OnOk reply (buf' ≡ []) × IfErr reply IsUnexpectedEnd
  exact_at_limit (Ok u) law low =
      let took = limit_exact (Ok u) law in (sym took.1 ∙ ap event_bytes (took_nothing took.2 low), tt)
  exact_at_limit {old} {new} {buf' = buf'} (Err e) law low = (tt, by law.calls.calls law.calls.made law.calls.are)
    where
      by : (C : List ReadCall) → Made (ReadCallLaw (limit_reader inner)) old C new
          → (C ≡ GaveExactly (length buf') (gave_whole (Err e) buf') ∷ []) ⊎ FillCalls C (Err e) buf' → IsUnexpectedEnd e
      by C made (inl is) = absurd (subst (λ K. Made (ReadCallLaw (limit_reader inner)) old K new) is made).1.0
      by C made (inr calls) = fill_at_limit C buf' old new e made calls low

module _ {T : Type 0} (inner : Reader T) where
  -- a `fill_buf` at limit 0 lends nothing
  lends_nothing : (C : List ReadCall) (old new : Take T) (answer : Result (List ℕ) Error)
      → Made (ReadCallLaw (limit_reader inner)) old (C ++ Filled answer ∷ []) new → limit_left old ≡ 0 → answer ≡ Ok []
  lends_nothing C old new answer made low =
      let last = last_call inner C (Filled answer) old new
      made low in
      last.3.call.1 last.2

  -- so no piece is taken
  pub piece_at_limit : {old new : Take T} (d : ℕ) {x : List ℕ} (read : Result ℕ Error)
      → ByCalls (ReadCallLaw (limit_reader inner)) old (λ C. PieceCalls (Unit {0}) d C x read) new → limit_left old ≡ 0
      → IfErr read (λ _. ⊥) × (x ≡ [])
  piece_at_limit {old} {new} d {x} (Ok n) m low =
      let took = piece_adds (limit_each {inner = inner}) (Unit {0}) d
      (Ok n) old new m in
      (tt, nothing x (sym took.1 ∙ ap (λ P. length (event_bytes P)) (took_nothing took.2 low)))
    where
      nothing : (x : List ℕ) → length x ≡ 0 → x ≡ []
      nothing [] none = refl
      nothing (b ∷ x) none = absurd (omega (arith, none))
  piece_at_limit {old} {new} d (Err e) m low = absurd (elim m.are.2 [
    | inl fault ↦
        let is = lends_nothing m.are.0 old new (Err e) (subst (λ K. Made (ReadCallLaw (limit_reader inner)) old K new) fault.1
        m.made) low in
        let no : ⊥ = cc in no
    | inr refused ↦
        let lent = refused.2 in
        let is = lends_nothing m.are.0 old new (Ok lent)
        (subst (λ K. Made (ReadCallLaw (limit_reader inner)) old K new) refused.4 m.made) low in
        let none : lent ≡ [] = cc in
        let no : ⊥ = omega (arith, refused.3, ap length none) in no
  ])

  pub until_at_limit : {A : Type 0} {old new : Take T} {d : ℕ} {buf buf' : Vec ℕ A} (reply : Result ℕ Error)
      → ReadUntilLaw (limit_reader inner) old d buf reply buf' new → limit_left old ≡ 0 → reply ≡ Ok 0
  until_at_limit (Ok n) law low = ap Ok (law.ends.1 ∙ ap length (piece_at_limit _ (Ok n) law.calls low).1)
  until_at_limit (Err e) law low = absurd (piece_at_limit _ (Err e) law.calls low).0

  -- an empty line is appended, which needs no room
  pub line_at_limit : {A : Type 0} {old new : Take T} {buf buf' : String A} (reply : Result ℕ Error)
      → ReadLineLaw (limit_reader inner) old buf reply buf' new → limit_left old ≡ 0 → (reply ≡ Ok 0)
      × (string_bytes buf' ≡ string_bytes buf)
  line_at_limit {old = old} {buf = buf} {buf'} reply law low =
      let (ok, none) = piece_at_limit _ law.read law.calls low in
      by reply law.read (event_bytes law.taken) none ok (counts law.read law.ends) law.answers
    where
      counts : (read : Result ℕ Error)
          → PieceEnds (λ n. string_capacity buf < string_len buf + n) newline (tells (limit_reader inner) old) law.taken read
          → IfOk read (λ n. n ≡ length (event_bytes law.taken))
      counts (Ok n) ends = ends.1
      counts (Err e) ends = tt

      by : (reply read : Result ℕ Error) (line : List ℕ) → line ≡ [] → IfErr read (λ _. ⊥) → IfOk read (λ n. n ≡ length line)
          → AnswersLine line read reply (string_bytes buf) (string_bytes buf')
          → (reply ≡ Ok 0) × (string_bytes buf' ≡ string_bytes buf)
      by (Ok m) (Ok n) line none ok count answers = (
        ap Ok (answers.1 ∙ count ∙ ap length none),
        answers.0.1 ∙ ap (λ l. string_bytes buf ++ l) none ∙ append-nil (string_bytes buf),
      )
      by (Err e) (Ok n) line none ok count answers = absurd (answers.0 (subst IsUtf8 (sym none) IsUtf8-nil))
      by reply (Err f) line none ok count answers = absurd ok

-- For `adaptors`: the calls of a `Chain` use one reader after the other.

module _ {T U : Type 0} where
  -- Each call does. So `exact_adds (chain_each R S)` proves this for a `read_exact`, and the other calls are
  -- as for `limit_each`.
  pub chain_each : (R : Reader T) (S : Reader U) → EachAdds (ReadCallLaw (chain_reader R S)) (λ old x new. InTurn old new)
  chain_each R S = grind (arith, common_steps)

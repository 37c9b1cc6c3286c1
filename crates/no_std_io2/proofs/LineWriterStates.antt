-- What a line writer holds after each call.
use Rattle.no_std_io2.proofs.Words.{common_steps, ◌≡◌, ℕ, ◌+◌, ◌-◌, ◌<◌, ◌≤◌, List, ◌++◌, length, take, drop, refl, ap, ◌∙◌, arith}
use Rattle.no_std_io2.proofs.Words.{length-take, length-drop, length-append, subst, take-append-drop, nat_tests, newline, IsLineState}
use Rattle.no_std_io2.proofs.Words.{lines_len, lines_of, unfinished_line, [], ◌⊎◌, Stepped, CallOf, Writer, WriteCall, Wrote, Writes}
use Rattle.no_std_io2.proofs.Words.{no_write, write_took, write_again, write_stuck, write_fault, AllCalls, ◌==◌, Result, Ok, OnOk, IsOk}
use Rattle.no_std_io2.proofs.Words.{IfOk, sym, if◌then◌else◌, inl, inr, IsSuffix, Then, first_stops, first_goes_on, SendCalls, RoomCalls}
use Rattle.no_std_io2.proofs.Words.{Buffered, WriteCalls, WriteAllCalls, FlushCalls, SendLinesCalls, LineWriteCalls, LineWriteAllCalls}
use Rattle.no_std_io2.proofs.{BufWriterLemmas.{IsSuffix-trans}, BufWriterCalls.{buffered_fits, write_whole}}
use Rattle.no_std_io2.specs.inner.LineWriter.{held_tail, lines_or_all, SendLineCalls, HoldsTail, LinesCalls, IsShortText}
use Rattle.std.{proofs.lemmas.List.{take_min}, specs.Io.BufRead.{ends_with_byte}}
use lib.Seq.{take-add}
use Rattle.no_std_io2_base.{specs.{inner.Pieces.{Lacks}, declared.error.Error.{Error}}, proofs.LineLemmas.{lines_split, lines_bound}}
use Rattle.no_std_io2_base.proofs.LineLemmas.{lines_end, lacks_lines, unfinished_lacks, plain_state, state_rest, take_lines, drop_lines}
use Rattle.no_std_io2_base.proofs.LineLemmas.{lines_some, unfinished_none, lacks_contains, contains_lines, lacks_rest}
use Rattle.no_std_io2_base.proofs.{CallsLemmas.{by_call, writes_whole}, MovesLemmas.{after_ok}, PieceLemmas.{Lacks-append}}
use Rattle.no_std_io2_base.proofs.PieceLemmas.{ends_with_byte-append}

-- The bytes that a line writer holds of those that its inner writer left (`held_tail`). For the `write` of a `LineWriter`.

-- what follows all lines has no newline
behind_state : (S : ℕ) (x : List ℕ) (n : ℕ) → lines_len x ≤ n → IsLineState (take S (drop n x))
behind_state S x n all =
    let is : drop (n - lines_len x) (unfinished_line x) ≡ drop n x = grind (arith, common_steps, drop_lines x refl) in
    let plain : Lacks newline (take S (drop (n - lines_len x) (unfinished_line x))) = grind (arith, common_steps, unfinished_lacks x) in
    plain_state (take S (drop n x)) (subst (λ l. Lacks newline (take S l)) is plain)

-- the lines without their first n bytes
pub lines_rest : (x : List ℕ) (n : ℕ) → n ≤ lines_len x → take (lines_len x - n) (drop n x) ≡ drop n (lines_of x)
lines_rest x n within = subst (λ l. take (lines_len x - n) (drop n l) ≡ drop n (lines_of x)) (lines_split x) (grind (arith, common_steps))

-- what is left of the lines is a line state
rest_state : (x : List ℕ) (n : ℕ) → 0 < lines_len x → IsLineState (drop n (lines_of x))
rest_state x n some =
    let lines = lines_of x in
    state_rest (take n lines) (drop n lines) (λ has. ap (ends_with_byte newline) (take-append-drop n lines) ∙ lines_end x some)

-- nothing is held if none were taken, or all bytes
pub tail_none : (S : ℕ) (x : List ℕ) (n : ℕ) → n ≡ 0 ⊎ n ≡ length x → held_tail S x n ≡ []
tail_none S x n ends = grind (arith, nat_tests, common_steps, lines_bound x)

-- the lines among the first S bytes, or all of these, are a front
or_all_front : (S : ℕ) (l : List ℕ) → take (length (lines_or_all (take S l))) l ≡ lines_or_all (take S l)
or_all_front S l = grind (arith, common_steps, take_lines (take S l) refl, take_min, lines_bound (take S l))

-- the tail is a line state
pub tail_state : (S : ℕ) (x : List ℕ) (n : ℕ) → IsLineState (held_tail S x n)
tail_state S x n = grind (arith, nat_tests, plain_state, behind_state, lacks_lines, lines_end, rest_state)

-- the tail is a front of what follows the first n bytes
tail_front : (S : ℕ) (x : List ℕ) (n : ℕ) → take (length (held_tail S x n)) (drop n x) ≡ held_tail S x n
tail_front S x n = grind (arith, nat_tests, or_all_front, lines_rest, take_min, length-drop, length-take)

-- so bytes that were sent and the tail after them are a front of x
pub took_tail : (S : ℕ) (x : List ℕ) (n : ℕ) → take (n + length (held_tail S x n)) x ≡ take n x ++ held_tail S x n
took_tail S x n = take-add n (length (held_tail S x n)) x ∙ ap (λ l. take n x ++ l) (tail_front S x n)

-- and so no more
pub tail_fits : (S : ℕ) (x : List ℕ) (n : ℕ) → n ≤ length x → n + length (held_tail S x n) ≤ length x
tail_fits S x n within =
    let t = held_tail S x n in
    omega (arith, ap length (took_tail S x n), length-append (take n x) t, length-take n x, length-take (n + length t) x)

-- The calls of a line writer leave line states, and hold a short text without a call. For `LineWriter`: its invariant and its clauses.

-- what is left of some bytes that were sent is an end of them
pub writes_end : {text : List ℕ} {C : List WriteCall} {x left : List ℕ} {reply : Result (Unit {0}) Error}
    → Writes text C x reply left → IsSuffix x left
writes_end no_write = ([], refl)
writes_end (write_took {x = x} {left = left} {n = n} some more w) =
    IsSuffix-trans x (drop n x) left (take n x, sym (take-append-drop n x)) (writes_end w)
writes_end (write_again some interrupted w) = writes_end w
writes_end (write_stuck some says) = ([], refl)
writes_end (write_fault some is) = ([], refl)

-- the end of bytes without a newline has none,
lacks_end : {whole end : List ℕ} → IsSuffix whole end → Lacks newline whole → Lacks newline end
lacks_end f plain = lacks_rest newline f.0 _ (subst (Lacks newline) f.1 plain)

-- and the end of a line state is one
pub state_end : {whole end : List ℕ} → IsSuffix whole end → IsLineState whole → IsLineState end
state_end f line = state_rest f.0 _ (subst IsLineState f.1 line)

-- no bytes have no newline,
nothing_lacks : {xs : List ℕ} → xs ≡ [] → Lacks newline xs
nothing_lacks none = subst (Lacks newline) (sym none) tt

-- and are a line state
nothing_state : {xs : List ℕ} → xs ≡ [] → IsLineState xs
nothing_state none = plain_state _ (nothing_lacks none)

-- what making room leaves of the held bytes is an end of them,
room_end : (S n : ℕ) {held left : List ℕ} {C : List WriteCall} {reply : Result (Unit {0}) Error} → RoomCalls S n held C reply left
    → IsSuffix held left
room_end S n {left = left} way = grind (arith, common_steps, writes_end)

-- a line that is held is sent
abbrev pub line_left : List ℕ → List ℕ
line_left held = if lines_len held == 0 then held else []

-- of a line state that is what follows its lines
pub line_left-is : (held : List ℕ) → IsLineState held → line_left held ≡ unfinished_line held
line_left-is held line = grind (arith, common_steps, lines_split held, unfinished_none held, contains_lines held refl)

-- and what is left then has no newline
send_line_plain : {held left : List ℕ} {C : List WriteCall} → SendLineCalls held C (Ok tt) left → Lacks newline left
send_line_plain {left = left} sends = grind (arith, common_steps, nothing_lacks, writes_whole)

-- and so is what the sending of a held line leaves
send_line_end : {held left : List ℕ} {C : List WriteCall} {reply : Result (Unit {0}) Error} → SendLineCalls held C reply left
    → IsSuffix held left
send_line_end {left = left} sends = grind (arith, common_steps, writes_end)

-- no line is held: none is sent
no_line_sent : {held left : List ℕ} {C : List WriteCall} {reply : Result (Unit {0}) Error} → SendLineCalls held C reply left
    → Lacks newline held → (C ≡ []) × (reply ≡ Ok tt) × (left ≡ held)
no_line_sent {held} sends plain = grind (arith, common_steps, lacks_contains)

module _ {A : Type 0} (S : ℕ) (x : List ℕ) (v : A) (past : List WriteCall → Result A Error → Type 0) where
  -- if neither the held bytes nor x have a newline, the buffer has none after x went through it
  buffered_plain : {held left : List ℕ} {C : List WriteCall} {reply : Result A Error} → Buffered S x v past held C reply left
      → Lacks newline held → Lacks newline x → Lacks newline left
  buffered_plain (first_stops way) p q = lacks_end (room_end S (length x) way) p
  buffered_plain (first_goes_on {mid = mid} {left = left} way put) p q = elim put [
    | inl kept ↦ subst (Lacks newline) (sym kept.3) (Lacks-append newline mid x (lacks_end (room_end S (length x) way) p) q)
    | inr gone ↦ nothing_lacks gone.1.1
  ]

  -- and if x ends in one, the buffer is a line state
  buffered_line : {held left : List ℕ} {C : List WriteCall} {reply : Result A Error} → Buffered S x v past held C reply left
      → IsLineState held → ((front : List ℕ) → IsLineState (front ++ x)) → IsLineState left
  buffered_line (first_stops way) p q = state_end (room_end S (length x) way) p
  buffered_line (first_goes_on {mid = mid} {left = left} way put) p q = elim put [
    | inl kept ↦ subst IsLineState (sym kept.3) (q mid)
    | inr gone ↦ nothing_state gone.1.1
  ]

  -- a text without a newline leaves a line state, and none of it after an `Ok`
  text_state : {held left : List ℕ} {C : List WriteCall} {reply : Result A Error}
      → Then SendLineCalls (Buffered S x v past) held C reply left → IsLineState held → Lacks newline x
      → IsLineState left × OnOk reply (Lacks newline left)
  text_state (first_stops p) line plain = (state_end (send_line_end p) line, tt)
  text_state (first_goes_on {reply = reply} p q) line plain =
      let none = buffered_plain q (send_line_plain p) plain in (plain_state _ none, after_ok reply none)

  -- if no line is held and it fits, it is held without a call
  plain_fits : {held left : List ℕ} {C : List WriteCall} {reply : Result A Error}
      → Then SendLineCalls (Buffered S x v past) held C reply left → Lacks newline held → length x < S → length held + length x ≤ S
      → (C ≡ []) × IsOk reply × (left ≡ held ++ x)
  plain_fits {held} {left} write plain short room = grind (arith, common_steps, no_line_sent, buffered_fits)

-- one write of lines, which may take a part of them, leaves a line state
holds_state : (S : ℕ) (x : List ℕ) (answer reply : Result ℕ Error) (left : List ℕ) → HoldsTail S x answer reply left → IsLineState left
holds_state = grind (arith, common_steps, nothing_state, tail_state)

-- an inner writer that takes all returns `Ok` of the whole; then the unfinished line is held
pub tail_whole : (S : ℕ) (x : List ℕ) (answer reply : Result ℕ Error) (left : List ℕ) → answer ≡ Ok (length (lines_of x)) → 0 < lines_len x
    → HoldsTail S x answer reply left → IsOk reply × (left ≡ take S (unfinished_line x))
tail_whole S x answer reply left is some tail = grind (arith, common_steps, drop_lines x refl)

-- a `write` leaves a line state
lines_state : (S : ℕ) (x : List ℕ) {held left : List ℕ} {C : List WriteCall} {reply : Result ℕ Error}
    → Then SendCalls (LinesCalls S x) held C reply left → IsLineState held → IsLineState left
lines_state S x (first_stops p) line = state_end (writes_end p) line
lines_state S x (first_goes_on {left = left} {reply = reply} p q) line = holds_state S x q.1 reply left q.3

-- with or without lines
pub line_write_state : (S : ℕ) {x held left : List ℕ} {C : List WriteCall} {reply : Result ℕ Error} → LineWriteCalls S x held C reply left
    → IsLineState held → IsLineState left
line_write_state S {x} write line = grind (arith, common_steps, text_state, lines_state)

-- a text without a newline that is shorter than S is taken whole, or the call fails
plain_whole : (S : ℕ) {x held left : List ℕ} {C : List WriteCall} {reply : Result ℕ Error}
    → Then SendLineCalls (WriteCalls S x) held C reply left → length x < S → IfOk reply (λ n. n ≡ length x)
plain_whole = grind (arith, common_steps, write_whole)

-- a `write` takes a short text whole, or fails,
pub line_write_short : (S : ℕ) {x held left : List ℕ} {C : List WriteCall} {reply : Result ℕ Error} → LineWriteCalls S x held C reply left
    → IsShortText S x → IfOk reply (λ n. n ≡ length x)
line_write_short S {x} write short = grind (arith, common_steps, plain_whole, lacks_contains)

-- and holds it without a call if it fits
pub line_write_fits : (S : ℕ) {x held left : List ℕ} {C : List WriteCall} {reply : Result ℕ Error} → LineWriteCalls S x held C reply left
    → IsShortText S x → Lacks newline held → length held + length x ≤ S → (C ≡ []) × IsOk reply × (left ≡ held ++ x)
line_write_fits S {x} write short plain room = grind (arith, common_steps, plain_fits, lacks_contains)

-- a `flush` leaves one too
pub flush_state : {held left : List ℕ} {C : List WriteCall} {reply : Result (Unit {0}) Error} → FlushCalls held C reply left
    → IsLineState held → IsLineState left
flush_state (first_stops sent) line = state_end (writes_end sent) line
flush_state (first_goes_on {left = left} sent past) line = nothing_state past.1

-- after `Ok` of lines that are passed on, nothing is held
pub send_lines_leaves : (S : ℕ) (y : List ℕ) {held left : List ℕ} {C : List WriteCall} {reply : Result (Unit {0}) Error}
    → SendLinesCalls S y held C reply left → OnOk reply (left ≡ [])
send_lines_leaves S y {reply = reply} sends = grind (arith, common_steps, after_ok, writes_whole)

-- a line state at an error
behind_lines_state : (S : ℕ) {y held left : List ℕ} {C : List WriteCall} {reply : Result (Unit {0}) Error}
    → Then (WriteAllCalls S y) SendCalls held C reply left → IsLineState held → ((front : List ℕ) → IsLineState (front ++ y))
    → IsLineState left
behind_lines_state S {y} (first_stops w) line ended = buffered_line S y tt (λ C. AllCalls C y) w line ended
behind_lines_state S {y} (first_goes_on w s) line ended = state_end (writes_end s) (buffered_line S y tt (λ C. AllCalls C y) w line ended)

-- lines that follow other bytes end in a newline
lines_ended : (x : List ℕ) → 0 < lines_len x → (front : List ℕ) → IsLineState (front ++ lines_of x)
lines_ended x some front has = ends_with_byte-append newline front (lines_of x) some ∙ lines_end x some

-- a `write_all` has no newline left after an `Ok`, and a line state after an error
all_lines_state : (S : ℕ) (x : List ℕ) {held left : List ℕ} {C : List WriteCall} {reply : Result (Unit {0}) Error}
    → Then (SendLinesCalls S (lines_of x)) (WriteAllCalls S (unfinished_line x)) held C reply left → IsLineState held → 0 < lines_len x
    → IsLineState left × OnOk reply (Lacks newline left)
all_lines_state S x (first_stops {left = left} p) line some = (
  elim p [ inl past ↦ nothing_state past.1 | inr behind ↦ behind_lines_state S behind.1 line (lines_ended x some) ],
  tt,
)
all_lines_state S x (first_goes_on {mid = mid} {reply = reply} p q) line some =
    let empty = nothing_lacks (send_lines_leaves S (lines_of x) p) in
    let rest = unfinished_line x in
    let none = buffered_plain S rest tt (λ C. AllCalls C rest) q empty (unfinished_lacks x) in
    (plain_state _ none, after_ok reply none)

-- with or without lines
pub line_write_all_state : (S : ℕ) {x held left : List ℕ} {C : List WriteCall} {reply : Result (Unit {0}) Error}
    → LineWriteAllCalls S x held C reply left → IsLineState held → IsLineState left × OnOk reply (Lacks newline left)
line_write_all_state S {x} write line = elim write [
  | inl plain ↦ text_state S x tt (λ C. AllCalls C x) plain.1 line plain.0
  | inr lines ↦ all_lines_state S x lines.1 line (lines_some x lines.0)
]

-- a short text that fits is held without a call
pub line_write_all_fits : (S : ℕ) {x held left : List ℕ} {C : List WriteCall} {reply : Result (Unit {0}) Error}
    → LineWriteAllCalls S x held C reply left
    → IsShortText S x → Lacks newline held → length held + length x ≤ S → (C ≡ []) × IsOk reply × (left ≡ held ++ x)
line_write_all_fits S {x} write short plain room = grind (arith, common_steps, plain_fits, lacks_contains)

-- the lines were written by one call, and of what it left the tail is held
pub wrote_lines : {W : Type 0} {I : Writer W} (S : ℕ) (x : List ℕ) {len : ℕ} {answer reply : Result ℕ Error} {held left : List ℕ} {a b : W}
    → len ≡ lines_len x → CallOf I a (Wrote (take len x) answer) b → held ≡ [] → HoldsTail S x answer reply left
    → Stepped I (LinesCalls S x) a held reply left b
wrote_lines {I} S x {answer = answer} {a = a} {b = b} is law none tail =
    let lines = subst (λ y. CallOf I a (Wrote y answer) b) (take_lines x is) law in
    by_call (Wrote (lines_of x) answer) lines (none, answer, refl, tail)

-- One row more, and what became of a text that was printed to an object.
use Rattle.no_std_io2.proofs.Words.{◌≡◌, ℕ, ◌+◌, ◌<◌, ◌≤◌, ◌^◌, List, [], ◌++◌, length, take, get_or, Some, Ok, Err, inl, inr, ⊎_elim}
use Rattle.no_std_io2.proofs.Words.{common_steps, subst, arith, take_more, Option, Result, WriterState, Moves, sym, append-nil}
use Rattle.no_std_io2.proofs.Words.{length-append, told_out, with_buffer}
use Rattle.no_std_io2.proofs.{MovesLemmas.{MovesFront-whole, MovesFront-all, MovesFront-next, MovesFront-stop}, TextLemmas.{prints_fitting}}
use Rattle.no_std_io2.{proofs.{Forwards.{row_back, array}, ObjectRules.{buffered}}, specs.declared.io.{Error.{Error}, Cursor.{Cursor}}}
use Rattle.no_std_io2.specs.{declared.io.BufWriter.{BufWriter}, inner.Text.{PrintsOrRefuses, PrintsShort}}
use Rattle.no_std_io2.specs.{inner.Writers.{OfObject, PrintsByOne}, contracts.io.Cursor.{the_row as cursor-row}, Cursor.{cursor_out}}
use Rattle.no_std_io2.specs.{BufWriter.{writer_inner, writer_buffer}, Writers.{Writer}}
use Rattle.std.proofs.lemmas.Fmt.{length-decimal-le}
use Rattle.examples.specs.Tables.{row_text, table, ArePrinted, PrintsRows, StopsTable, and_row}

-- a row has at most 22 bytes
row_short : (row : ℕ × ℕ) → row.0 < 2 ^ 32 → row.1 < 2 ^ 32 → length (row_text row) ≤ 32
row_short row id value =
    let long = length-decimal-le 10 row.0 (omega arith) (omega arith) (omega arith) in
    let longer = length-decimal-le 10 row.1 (omega arith) (omega arith) (omega arith) in
    omega (arith, long, longer, length-append {A = ℕ})

module _ (rows : List (ℕ × ℕ)) (i : ℕ) (within : i < length rows) {a b c : WriterState} (so_far : Moves a (table (take i rows)) [] b) where
  -- one row more was accepted
  pub row_more : {u : Unit {0}} → PrintsShort 32 b (Some (row_text (get_or rows i (0, 0)))) (Ok u) c
      → Moves a (table (take (i + 1) rows)) [] c
  row_more {u} prints = grind (arith, common_steps, MovesFront-whole, MovesFront-next, MovesFront-all)

  -- or it was not
  pub row_stops : {e : Error} → (get_or rows i (0, 0)).0 < 2 ^ 32 → (get_or rows i (0, 0)).1 < 2 ^ 32
      → PrintsOrRefuses 32 b (Some (row_text (get_or rows i (0, 0)))) (Err e) c → StopsTable a rows e c
  row_stops {e} id value prints = ⊎_elim
      (λ moves. inl (MovesFront-stop row_text rows i (0, 0) within (MovesFront-all so_far) moves))
      (λ refused. inr (refused.0, i, within, subst (λ t. Moves a (table (take i rows)) [] t) (sym refused.1) so_far))
      (prints_fitting 32 (Err e) prints (row_short (get_or rows i (0, 0)) id value))

module _ {X : Type 0} {V : X → Type 0} (I : (o : (x : X) × V x) → Writer (V o.0)) (same : (x : X) (a b : V x) → I (x, a) ≡ I (x, b))
    (old mid : (x : X) × V x) (rows : List (ℕ × ℕ)) (i : ℕ) (within : i < length rows)
    (so_far : OfObject old (λ a b. ArePrinted (I old) a (take i rows) b) mid) where
  -- the call for the next row, as one on the object before
  call_next : {reply : Result (Unit {0}) Error} (new : (x : X) × V x) (t : Option (List ℕ))
      → OfObject mid (λ a b. PrintsByOne (I mid) 32 t a reply b) new
      → (v : V old.0) × ArePrinted (I old) old.1 (take i rows) v × OfObject (old.0, v) (λ a b. PrintsByOne (I old) 32 t a reply b) new
  call_next {reply} new t called =
      let (v, is, printed) = so_far in
      let (w, now, one) = subst (λ m. OfObject m (λ a b. PrintsByOne (I m) 32 t a reply b) new) is called in
      (v, printed, (w, now, subst (λ J. PrintsByOne J 32 t v reply w) (same old.0 v old.1) one))

  -- one row more was printed
  pub row_printed : (new : (x : X) × V x)
      → OfObject mid (λ a b. PrintsByOne (I mid) 32 (Some (row_text (get_or rows i (0, 0)))) a (Ok tt) b) new
      → OfObject old (λ a b. ArePrinted (I old) a (take (i + 1) rows) b) new
  row_printed new called =
      let (v, printed, (w, now, one)) = call_next new (Some (row_text (get_or rows i (0, 0)))) called in (
        w,
        now,
        subst (λ l. ArePrinted (I old) old.1 l w) (sym (take_more rows i (0, 0) within))
            (and_row (get_or rows i (0, 0)) printed one),
      )

  -- or its call failed
  pub row_refused : {e : Error} (new : (x : X) × V x)
      → OfObject mid (λ a b. PrintsByOne (I mid) 32 (Some (row_text (get_or rows i (0, 0)))) a (Err e) b) new
      → OfObject old (λ a b. PrintsRows (I old) rows a (Err e) b) new
  row_refused new called =
      let (v, printed, (w, now, one)) = call_next new (Some (row_text (get_or rows i (0, 0)))) called in
      (w, now, (i, v, within, printed, one))

-- what is out of the page of n bytes that comes back is out of the one behind the object
pub page_out : (n : ℕ) (w y : Cursor (List ℕ)) → (cursor-row (array n)).coded.code w ≡ (cursor-row (array n)).coded.code y
    → cursor_out (λ (a : List ℕ). a) y ≡ cursor_out (λ (a : List ℕ). a) w
page_out n w y codes = row_back (cursor-row (array n)) (λ (v : Cursor (List ℕ)). cursor_out (λ (a : List ℕ). a) v) w y codes

-- the same of a buffer of S bytes in front of a page
pub buffer_out : (n S : ℕ) (w y : BufWriter (Cursor (List ℕ)) S)
    → (buffered (cursor-row (array n)) S).coded.code w ≡ (buffered (cursor-row (array n)) S).coded.code y
    → cursor_out (λ (a : List ℕ). a) (writer_inner y) ≡ cursor_out (λ (a : List ℕ). a) (writer_inner w)
buffer_out n S w y codes = row_back (buffered (cursor-row (array n)) S)
    (λ (v : BufWriter (Cursor (List ℕ)) S). cursor_out (λ (a : List ℕ). a) (writer_inner v)) w y codes

-- and of what it holds
pub buffer_held : (n S : ℕ) (w y : BufWriter (Cursor (List ℕ)) S)
    → (buffered (cursor-row (array n)) S).coded.code w ≡ (buffered (cursor-row (array n)) S).coded.code y
    → writer_buffer y ≡ writer_buffer w
buffer_held n S w y codes =
    row_back (buffered (cursor-row (array n)) S) (λ (v : BufWriter (Cursor (List ℕ)) S). writer_buffer v) w y codes

-- a buffer that is taken off
pub taken_off : {x y z : List ℕ} → Moves (with_buffer (told_out x) y) [] [] (told_out z) → z ≡ x ++ y
taken_off {x} {y} {z} moves = grind (arith, append-nil, moves.bytes)

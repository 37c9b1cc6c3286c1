-- The lines of some bytes, and a line that goes to a text.
use Rattle.std.proofs.{lemmas.Grind.{common_steps}, Common.{◌≡◌, ◌≢◌, ℕ, ◌<◌, ◌≤◌, ◌==◌, ◌⊎◌, Bool, true, false, List, [], ◌∷◌, ◌++◌}}
use Rattle.std.proofs.Common.{length, refl, sym, ap, ◌∙◌, subst, arith, true≢false, eq-eqb, Contains, take, drop, Result, Err, String}
use Rattle.std.proofs.Common.{string_bytes, string_len, string_capacity, Vec, vec_capacity, IfErr, IsErrAnd, IsUtf8, ◌+◌, Ok, vec_len}
use Rattle.std.proofs.{Common.{le_refl, length-take-le, length-append, append-nil, ⊎_elim}, lemmas.List.{get_or_default}}
use Rattle.std.proofs.lemmas.List.Elements.{recursion_from_All, All-from_recursion, Contains-append_left, Contains-append_right}
use Rattle.std.proofs.{lemmas.Str.{IsUtf8-nil, IsUtf8-string_bytes}, Math.Seq.{take-append_seam, drop-append_seam}}
use Rattle.std.specs.{Result.{result_and}, String.{string_vec}, List.{AllByRecursion, concat}, Prelude.{filter, not}}
use Rattle.std.specs.Io.BufRead.{ends_with_byte}
use Rattle.no_std_io2_base.proofs.PieceLemmas.{pieces_are, pieces-other, ends_with_byte-append, ends_with_byte-contains}
use Rattle.no_std_io2_base.proofs.{PieceLemmas.{ends_with_byte-lacks}, PieceLoops.{PieceTaken, part_none, piece_whole, piece_faulted}}
use Rattle.no_std_io2_base.{proofs.TakesLemmas.{bytes-events_of}, specs.{BufRead.{ReadUntilLaw, ReadLineLaw}, Errors.{error_kind, IsFault}}}
use Rattle.no_std_io2_base.specs.{Events.{event_bytes, events_of, fails}, Pieces.{newline}, Read.{ConsumeLaw, ReadToEndLaw}}
use Rattle.no_std_io2_base.specs.{Read.{ReadToStringLaw}, Takes.{Reader}, declared.error.{Error.{Error}, ErrorKind.{ErrorKind}}}
use Rattle.no_std_io2_base.specs.{declared.error.ErrorKind.TheVariants.{OutOfMemory}, inner.Lines.{AnswersLine, out_of_memory}}
use Rattle.no_std_io2_base.specs.inner.Lines.{part_follows, part_invalid, IsInvalidText, Follows, lines_of, unfinished_line, lines_len}
use Rattle.no_std_io2_base.specs.inner.{Lines.{IsLineState}, Pieces.{Lacks, pieces_of, ArePieces, FindsPiece, but_last}, Read.{FilledLaw}}

-- The lines of a list of bytes, and what follows them.

-- one byte more in front: it belongs to the lines, if there are some or it is a newline; if not, to the unfinished line
abbrev JoinsEither : ℕ → List ℕ → List ℕ → List ℕ → List ℕ → Type 0
JoinsEither b lines lines' rest rest' = ((b ≡ newline ⊎ 0 < length lines) × (lines' ≡ b ∷ lines) × (rest' ≡ rest))
    ⊎ (b ≢ newline × (lines ≡ []) × (lines' ≡ []) × (rest' ≡ b ∷ rest))

abbrev JoinsLine : ℕ → List ℕ → Type 0
JoinsLine b bs = JoinsEither b (lines_of bs) (lines_of (b ∷ bs)) (unfinished_line bs) (unfinished_line (b ∷ bs))

-- so it is if b joins the first piece, by any test of a piece's end that b does not change
joins_first : (ended : List ℕ → Bool) (b : ℕ) (p : List ℕ) (ps : List (List ℕ)) (t : Bool) → ended p ≡ t → ended (b ∷ p) ≡ t
    → (t ≡ false → ps ≡ []) → 0 < length p → b ≢ newline
    → JoinsEither b (concat (filter ended (p ∷ ps))) (concat (filter ended ((b ∷ p) ∷ ps)))
    (concat (filter (λ q. not (ended q)) (p ∷ ps))) (concat (filter (λ q. not (ended q)) ((b ∷ p) ∷ ps)))
joins_first ended b p ps true is same last some other = grind (arith, common_steps)
joins_first ended b p ps false is same last some other = grind (arith, common_steps)

-- only the last piece may have no newline at its end
only_last : (c : ℕ) (p : List ℕ) (ps : List (List ℕ)) → AllByRecursion (λ q. ends_with_byte newline q ≡ true) (but_last ((c ∷ p) ∷ ps))
    → ends_with_byte newline (c ∷ p) ≡ false → ps ≡ []
only_last c p [] ended other = refl
only_last c p (q ∷ ps) ended other = absurd (true≢false (sym ended.0 ∙ other))

joins_line : (b : ℕ) (bs : List ℕ) → JoinsLine b bs
unfolding lines_of unfinished_line
joins_line b bs = by_byte (b == newline) refl
  where
    by_end : (ps : List (List ℕ)) → b ≢ newline → pieces_of newline bs ≡ ps → ArePieces newline bs ps → JoinsLine b bs
    by_end [] other is h = grind (arith, common_steps)
    by_end ([] ∷ ps) other is h = absurd (omega (arith, h.none_empty.0))
    by_end ((c ∷ p) ∷ ps) other is h =
        let last = ends_with_byte newline (c ∷ p) in
        rw (pieces-other newline b bs other, is) (joins_first (ends_with_byte newline) b (c ∷ p) ps last refl
        (ends_with_byte-append newline (b ∷ []) (c ∷ p) (omega arith)) (only_last c p ps h.ended) (omega arith) other)

    by_byte : (t : Bool) → (b == newline) ≡ t → JoinsLine b bs
    by_byte true e = grind (arith, common_steps)
    by_byte false e = by_end (pieces_of newline bs) (λ is. true≢false (sym (eq-eqb b newline is) ∙ e)) refl (pieces_are newline bs)

-- the lines and what follows them are all bytes
pub lines_split : (xs : List ℕ) → lines_of xs ++ unfinished_line xs ≡ xs
unfolding lines_of unfinished_line
lines_split [] = refl
lines_split (b ∷ bs) = grind (arith, common_steps, joins_line b bs, lines_split bs)

-- what follows the lines has no newline
pub unfinished_lacks : (xs : List ℕ) → Lacks newline (unfinished_line xs)
unfolding unfinished_line
unfinished_lacks [] = tt
unfinished_lacks (b ∷ bs) = grind (arith, common_steps, joins_line b bs, unfinished_lacks bs)

-- the lines end in a newline
pub lines_end : (xs : List ℕ) → 0 < lines_len xs → ends_with_byte newline (lines_of xs) ≡ true
unfolding lines_of
lines_end [] some = absurd (omega (arith, some))
lines_end (b ∷ bs) some = grind (arith, common_steps, joins_line b bs, lines_end bs)

-- if there is no newline, there are no lines
pub lines_none : (xs : List ℕ) → Lacks newline xs → lines_of xs ≡ []
unfolding lines_of
lines_none [] h = refl
lines_none (b ∷ bs) h = grind (arith, common_steps, joins_line b bs, lines_none bs)

pub unfinished_all : (xs : List ℕ) → Lacks newline xs → unfinished_line xs ≡ xs
unfinished_all xs h = sym (ap (λ l. l ++ unfinished_line xs) (lines_none xs h)) ∙ lines_split xs

-- the last newline ends the lines
pub lines_are : (front back : List ℕ) → Lacks newline back → lines_of (front ++ newline ∷ back) ≡ front ++ newline ∷ []
lines_are [] back h = grind (arith, common_steps, joins_line newline back, lines_none back)
lines_are (b ∷ front) back h = grind (arith, common_steps, joins_line b (front ++ newline ∷ back), lines_are front back h)

-- bytes without d have no d
pub lacks_contains : (d : ℕ) (xs : List ℕ) → Lacks d xs → Contains xs d → ⊥
lacks_contains d xs h has = All-from_recursion (λ b. b ≢ d) xs h has.0 d has.1 has.2

-- bytes that have no d are without it
pub contains_lacks : (d : ℕ) (xs : List ℕ) → (Contains xs d → ⊥) → Lacks d xs
contains_lacks d xs none = recursion_from_All (λ b. b ≢ d) xs (λ k e lt is. none (k, lt, get_or_default xs k d e lt ∙ is))

-- the end of bytes without d has none
pub lacks_rest : (d : ℕ) (front rest : List ℕ) → Lacks d (front ++ rest) → Lacks d rest
lacks_rest d [] rest h = h
lacks_rest d (b ∷ front) rest h = lacks_rest d front rest h.1

-- without lines all bytes are unfinished, and so have no newline
pub lacks_lines : (xs : List ℕ) → 0 ≡ lines_len xs → Lacks newline xs
lacks_lines xs none = subst (Lacks newline) (grind (arith, common_steps, lines_split xs)) (unfinished_lacks xs)

-- bytes with a newline have lines,
pub lines_some : (xs : List ℕ) → Contains xs newline → 0 < lines_len xs
lines_some xs has = grind (arith, common_steps, lacks_lines xs, lacks_contains newline xs)

-- and only they
pub contains_lines : (xs : List ℕ) {n : ℕ} → n ≡ lines_len xs → 0 < n → Contains xs newline
contains_lines xs is some = grind (arith, common_steps, lines_end xs, lines_split xs, Contains-append_left, ends_with_byte-contains)

-- the lines are the first bytes,
pub take_lines : (xs : List ℕ) {n : ℕ} → n ≡ lines_len xs → take n xs ≡ lines_of xs
take_lines xs is = grind (arith, common_steps, lines_split xs)

-- and the unfinished line is what follows them
pub drop_lines : (xs : List ℕ) {n : ℕ} → n ≡ lines_len xs → drop n xs ≡ unfinished_line xs
drop_lines xs is = grind (arith, common_steps, lines_split xs)

pub lines_bound : (xs : List ℕ) → lines_len xs ≤ length xs
lines_bound xs = grind (arith, common_steps, lines_split xs)

-- if the last byte is a newline, all bytes are lines
pub unfinished_none : (xs : List ℕ) → ends_with_byte newline xs ≡ true → unfinished_line xs ≡ []
unfinished_none xs last = grind (arith, common_steps, lines_split xs, unfinished_lacks xs, ends_with_byte-lacks, ends_with_byte-append)

-- bytes without a newline are a line state
pub plain_state : (xs : List ℕ) → Lacks newline xs → IsLineState xs
plain_state xs plain has = absurd (lacks_contains newline xs plain has)

-- a line state that does not end in a newline has none
pub unended_lacks : (xs : List ℕ) → IsLineState xs → ends_with_byte newline xs ≡ false → Lacks newline xs
unended_lacks xs line other = contains_lacks newline xs (λ has. true≢false (sym (line has) ∙ other))

-- the end of a line state is a line state
pub state_rest : (front rest : List ℕ) → IsLineState (front ++ rest) → IsLineState rest
state_rest front rest line has =
    sym (ends_with_byte-append newline front rest (omega (arith, has.1))) ∙ line (Contains-append_right front rest newline has)

-- What a text answers to a read.

-- memory was refused to the read
pub line_kept : (line : List ℕ) (read reply : Result ℕ Error) {old new : List ℕ} → IsErrAnd read (λ e. error_kind e ≡ OutOfMemory)
    → reply ≡ read → new ≡ old → AnswersLine line read reply old new
line_kept line (Ok n) reply memory is same = absurd memory
line_kept line (Err f) reply memory is same = rw is (refl, out_of_memory memory same)

-- the line is UTF-8
pub became : (line : List ℕ) (read : Result ℕ Error) (old : List ℕ) {new : List ℕ} → IsUtf8 line → new ≡ old ++ line
    → IfErr read (λ e. error_kind e ≡ OutOfMemory → ⊥) → AnswersLine line read read old new
became line (Ok n) old text is other = ((text, is), refl)
became line (Err f) old text is other = (refl, part_follows other (text, is))

-- it is not
pub line_refused : (line : List ℕ) (read : Result ℕ Error) (e : Error) {old new : List ℕ} → (IsUtf8 line → ⊥) → IsInvalidText e
    → IfErr read (λ f. error_kind f ≡ OutOfMemory → ⊥) → new ≡ old → AnswersLine line read (result_and read (Err e)) old new
line_refused line (Ok n) e bad invalid other same = (bad, invalid, same)
line_refused line (Err f) e bad invalid other same = (refl, part_invalid other bad same)

-- A line that goes to a string: into its memory, behind its bytes, or straight from what a reader lends.

-- what `put_back` answers
module _ {A : Type 0} (text : String A) (line : Vec ℕ A) where
  abbrev pub PutBack : Result ℕ Error → Result ℕ Error → String A → Type 0
  PutBack read reply text' = AnswersLine (drop (string_len text) line.items) read reply (take (string_len text) line.items)
      (string_bytes text')

-- bytes that were read into the memory of the text, behind its own
module _ {A : Type 0} (text : String A) (line : Vec ℕ A) (x : List ℕ) (appends : line.items ≡ string_bytes text ++ x) where
  -- the bytes of the text come first,
  front : take (string_len text) line.items ≡ string_bytes text
  front = ap (λ n. take n line.items) text.bytes.ok.0 ∙ ap (λ l. take (length (string_bytes text)) l) appends
      ∙ take-append_seam (string_bytes text) x

  pub memory_grows : string_len text ≤ vec_len line
  memory_grows = omega (arith, text.bytes.ok.0, line.ok.0, ap length appends, length-append (string_bytes text) x)

  pub memory_text : IsUtf8 (take (string_len text) line.items)
  memory_text = subst IsUtf8 (sym front) (IsUtf8-string_bytes text)

  -- and then these
  back : drop (string_len text) line.items ≡ x
  back = ap (λ n. drop n line.items) text.bytes.ok.0 ∙ ap (λ l. drop (length (string_bytes text)) l) appends
      ∙ drop-append_seam (string_bytes text) x

  answers_back : (read reply : Result ℕ Error) (text' : String A) → PutBack text line read reply text'
      → AnswersLine x read reply (string_bytes text) (string_bytes text')
  answers_back read reply text' answers =
      subst (λ l. AnswersLine l read reply (string_bytes text) (string_bytes text')) back
      (subst (λ l. AnswersLine (drop (string_len text) line.items) read reply l (string_bytes text')) front answers)

module _ {X A : Type 0} {R : Reader X} {old new : X} (text : String A) (line : Vec ℕ A) {read reply : Result ℕ Error}
    {text' : String A} where
  -- a line
  pub line_law : (until : ReadUntilLaw R old newline (string_vec text) read line new) → PutBack text line read reply text'
      → string_capacity text' ≡ vec_capacity line → ReadLineLaw R old text reply text' new
  line_law until answers room = record {
    taken = until.taken;
    takes = until.takes;
    read = read;
    ends = until.ends;
    answers = answers_back text line _ until.appends read reply text' answers;
    capacity = subst (λ n. string_capacity text ≤ n) (sym room) until.capacity;
    calls = until.calls;
  }

  -- all that is left
  pub string_law : (all : ReadToEndLaw R old (string_vec text) read line new) → PutBack text line read reply text'
      → string_capacity text' ≡ vec_capacity line → ReadToStringLaw R old text reply text' new
  string_law all answers room = record {
    taken = all.taken;
    takes = all.takes;
    read = read;
    count = all.appends.1;
    ends = all.ends;
    answers = answers_back text line _ all.appends.0 read reply text' answers;
    capacity = subst (λ n. string_capacity text ≤ n) (sym room) all.capacity;
    calls = all.calls;
  }

-- a line that was lent whole went straight to the text
pub line_at_once : {X A : Type 0} {R : Reader X} {old now new : X} {lent : List ℕ} {n : ℕ} {is_whole : Bool} {buf buf' : String A}
    → FilledLaw R old (Ok lent) now → FindsPiece newline lent n is_whole → is_whole ≡ true → ConsumeLaw R now n new → Follows (take n lent)
    (string_bytes buf) (string_bytes buf') → string_capacity buf ≤ string_capacity buf' → ReadLineLaw R old buf (Ok n) buf' new
line_at_once {R = R} {old} {lent = lent} {n} {buf = buf} {buf'} filled found whole dropped follows grown =
    let line = take n lent in
    let same = sym (bytes-events_of line) in
    let long : n ≡ length (event_bytes (events_of line)) = sym (length-take-le n lent found.within) ∙ ap length same in
    let piece : PieceTaken R (λ n. string_capacity buf < string_len buf + n) (Unit {0}) newline old (events_of line) (Ok n) _ =
    piece_whole (part_none R newline old) filled found dropped whole long in
    record {
      taken = events_of line;
      takes = piece.takes;
      read = Ok n;
      ends = piece.ends;
      answers = (subst (λ l. Follows l (string_bytes buf) (string_bytes buf')) same follows, refl);
      capacity = grown;
      calls = piece.calls;
    }

memory_or_other : (kind : ErrorKind) → (kind ≡ OutOfMemory) ⊎ (kind ≡ OutOfMemory → ⊥)
memory_or_other kind = grind (arith, common_steps)

-- before a fault no byte of a line came, and the text stays
pub line_faulted : {X A : Type 0} {R : Reader X} {old new : X} {e : Error} {buf : String A} → FilledLaw R old (Err e) new → IsFault e
    → ReadLineLaw R old buf (Err e) buf new
line_faulted {R = R} {old} {e = e} {buf} filled fault =
    let piece : PieceTaken R (λ n. string_capacity buf < string_len buf + n) (Unit {0}) newline old (fails e ∷ []) (Err e) _ =
    piece_faulted (part_none R newline old) filled fault in
    record {
      taken = fails e ∷ [];
      takes = piece.takes;
      read = Err e;
      ends = piece.ends;
      answers = (
        refl,
        ⊎_elim (λ memory. out_of_memory memory refl) (λ other. part_follows other (IsUtf8-nil, sym (append-nil (string_bytes buf))))
            (memory_or_other (error_kind e)),
      );
      capacity = le_refl _;
      calls = piece.calls;
    }

-- a text refuses only a line that has some bytes
pub line_some : {A : Type 0} (buf : String A) (line : List ℕ)
    → (string_capacity buf < string_len buf + length line) ⊎ (IsUtf8 line → ⊥) → 0 < length line
line_some buf line line_refused = grind (arith, common_steps)

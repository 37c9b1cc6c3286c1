-- One line more, in a loop that passes lines on to a writer.
use Rattle.no_std_io2.proofs.Words.{common_steps, ◌≡◌, ◌<◌, ◌≤◌, ◌+◌, ℕ, List, [], ◌∷◌, ◌++◌, Result, Ok, Err, subst, arith, Vec, concat}
use Rattle.no_std_io2.proofs.Words.{length-append, append-nil, event_bytes, newline, Reader, tells, ReaderState, WriterState, MovesFront}
use Rattle.no_std_io2.proofs.{GivenPieces.{pieces_none, pieces_more, pieces_end, stops_reading}, MovesLemmas.{Moves-refl, Moves-piece}}
use Rattle.no_std_io2.{proofs.MovesLemmas.{MovesFront-all, MovesFront-join}, specs.{BufRead.{ReadUntilLaw}, declared.io.Error.{Error}}}
use Rattle.std.{proofs.lemmas.List.Folds.{concat-append}, specs.Result.{result_and}}
use Rattle.examples.specs.Lines.{LinesPassed, PassesLines, StopsWriting, StopsAtPart}

-- before the first line
pub passed_none : (wanted : ℕ) (t : ReaderState) (told : WriterState) → LinesPassed wanted 0 t t told told
passed_none wanted t told = grind (arith, common_steps, pieces_none, Moves-refl)

module _ {X A : Type 0} {R : Reader X} {wanted n : ℕ} {old : ReaderState} {a b : WriterState} {mid new : X}
    {buf buf' : Vec ℕ A} (before : LinesPassed wanted n old (tells R mid) a b) where
  module _ {k : ℕ} (law : ReadUntilLaw R mid newline buf (Ok k) buf' new) where
    module _ (some : k ≡ 0 → ⊥) {line : List ℕ} {c : WriterState} (same : line ≡ event_bytes law.taken) where
      -- a line that the writer accepted
      pub passed_more : {u : Unit {0}} → n < wanted → MovesFront b line (Ok u) c → LinesPassed wanted (n + 1) old (tells R new) a c
      passed_more few wrote = record {
        lines = before.lines ++ event_bytes law.taken ∷ [];
        gives = pieces_more before.gives law some;
        count = omega (arith, before.count, length-append before.lines (event_bytes law.taken ∷ []));
        within = omega arith;
        moves = Moves-piece before.lines before.moves wrote same;
      }

      -- one that it did not accept whole
      pub stops_writing : {e : Error} → MovesFront b line (Err e) c → StopsWriting e old (tells R new) a c
      stops_writing {e = e} wrote = record {
        lines = before.lines ++ event_bytes law.taken ∷ [];
        gives = pieces_more before.gives law some;
        accepts = rw (concat-append before.lines (event_bytes law.taken ∷ []), append-nil (event_bytes law.taken))
            (MovesFront-join (concat before.lines) (event_bytes law.taken) (Err e) (MovesFront-all before.moves)
            (subst (λ l. MovesFront b l (Err e) c) same wrote));
      }

    -- no more lines were to come
    pub passed_all : k ≡ 0 → PassesLines wanted old (tells R new) a b n
    passed_all none = let ended = pieces_end before.gives law none in record {
      passed =
          record { lines = before.lines; gives = ended.0; count = before.count; within = before.within; moves = before.moves };
      fewer = λ less. ended.1;
    }

  -- the reading stopped, and then the part of a line was written
  pub stops_at_part : {c : WriterState} {fault e : Error} {line : List ℕ} (wrote : Result (Unit {0}) Error)
      (law : ReadUntilLaw R mid newline buf (Err fault) buf' new) → line ≡ event_bytes law.taken → MovesFront b line wrote c
      → Err e ≡ result_and {U = Unit {0}} wrote (Err fault) → StopsAtPart e old (tells R new) a c
  stops_at_part {c = c} {fault = fault} wrote law same moves is = record {
    lines = before.lines;
    part = event_bytes law.taken;
    fault = fault;
    stops = stops_reading before.gives law;
    wrote = wrote;
    accepts = MovesFront-join (concat before.lines) (event_bytes law.taken) wrote (MovesFront-all before.moves)
        (subst (λ l. MovesFront b l wrote c) same moves);
    is = is;
  }

-- as many lines as are wanted
pub passed_wanted : {wanted n : ℕ} {old new : ReaderState} {a b : WriterState} → LinesPassed wanted n old new a b → wanted ≤ n
    → PassesLines wanted old new a b n
passed_wanted passed full = record { passed = passed; fewer = λ less. absurd (omega arith) }

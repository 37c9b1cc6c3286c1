-- Cursors and disks put their bytes at their position.
use Rattle.no_std_io2.proofs.Words.{◌≡◌, ℕ, ◌+◌, ◌-◌, ◌≤◌, List, ◌++◌, length, take, drop, refl, sym, ap, ◌∙◌, arith, inl, inr, append-nil}
use Rattle.no_std_io2.proofs.Words.{length-append, cases_lt, nil_from_length, take-append_seam, Ok, Err, Wrote, WroteAll, Flushed}
use Rattle.no_std_io2.proofs.Words.{WriteCall, common_steps, length-take-le, length-take, subst, append_assoc, nat_tests, Moves, told_out}
use Rattle.no_std_io2.specs.{declared.io.{Error.{Error}, Cursor.{Cursor}}, inner.{Kinds.{is_interruption}, Write.{zero_write}}}
use Rattle.no_std_io2.specs.{inner.Cursor.{put_at, PutsMay, FitsMay, PutsFitting, fitting}, Cursor.{cursor_inner, cursor_position}}
use Rattle.std.{specs.Prelude.{count_by}, proofs.Common.{take_all, take-append-drop}}
use Rattle.record_log.specs.Placed.{IsPutAt, PutsCall}

module _ {T : Type 0} (items : T → List ℕ) (capacity : T → ℕ) where
  -- a call of a cursor over a vector
  pub vector_puts : (old new : Cursor T) (call : WriteCall) → PutsMay items capacity old call new
      → PutsCall (items (cursor_inner old)) (cursor_position old) call (items (cursor_inner new)) (cursor_position new)
  vector_puts old new (Wrote x (Ok n)) did =
      let whole : take n x ≡ x = take_all n x (omega (arith, did.0.1)) in (
        inl (did.0.2 ∙ ap (λ y. put_at (cursor_position old) y (items (cursor_inner old))) (sym whole)),
        omega (arith, did.0.3, did.0.1),
      )
  vector_puts old new (Wrote x (Err e)) did = ((0, inr (refl, did.0.2)), did.0.3)
  vector_puts old new (WroteAll x (Ok u)) did = (
    elim (cases_lt 0 (length x)) [
      | inl some ↦ inl ((did.0.0 some).1)
      | inr none ↦ let nil = nil_from_length x (omega (arith, none)) in inr (nil, did.0.1 (ap length nil))
    ],
    did.0.2,
  )
  vector_puts old new (WroteAll x (Err e)) did = (0, 0, omega arith, inr (refl, did.0.2), omega (arith, did.0.3))
  vector_puts old new (Flushed reply) did = (ap (λ c. items (cursor_inner c)) did.1, ap cursor_position did.1)

  -- a `write_all` that fails leaves it where it stood
  pub vector_near : (old new : Cursor T) (x : List ℕ) (e : Error) → PutsMay items capacity old (WroteAll x (Err e)) new
      → cursor_position new ≤ cursor_position old + length x
  vector_near old new x e did = omega (arith, did.0.3)

-- bytes that fit are put
fits_put : (bs : List ℕ) (place : ℕ) (x new : List ℕ) (place' : ℕ) → PutsFitting bs place x new place'
    → IsPutAt place (fitting place x bs) bs new
fits_put bs place x new place' did = grind (arith, common_steps, append-nil, take-append-drop)

module _ {T : Type 0} (items : T → List ℕ) where
  -- a call of a cursor over a slice
  pub slice_puts : (old new : Cursor T) (call : WriteCall) → FitsMay items old call new
      → PutsCall (items (cursor_inner old)) (cursor_position old) call (items (cursor_inner new)) (cursor_position new)
  slice_puts old new (Wrote x (Ok n)) did =
      let bs = items (cursor_inner old) in
      let place = cursor_position old in
      let part : take n x ≡ fitting place x bs = grind (arith, common_steps, did.0) in (
        subst (λ l. IsPutAt place l bs (items (cursor_inner new))) (sym part) (fits_put bs place x _ _ did.1),
        omega (arith, did.1.1, did.0, length-take (length bs - place) x),
      )
  slice_puts old new (Wrote x (Err e)) did = absurd did.0
  slice_puts old new (WroteAll x (Ok u)) did = grind (arith, common_steps, fits_put, take_all)
  slice_puts old new (WroteAll x (Err e)) did =
      let bs = items (cursor_inner old) in
      let place = cursor_position old in (
        length (fitting place x bs),
        length bs - place,
        omega (arith, length-take (length bs - place) x),
        fits_put bs place x _ _ did.puts,
        did.puts.1,
      )
  slice_puts old new (Flushed reply) did = (ap (λ c. items (cursor_inner c)) did.1, ap cursor_position did.1)

  -- a `write_all` that fails moves it behind what fits
  pub slice_near : (old new : Cursor T) (x : List ℕ) (e : Error) → FitsMay items old (WroteAll x (Err e)) new
      → cursor_position new ≤ cursor_position old + length x
  slice_near old new x e did = omega (arith, did.puts.1, length-take (length (items (cursor_inner old)) - cursor_position old) x)

-- a place within a content
pub put_there : (place : ℕ) (x old new : List ℕ) → place + length x ≤ length old
    → new ≡ take place old ++ (x ++ drop (place + length x) old) → new ≡ put_at place x old
put_there place x old new fits is = grind (arith, common_steps, append-nil)

-- what is before the place stays, and what was put goes out
pub put_before : (place : ℕ) (x old new : List ℕ) → place ≤ length old → new ≡ take place old ++ (x ++ drop (place + length x) old)
    → (take place new ≡ take place old) × (take (place + length x) new ≡ take place old ++ x)
put_before place x old new le is = grind (arith, common_steps, length-take-le place old le, take-append_seam, append_assoc, length-append)

-- no `Ok` is an interruption
no_wait : (n : ℕ) (x : List ℕ) → count_by is_interruption (zero_write n x) ≡ 0
no_wait n x = grind (arith, nat_tests)

-- what a write accepted is out
pub writes_out : (n : ℕ) (x old new : List ℕ) → new ≡ old ++ take n x → Moves (told_out old) (take n x) (zero_write n x) (told_out new)
writes_out n x old new is = grind (arith, common_steps, no_wait n x, append-nil)

-- What a tee tells, from what its two writers tell.
use Rattle.no_std_io2.proofs.{Words.{common_steps, ◌≡◌}, MovesLemmas.{Moves-trans}, CallsAdd.{write_law_by, zero_none}}
use Rattle.no_std_io2.specs.{Moves.{WriterState, Moves}, inner.Kinds.{is_interruption}, declared.io.{ErrorKind.{ErrorKind}, Error.{Error}}}
use Rattle.no_std_io2.specs.{Write.{WriteLaw, CallAdds}, BufWriter.{writer_told}, Errors.{error_kind}}
use Rattle.std.proofs.{Common.{ℕ, ◌+◌, ◌≤◌, List, [], ◌∷◌, ◌++◌, length, take, arith}, lemmas.List.{append-nil, take-take, length-take}}
use Rattle.std.specs.Prelude.{None, count_by, Ok, Err}
use Rattle.examples.specs.{declared.tee.Tee.{Tee}, Tee.{accepted_bytes, tee_told, BothAdd}}

-- what a tee tells over writers that tell f and s
abbrev pub over_both : WriterState → WriterState → WriterState
over_both f s = record { out = s.out; held = s.held; mishaps = None; turns = f.turns + s.turns }

-- the second accepted x, and the turns of both pay for what happened
pub tee_moves : {s s' : WriterState} {x : List ℕ} {k : List ErrorKind} (f f' : WriterState) {happened : List ErrorKind}
    → Moves s x k s' → f'.turns + s'.turns + count_by is_interruption happened ≤ f.turns + s.turns
    → Moves (over_both f s) x happened (over_both f' s')
tee_moves f f' m turns = record { front = m.front; bytes = m.bytes; mishaps = tt; turns = turns }

-- all bytes that a writer has accepted, after it accepted x
pub accepts : {s s' : WriterState} {x : List ℕ} {k : List ErrorKind} → Moves s x k s' → accepted_bytes s' ≡ accepted_bytes s ++ x
accepts m = m.bytes

-- The first took the first n of some first bytes, and the second all of these.
pub tee_wrote : {A B : Type 0} {S : ℕ} (a : A → WriterState) (b : B → WriterState) {old new : Tee A B S} (mid : WriterState)
    {k : List ErrorKind} (n most : ℕ) (buf : List ℕ) {x : List ℕ} → n ≤ length (take most buf)
    → Moves (a old.first) (take n (take most buf)) k (a new.first) → Moves (writer_told b old.second) [] [] mid
    → Moves mid x [] (writer_told b new.second) → x ≡ take n buf
    → WriteLaw (tee_told a b) (λ _. ⊥) (CallAdds (BothAdd a b)) old buf (Ok n) new
tee_wrote a b {old} {new} mid {k} n most buf {x} within first room second is =
    grind (arith, common_steps, length-take, take-take, Moves-trans, zero_none, accepts, write_law_by, tee_moves)

-- No room could be made in the second.
pub tee_full : {A B : Type 0} {S : ℕ} (a : A → WriterState) (b : B → WriterState) {old new : Tee A B S} (e : Error) (buf : List ℕ)
    → new.first ≡ old.first → Moves (writer_told b old.second) [] (error_kind e ∷ []) (writer_told b new.second)
    → WriteLaw (tee_told a b) (λ _. ⊥) (CallAdds (BothAdd a b)) old buf (Err e) new
tee_full a b {old} {new} e buf same room = grind (arith, common_steps, append-nil, write_law_by, tee_moves, accepts)

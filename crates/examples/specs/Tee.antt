-- What a tee tells, and what its calls do.
use Rattle.std.specs.Prelude.{◌≡◌, ℕ, ◌+◌, List, ◌++◌, None}
use Rattle.no_std_io2.specs.{Moves.{WriterState}, BufWriter.{writer_told}, declared.io.BufWriter.{BufWriter}}
use Rattle.examples.specs.declared.tee.Tee.{Tee}

-- the first writer
abbrev pub first_of : {A B : Type 0} {S : ℕ} → Tee A B S → A
first_of t = t.first

-- the second writer, with its buffer
abbrev pub second_of : {A B : Type 0} {S : ℕ} → Tee A B S → BufWriter B S
second_of t = t.second

-- all bytes that a writer has accepted
abbrev pub accepted_bytes : WriterState → List ℕ
accepted_bytes t = t.out ++ t.held

-- What a tee tells: what the second has is out, and what its buffer has is held. The turns are those of both.
abbrev pub tee_told : {A B : Type 0} {S : ℕ} → (A → WriterState) → (B → WriterState) → Tee A B S → WriterState
tee_told a b t = record {
  out = (writer_told b t.second).out;
  held = (writer_told b t.second).held;
  mishaps = None;
  turns = (a t.first).turns + (writer_told b t.second).turns;
}

-- both writers accepted these bytes
abbrev pub BothAdd : {A B : Type 0} {S : ℕ} → (A → WriterState) → (B → WriterState) → Tee A B S → List ℕ → Tee A B S → Type 0
BothAdd a b old bytes new = (accepted_bytes (a new.first) ≡ accepted_bytes (a old.first) ++ bytes)
    × (accepted_bytes (writer_told b new.second) ≡ accepted_bytes (writer_told b old.second) ++ bytes)

-- Calls of one writer, and texts that are printed to it.
use Rattle.std.specs.Prelude.{◌≡◌, ◌≤◌, ◌⊎◌, ℕ, List, length, Option, Result, IfSome, IsErrAnd}
use Rattle.no_std_io2_base.specs.{declared.error.Error.{Error}, inner.Text.{Prints, RefusesText}, Text.{WriteFmtLaw}, Calls.{WriteCall}}
use Rattle.no_std_io2_base.specs.{Write.{CallLaw}, Writers.{Writer, WriteAllOf}}

-- a call of this writer, by its law
abbrev pub CallOf : {W : Type 0} → Writer W → W → WriteCall → W → Type 0
CallOf I = CallLaw I.told I.takes_all I.may

-- From old to new this text was printed to this writer; this is the result of the last `write_all`.
abbrev pub PrintsOf : {W : Type 0} → Writer W → W → List ℕ → Result (Unit {0}) Error → W → Type 0
PrintsOf I = Prints I.told I.takes_all I.may

-- `write_fmt(text)` of this writer
abbrev pub WriteFmtOf : {W : Type 0} → Writer W → W → Option (List ℕ) → Result (Unit {0}) Error → W → Type 0
WriteFmtOf I = WriteFmtLaw I.told I.takes_all I.may

-- `print_to_object` of a text with this output: one `write_all` of a text of at most N bytes, with its result; or the text was refused, and
-- no call was made
abbrev pub PrintsByOne : {W : Type 0} → Writer W → ℕ → Option (List ℕ) → W → Result (Unit {0}) Error → W → Type 0
PrintsByOne I N output old reply new =
    ((text : List ℕ) × (length text ≤ N) × IfSome output (λ bs. text ≡ bs) × WriteAllOf I old text reply new)
    ⊎ (IsErrAnd reply (RefusesText N output) × (new ≡ old))

-- `Did` was done to the value of an object, which is afterwards a value of the same type
abbrev pub OfObject : {X : Type 0} {V : X → Type 0} → (old : (x : X) × V x) → (V old.0 → V old.0 → Type 0) → (x : X) × V x → Type 0
OfObject {X} {V} old Did new = (value : V old.0) × (new ≡ (old.0, value)) × Did old.1 value

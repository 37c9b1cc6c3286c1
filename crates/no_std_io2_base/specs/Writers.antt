-- The ghost members of one writer, I, as one value; and the laws of its calls.
use Rattle.std.specs.Prelude.{ℕ, List, Result}
use Rattle.no_std_io2_base.specs.{declared.error.Error.{Error}, declared.traits.write.Write.{Ghosts}, inner.Write.{AcceptsAll}}
use Rattle.no_std_io2_base.specs.Write.{WriteLaw, FlushLaw, WriteAllLaw, WriteRestLaw}

-- a writer, as `⟦<W as Write>⟧` and `W.Write` name it
abbrev pub Writer : Type 0 → Type 1
Writer W = Ghosts W

-- this writer takes all
abbrev pub TakesAll : {W : Type 0} → Writer W → W → Type 0
TakesAll I = AcceptsAll I.told I.takes_all

-- `write(x)` of this writer
abbrev pub WriteOf : {W : Type 0} → Writer W → W → List ℕ → Result ℕ Error → W → Type 0
WriteOf I = WriteLaw I.told I.takes_all I.may

-- `flush()` of this writer
abbrev pub FlushOf : {W : Type 0} → Writer W → W → Result (Unit {0}) Error → W → Type 0
FlushOf I = FlushLaw I.told I.takes_all I.may

-- `write_all(x)` of this writer
abbrev pub WriteAllOf : {W : Type 0} → Writer W → W → List ℕ → Result (Unit {0}) Error → W → Type 0
WriteAllOf I = WriteAllLaw I.told I.takes_all I.may

-- `write_rest(&mut x)` of this writer
abbrev pub WriteRestOf : {W : Type 0} → Writer W → W → List ℕ → Result (Unit {0}) Error → W → List ℕ → Type 0
WriteRestOf I = WriteRestLaw I.told I.takes_all I.may

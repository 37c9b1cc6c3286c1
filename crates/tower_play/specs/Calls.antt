-- The calls of a script, from its steps and its texts.
use Rattle.std.specs.Prelude.{◌≡◌, ℕ, Bool, List, [], ◌∷◌, ◌++◌, ◌+◌, ◌<◌, ◌⊎◌, length, take, drop, vec_len, vec_capacity, Some}
use Rattle.io_bench.specs.declared.runs.Op.{Op, TheVariants.{Write, WriteAll, Flush}}
use Rattle.tower_play.specs.declared.script.{Calls.{Calls}, Step.{Step, TheVariants.{Write as write_step, WriteAll as write_all_step}}}
use Rattle.tower_play.specs.{declared.script.Step.TheVariants.{Flush as flush_step}, Script.{unescaped}, Lines.{text_step}}

-- the call of a step whose text is at the front of `texts`, and the texts after it
abbrev pub IsNext : Step → List ℕ → Op → List ℕ → Type 0
IsNext (write_step n) texts (Write x) rest = (x.now ≡ take n texts) × (rest ≡ drop n texts)
IsNext (write_all_step n) texts (WriteAll x) rest = (x.now ≡ take n texts) × (rest ≡ drop n texts)
IsNext flush_step texts Flush rest = rest ≡ texts
-- a step is no other call
IsNext _ texts _ rest = ⊥

-- the calls of these steps, whose texts follow one another, and the rest of the texts
abbrev pub AreOps : List Step → List ℕ → List Op → List ℕ → Type 0
AreOps [] texts [] rest = rest ≡ texts
AreOps (step ∷ steps) texts (op ∷ ops) rest = (next : List ℕ) × IsNext step texts op next × AreOps steps next ops rest
AreOps _ texts _ rest = ⊥

-- these are the calls of a script
pub record AreCalls (calls : Calls) (ops : List Op) : Type 0 where
  pub rest : List ℕ
  pub are : AreOps calls.steps.items calls.texts.items ops rest

-- one call was added, with the bytes that a text stands for
pub record AddsText (is_whole : Bool) (text : List ℕ) (old new : Calls) : Type 0 where
  pub bytes : List ℕ
  pub is : unescaped text ≡ Some bytes
  pub step : new.steps.items ≡ old.steps.items ++ text_step is_whole (length bytes) ∷ []
  pub texts : new.texts.items ≡ old.texts.items ++ bytes

-- there is no room for that many more bytes, or for one more step
abbrev pub IsFull : ℕ → Calls → Type 0
IsFull n calls = (vec_capacity calls.texts < vec_len calls.texts + n) ⊎ (vec_capacity calls.steps < vec_len calls.steps + 1)

-- For `play`: the calls of a script, what it writes, and which calls its tower made of the device.
use Rattle.std.proofs.{Common.{arith}, lemmas.Grind.{common_steps}}
use Rattle.no_std_io2.proofs.Words.{ℕ, ◌+◌, ◌<◌, List, [], ◌∷◌, ◌++◌, length, get_or, take, refl, subst, take_more, CallOf, Vec, told_out}
use Rattle.no_std_io2.proofs.Words.{◌≡◌, ap, ap₂, append_assoc, Ok, Err, Result, IfOk, ◌∙◌, error_kind, WriterState, Moves, MovesFront}
use Rattle.no_std_io2.proofs.{Words.{Writer, WriteCall, ByCalls, InnerCalls, with_buffer, LevelCalls}, MovesLemmas.{Moves-ends}}
use Rattle.no_std_io2.{proofs.TakesLemmas.{may_fail}, specs.{declared.io.Error.{Error}, inner.Faults.{MayFail}}}
use Rattle.io_bench.specs.{declared.{runs.Op.{Op}, faulty.{Act.{Act}, Faulty.{Faulty}}}, Faulty.{acts_left, faulty_inner, with_acts}}
use Rattle.io_bench.{specs.Runs.{Ran, RunBelow}, proofs.RunLemmas.{below_first, below_map, below_more}}
use Rattle.tower_play.specs.{declared.{script.Step.{Step}, playing.Shape.{Shape}}, Calls.{IsNext, AreOps}, Report.{printed_report}}
use Rattle.tower_play.specs.Play.{WritesText, Shows, ShowsRun, TowerCalls, TwoLevels, fresh_told}

-- For `Calls::ops`: the calls of a script, one after another.

-- one call more
ops_more : (steps : List Step) (texts : List ℕ) (ops : List Op) (rest : List ℕ) (step : Step) (op : Op) (next : List ℕ)
    → AreOps steps texts ops rest → IsNext step rest op next → AreOps (steps ++ step ∷ []) texts (ops ++ op ∷ []) next
ops_more [] texts [] rest step op next are is = (next, subst (λ t. IsNext step t op next) are is, refl)
ops_more (s ∷ steps) texts (o ∷ ops) rest step op next are is = (are.0, are.1, ops_more steps are.0 ops rest step op next are.2 is)
ops_more _ texts _ rest step op next are is = absurd are

-- the next step of a list makes the next call
pub ops_go_on : (steps : List Step) (i : ℕ) (d : Step) (texts : List ℕ) (ops : List Op) (rest : List ℕ) (op : Op) (next : List ℕ)
    → i < length steps → AreOps (take i steps) texts ops rest → IsNext (get_or steps i d) rest op next
    → AreOps (take (i + 1) steps) texts (ops ++ op ∷ []) next
ops_go_on steps i d texts ops rest op next in' are is = grind (arith, common_steps, get_or, ops_more, take_more)

-- For `play`: what it writes, and which calls its tower made of the device.

-- what follows from a fact of the value of an `Ok`
pub ifok_map : {A E : Type 0} {P Q : A → Type 0} (r : Result A E) → ((a : A) → P a → Q a) → IfOk r P → IfOk r Q
ifok_map r each holds = grind (arith, common_steps)

-- calls that are the same show the same
pub shows_at : {W : Type 0} {I : Writer (Faulty W)} {shape : Shape} {acts : List Act} {a b : List Op} {text : List ℕ} → a ≡ b
    → Shows I shape acts a text → Shows I shape acts b text
shows_at {I = I} {shape} {acts} {text = text} same shows = subst (λ ops. Shows I shape acts ops text) same shows

-- what one call of a level is to the one below
abbrev Level : Type 1
Level = List ℕ → WriteCall → List WriteCall → List ℕ → Type 0

-- each call of a writer is such calls of its inner one
abbrev pub Each : {W B : Type 0} → Writer W → Writer B → (B → W) → (B → List ℕ) → Level → Type 0
Each {B = B} I K inner buffer level = (a b : B) (call : WriteCall) → K.may a call b
    → ByCalls (CallOf I) (inner a) (λ D. level (buffer a) call D (buffer b)) (inner b)

-- an empty vector with these acts in front has taken nothing
pub fresh_at : {Z : Type 0} {v : Vec ℕ Z} (base : Faulty (Vec ℕ Z)) {acts : List Act} → faulty_inner base ≡ v → v.items ≡ []
    → acts_left base ≡ acts → with_acts (told_out (faulty_inner base).items) (acts_left base) ≡ fresh_told acts
fresh_at base inner empty are = grind (arith, common_steps)

module _ {W : Type 0} (I : Writer (Faulty W)) (none : (w : Faulty W) → (I.told w).held ≡ []) {acts : List Act} {base : Faulty W}
    (left : acts_left base ≡ acts) (fresh : I.told base ≡ fresh_told acts) {ops : List Op} {text : List ℕ} (shape : Shape) where
  -- a run on a tower over a fresh device
  shows : {B : Type 0} {K : Writer B} (device : B → Faulty W) (held : B → List ℕ)
      → ((b : B) → K.told b ≡ with_buffer (I.told (device b)) (held b)) → (old : B) → device old ≡ base → held old ≡ []
      → (run : ShowsRun K old ops text)
      → RunBelow I (λ calls below. TowerCalls shape calls below (held run.new)) (device old) ops run.replies (device run.new)
      → Shows I shape acts ops text
  shows {K = K} device held told old at empty run calls =
      let start : K.told old ≡ fresh_told acts =
      told old ∙ ap₂ (λ w h. with_buffer (I.told w) h) at empty ∙ ap (λ t. with_buffer t []) fresh in
      let end = told run.new in
      record {
        replies = run.replies;
        old = device old;
        fresh = (ap acts_left at ∙ left, ap I.told at ∙ fresh);
        new = device run.new;
        held = held run.new;
        ran =
            subst (λ t. Ran (fresh_told acts) ops run.replies t) end
            (subst (λ t. Ran t ops run.replies (K.told run.new)) start run.law.ran);
        calls = calls;
        shown =
            run.shown ∙ ap (λ t. printed_report run.replies t.out t.held) end
            ∙ ap (λ h. printed_report run.replies (I.told (device run.new)).out (h ++ held run.new)) (none (device run.new));
      }

  -- a run on one level
  pub one_level : {B : Type 0} {K : Writer B} (inner : B → Faulty W) (buffer : B → List ℕ) (level : Level) → Each I K inner buffer level
      → ((b : B) → K.told b ≡ with_buffer (I.told (inner b)) (buffer b))
      → ((calls below : List WriteCall) (held : List ℕ) → LevelCalls level [] calls below held → TowerCalls shape calls below held)
      → (old : B) → inner old ≡ base → buffer old ≡ [] → ShowsRun K old ops text → Shows I shape acts ops text
  one_level inner buffer level each told is old at empty run = shows inner buffer told old at empty run
      (below_map I ops run.replies (λ calls below t. is calls below _
      (subst (λ h. LevelCalls level h calls below (buffer run.new)) empty t))
      (below_first I inner buffer level each ops run.replies run.law.calls))

  -- a run on a level over a buffer
  pub two_levels : {B C : Type 0} {J : Writer B} {K : Writer C} (inner : B → Faulty W) (buffer : B → List ℕ)
      (outer : C → B) (above : C → List ℕ) (level : Level) → Each I J inner buffer (InnerCalls 8) → Each J K outer above level
      → ((c : C) → K.told c ≡ with_buffer (with_buffer (I.told (inner (outer c))) (buffer (outer c))) (above c))
      → ((calls below : List WriteCall) (held : List ℕ) → TwoLevels level calls below held → TowerCalls shape calls below held)
      → (old : C) → inner (outer old) ≡ base → buffer (outer old) ≡ [] → above old ≡ []
      → ShowsRun K old ops text → Shows I shape acts ops text
  two_levels {J = J} inner buffer outer above level each each' told is old at empty empty' run =
      shows (λ c. inner (outer c)) (λ c. buffer (outer c) ++ above c)
      (λ c. told c ∙ ap (λ h. record (I.told (inner (outer c))) { held = h })
      (append_assoc (I.told (inner (outer c))).held (buffer (outer c)) (above c)))
      old at (ap₂ (λ l m. l ++ m) empty empty') run
      (below_map I ops run.replies (λ calls below (mid, upper, lower). is calls below _ (
        mid,
        above run.new,
        buffer (outer run.new),
        subst (λ h. LevelCalls level h calls mid (above run.new)) empty' upper,
        subst (λ h. LevelCalls (InnerCalls 8) h mid below (buffer (outer run.new))) empty lower,
        refl,
      )) (below_more I inner buffer (InnerCalls 8) each ops run.replies
      (below_first J outer above level each' ops run.replies run.law.calls)))

-- one text is written and flushed
pub writes_text : {P : List ℕ → Type 0} {a b c : WriterState} {x shown : List ℕ} → P x → shown ≡ x
    → MovesFront a shown (Ok tt) b → Moves b [] [] c → c.held ≡ [] → WritesText P a c
writes_text {a = a} {b} {x = x} is same wrote flushed empty = record {
  text = x;
  is = is;
  moves = Moves-ends (subst (λ l. Moves a l [] b) (wrote.whole ∙ same) wrote.moves) flushed;
  empty = empty;
}

-- the writer failed in the text
pub write_failed : {a b : WriterState} {x : List ℕ} {e : Error} → MovesFront a x (Err e) b → MayFail a e
write_failed wrote = may_fail wrote.moves

-- it failed in the flush after the text
pub flush_failed : {a b c : WriterState} {x : List ℕ} {e : Error} → MovesFront a x (Ok tt) b → Moves b [] (error_kind e ∷ []) c
    → MayFail a e
flush_failed wrote flushed = may_fail (Moves-ends wrote.moves flushed)

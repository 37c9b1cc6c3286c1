-- What a `Faulty` tells, and what its acts do to a call.
use Rattle.no_std_io2.specs.{inner.Writers.{CallOf}, Writers.{Writer}, declared.io.Error.{Error}, declared.io.ErrorKind.{ErrorKind}}
use Rattle.no_std_io2.specs.{declared.io.ErrorKind.TheVariants.{WriteZero}, Errors.{error_kind}, inner.Kinds.{error_text, is_interruption}}
use Rattle.no_std_io2.specs.{Moves.{WriterState}, Calls.{WriteCall, Wrote, WroteAll, Flushed}}
use Rattle.std.specs.Prelude.{◌≡◌, Some, None, Option, List, [], ◌∷◌, ◌++◌, drop, if◌then◌else◌, ◌==◌, ℕ, ◌+◌, ◌<◌, count_by, take, Result}
use Rattle.std.specs.{Prelude.{Ok, IsErrAnd}, Option.{option_map}, List.{flat_map}}
use Rattle.io_bench.specs.declared.faulty.{Act.{Act, TheVariants.{Take, Zero, Fail}}, Faulty.{Faulty}}

-- `f.get_ref()`
abbrev pub faulty_inner : {W : Type 0} → Faulty W → W
faulty_inner f = f.inner

-- the acts to come
abbrev pub acts_left : {W : Type 0} → Faulty W → List Act
acts_left f = drop f.at f.acts.items

-- the first of the acts, if there is one
abbrev pub first_act : List Act → Option Act
first_act [] = None
first_act (act ∷ acts) = Some act

-- the next act, if one is left
abbrev pub next_act : {W : Type 0} → Faulty W → Option Act
next_act f = first_act (acts_left f)

-- an error of this kind, without a text
abbrev FailsWith : {T : Type 0} → ErrorKind → Result T Error → Type 0
FailsWith kind reply = IsErrAnd reply (λ e. (error_kind e ≡ kind) × (error_text e ≡ None))

-- A `write` of x with this act: a front of x is passed on, or nothing is.
abbrev pub WritesBehind : {W : Type 0} → Writer W → Option Act → W → List ℕ → Result ℕ Error → W → Type 0
WritesBehind I None old x reply new = CallOf I old (Wrote x reply) new
WritesBehind I (Some (Take n)) old x reply new =
    (0 < n → CallOf I old (Wrote (take n x) reply) new) × (n ≡ 0 → (reply ≡ Ok 0) × (new ≡ old))
WritesBehind I (Some Zero) old x reply new = (reply ≡ Ok 0) × (new ≡ old)
WritesBehind I (Some (Fail kind)) old x reply new = FailsWith kind reply × (new ≡ old)

-- A `flush` with this act: it is passed on, or fails.
abbrev FlushesBehind : {W : Type 0} → Writer W → Option Act → W → Result (Unit {0}) Error → W → Type 0
FlushesBehind I (Some (Fail kind)) old reply new = FailsWith kind reply × (new ≡ old)
FlushesBehind I _ old reply new = CallOf I old (Flushed reply) new

-- what one call does: it uses up an act, and does what the act says
abbrev pub FaultyMay : {W : Type 0} → Writer W → Faulty W → WriteCall → Faulty W → Type 0
FaultyMay I old (Wrote x reply) new =
    (acts_left new ≡ drop 1 (acts_left old)) × WritesBehind I (next_act old) (faulty_inner old) x reply (faulty_inner new)
FaultyMay I old (Flushed reply) new =
    (acts_left new ≡ drop 1 (acts_left old)) × FlushesBehind I (next_act old) (faulty_inner old) reply (faulty_inner new)
FaultyMay I old (WroteAll x reply) new = ⊥

-- the mishap that an act causes
abbrev pub act_mishap : Act → List ErrorKind
act_mishap (Take n) = if n == 0 then WriteZero ∷ [] else []
act_mishap Zero = WriteZero ∷ []
act_mishap (Fail kind) = kind ∷ []

-- the mishaps of these acts
abbrev pub act_mishaps : List Act → List ErrorKind
act_mishaps acts = flat_map act_mishap acts

-- what is told with these acts in front of a writer: their mishaps are added, and a turn for each act that interrupts
abbrev pub with_acts : WriterState → List Act → WriterState
with_acts told acts = record told {
  mishaps = option_map (λ kinds. kinds ++ act_mishaps acts) told.mishaps;
  turns = told.turns + count_by is_interruption (act_mishaps acts);
}

-- what a `Faulty` tells if its inner writer tells `told`
abbrev pub faulty_told : {W : Type 0} → (W → WriterState) → Faulty W → WriterState
faulty_told told f = with_acts (told f.inner) (acts_left f)

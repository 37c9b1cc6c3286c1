-- What a call may do to an object.
use Rattle.std.specs.{Prelude.{◌≡◌}, Borrow.{MutBor}, declared.dyn_box.DynBox.{DynBox}}

-- A call may do to a boxed object what it may do to the value in the box, by `may`.
abbrev pub BoxMay : {I A C : Type 0} {V : I → Type 0} → (old : DynBox I A V) → (V old.vtable → C → V old.vtable → Type 0)
    → C → DynBox I A V → Type 0
BoxMay {I} {A} {C} {V} old may call new = (value : V old.vtable)
    × (new ≡ record { ptr = old.ptr; vtable = old.vtable; alloc = old.alloc; value = value }) × may old.value call value

-- A call may do to a reference to an object what it may do to the value behind it, by `may`.
abbrev pub LentMay : {I C : Type 0} {V : I → Type 0} → (old : MutBor ((i : I) × V i)) → (V old.now.0 → C → V old.now.0 → Type 0)
    → C → MutBor ((i : I) × V i) → Type 0
LentMay {I} {C} {V} old may call new = (value : V old.now.0) × (new ≡ record old { now = (old.now.0, value) }) × may old.now.1 call value

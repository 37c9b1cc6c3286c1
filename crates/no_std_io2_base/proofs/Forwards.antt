-- A stream behind a reference, in a box, or behind an object.
use Rattle.std.proofs.Common.{rules, arith, ◌≡◌, ℕ, List, Result, refl, sym, subst, Vec, String, Option, ap, Global, ◌∙◌}
use Rattle.std.{proofs.lemmas.Grind.{common_steps}, specs.{Borrow.{Bor, MutBor}, declared.dyn_box.DynBox.{DynBox}}}
use Rattle.std.specs.contracts.{vec.Vec.{the_row as vec-row}, collections.VecDeque.{the_row as deque-row}}
use Rattle.std.specs.contracts.{boxed.BoxedSlice.{the_row as boxed-row}, alloc.Global.{the_row as global-row}}
use Rattle.std.specs.{contracts.impls.GlobalAllocator.TheImpl.{ghosts}, declared.boxed.BoxedSlice.{BoxedSlice}}
use Rattle.no_std_io2_base.specs.{declared.error.Error.{Error}, Events.{Event, Store}, Takes.{ReaderState, Reader, tells}, Calls.{ReadCall}}
use Rattle.no_std_io2_base.specs.{Calls.{WriteCall, ByCalls, PartMay}, BufRead.{ReadUntilLaw, ReadLineLaw, FillBufLaw, AfterLoan}}
use Rattle.no_std_io2_base.specs.{Moves.{WriterState}, Write.{CallLaw, WriteAllLaw, WriteRestLaw}, inner.{Write.{AllCalls}, Calls.{BoxMay}}}
use Rattle.no_std_io2_base.specs.{Writers.{Writer, WriteAllOf, WriteRestOf}, inner.Writers.{CallOf}, Read.{ReadCallLaw, ReadLaw}}
use Rattle.no_std_io2_base.specs.{Read.{ReadExactLaw, ReadFullLaw, ToEndLaw, ConsumeLaw}, contracts.cursor.Cursor.{the_row as cursor-row}}
use Rattle.no_std_io2_base.{specs.declared.cursor.Cursor.{Cursor}, proofs.CallsLemmas.{made_map, made_keeps}}
use base.Stored.{Gv}
use denote.{Builtin.{u8, Array}, RattleType.{RattleType}, Param.Table.{Entry}}
use borrow.Pointer.Hide.{carry_nowᵐ, carried_sameᵐ}

-- A reader behind a reference, or in a box: what a call did to the reader, it did to the reference or the box.

-- R' tells and holds what R does, whose values are put into its own, and may make its calls
pub record PassesReads {X Y : Type 0} (R : Reader X) (R' : Reader Y) (put : X → Y) : Type 0 where
  pub told : (x : X) → tells R' (put x) ≡ tells R x
  pub may : (x y : X) (call : ReadCall) → R.may x call y → R'.may (put x) call (put y)
  pub held : (x : X) → R'.held (put x) ≡ R.held x

module _ {X Y : Type 0} {R : Reader X} {R' : Reader Y} {put : X → Y} (through : PassesReads R R' put) (a b : X) where
  -- what holds of that which was told before and after
  between : (P : ReaderState → ReaderState → Type 0) → P (tells R a) (tells R b) → P (tells R' (put a)) (tells R' (put b))
  between P holds = subst (λ t. P t (tells R' (put b))) (sym (through.told a)) (subst (λ t. P (tells R a) t) (sym (through.told b)) holds)

  call_through : (call : ReadCall) → ReadCallLaw R a call b → ReadCallLaw R' (put a) call (put b)
  call_through call law = grind (arith, common_steps)

-- what a call did to a value, it did to that which the value was put into
module _ {X Y : Type 0} {R : Reader X} {R' : Reader Y} (put : X → Y) (through : PassesReads R R' put) {a b : X} where
  pub read_through : {buf buf' : List ℕ} {reply : Result ℕ Error} → ReadLaw R a buf reply buf' b → ReadLaw R' (put a) buf reply buf' (put b)
  read_through {buf' = buf'} {reply} law = grind (arith, common_steps)

  pub exact_through : {buf buf' : List ℕ} {reply : Result (Unit {0}) Error} → ReadExactLaw R a buf reply buf' b
      → ReadExactLaw R' (put a) buf reply buf' (put b)
  exact_through {buf' = buf'} {reply} law = grind (arith, common_steps, between, made_map, call_through)

  pub read_full_through : {buf buf' : List ℕ} {n n' : ℕ} {reply : Result (Unit {0}) Error} → ReadFullLaw R a buf n reply buf' n' b
      → ReadFullLaw R' (put a) buf n reply buf' n' (put b)
  read_full_through {buf} {buf'} {n} {n'} {reply} law = grind (arith, common_steps, between, made_map, call_through)

  pub drained_through : {A : Type 0} {lacks : ℕ → Type 0} {buf buf' : Vec ℕ A} {reply : Result ℕ Error}
      → ToEndLaw lacks R a buf reply buf' b → ToEndLaw lacks R' (put a) buf reply buf' (put b)
  drained_through {lacks = lacks} {reply = reply} law = grind (arith, common_steps, between, made_map, call_through)

  pub consume_through : {n : ℕ} → ConsumeLaw R a n b → ConsumeLaw R' (put a) n (put b)
  consume_through {n} law = grind (arith, common_steps)

  pub loan_through : (reply : Result (Bor (List ℕ)) Error) → AfterLoan R a reply b → AfterLoan R' (put a) reply (put b)
  loan_through reply after = grind (arith, common_steps)

  pub until_through : {A : Type 0} {d : ℕ} {buf buf' : Vec ℕ A} {reply : Result ℕ Error} → ReadUntilLaw R a d buf reply buf' b
      → ReadUntilLaw R' (put a) d buf reply buf' (put b)
  until_through {d = d} {buf} {reply = reply} law = grind (arith, common_steps, between, made_map, call_through)

  pub line_through : {A : Type 0} {buf buf' : String A} {reply : Result ℕ Error} → ReadLineLaw R a buf reply buf' b
      → ReadLineLaw R' (put a) buf reply buf' (put b)
  line_through {buf = buf} law = grind (arith, common_steps, between, made_map, call_through)

-- what each call of a reader keeps, by its `may`: a law of such a call says so,
pub law_keeps : {X V : Type 0} (R : Reader X) (of : X → V) → ((a b : X) (call : ReadCall) → R.may a call b → of b ≡ of a)
    → (a b : X) (call : ReadCall) → ReadCallLaw R a call b → of b ≡ of a
law_keeps R of each a b call law = grind (arith, common_steps, each)

-- and so do the calls of a law
pub calls_keep : {X V : Type 0} (R : Reader X) (of : X → V) → ((a b : X) (call : ReadCall) → R.may a call b → of b ≡ of a)
    → {a b : X} {Are : List ReadCall → Type 0} → ByCalls (ReadCallLaw R) a Are b → of b ≡ of a
calls_keep R of each {a} {b} by = made_keeps (ReadCallLaw R) of (law_keeps R of each) by.calls a b by.made

-- each call of a `&mut T` leaves it a reference to the same value
pub keeps_name : {X A : Type 0} {may : X → A → X → Type 0} (a b : MutBor X) (call : A)
    → PartMay may (λ r. r.now) (λ r x. record r { now = x }) a call b → b.ghost_name ≡ a.ghost_name
keeps_name a b call did = ap (λ r. r.ghost_name) did.rest

-- what a call did to a whole, it did to its part
pub part_did : {W V A : Type 0} {may : W → A → W → Type 0} (get : V → W) (put : V → W → V) → ((v : V) (w : W) → get (put v w) ≡ w)
    → (a b : V) (call : A) → PartMay may get put a call b → may (get a) call (get b)
part_did {may = may} get put back a b call did = subst (may (get a) call) (sym (ap get did.rest ∙ back a did.part)) did.does

-- and so to the value behind a reference
pub behind_did : {X A : Type 0} {may : X → A → X → Type 0} (a b : MutBor X) (call : A)
    → PartMay may (λ r. r.now) (λ r x. record r { now = x }) a call b → may a.now call b.now
behind_did = part_did (λ r. r.now) (λ r x. record r { now = x }) (λ v w. refl)

-- a writer that a part is put into: what a call did to the part, it did to the whole
pub wrote_through : {W V : Type 0} (told : V → WriterState) (takes_all : V → Type 0) (may : W → WriteCall → W → Type 0)
    (may' : V → WriteCall → V → Type 0) (put : W → V) → ((a b : W) (call : WriteCall) → may a call b → may' (put a) call (put b))
    → (a b : W) (call : WriteCall) → CallLaw (λ w. told (put w)) (λ w. takes_all (put w)) may a call b
    → CallLaw told takes_all may' (put a) call (put b)
wrote_through told takes_all may may' put each a b x9 law = grind (arith, common_steps)

pub write_all_through : {W V : Type 0} {told : V → WriterState} {takes_all : V → Type 0} {may : W → WriteCall → W → Type 0}
    {may' : V → WriteCall → V → Type 0} (put : W → V) → ((a b : W) (call : WriteCall) → may a call b → may' (put a) call (put b))
    → {a b : W} {x : List ℕ} {reply : Result (Unit {0}) Error} → WriteAllLaw (λ w. told (put w)) (λ w. takes_all (put w)) may a x reply b
    → WriteAllLaw told takes_all may' (put a) x reply (put b)
write_all_through put each {a} {b} law = search (arith, rules, made_map, wrote_through)

pub write_rest_through : {W V : Type 0} {told : V → WriterState} {takes_all : V → Type 0} {may : W → WriteCall → W → Type 0}
    {may' : V → WriteCall → V → Type 0} (put : W → V) → ((a b : W) (call : WriteCall) → may a call b → may' (put a) call (put b))
    → {a b : W} {x left : List ℕ} {reply : Result (Unit {0}) Error} → WriteRestLaw (λ w. told (put w))
    (λ w. takes_all (put w)) may a x reply b left → WriteRestLaw told takes_all may' (put a) x reply (put b) left
write_rest_through put each {a} {b} law = search (arith, rules, made_map, wrote_through)

-- A wrapper that passes calls on to a part of it, `get`, which `put` replaces, and leaves the rest as it is: its `may` is `PartMay`.

-- what holds between wholes with the part before and after
lifted : {W V : Type 0} (get : V → W) (put : V → W → V) {old new : V} (Law : V → V → Type 0) → Law (put old (get old)) (put old (get new))
    → put old (get old) ≡ old → put old (get new) ≡ new → Law old new
lifted get put {old} {new} Law holds was is = subst (λ v. Law v new) was (subst (λ v. Law (put old (get old)) v) is holds)

passed_on : {W V A : Type 0} {may : W → A → W → Type 0} {get : V → W} {put : V → W → V} (old : V) → ((w : W) → get (put old w) ≡ w)
    → ((w u : W) → put (put old w) u ≡ put old u) → (a b : W) (call : A) → may a call b → PartMay may get put (put old a) call (put old b)
passed_on {may = may} old back twice a b call did = grind (arith, common_steps)

-- as a writer
module _ {W V : Type 0} {told : V → WriterState} {takes_all : V → Type 0} {may : W → WriteCall → W → Type 0} {get : V → W}
    {put : V → W → V} {old new : V} {x : List ℕ} {reply : Result (Unit {0}) Error} where
  pub passes_write_all : WriteAllLaw (λ w. told (put old w)) (λ w. takes_all (put old w)) may (get old) x reply (get new)
      → put old (get old) ≡ old → put old (get new) ≡ new → ((w : W) → get (put old w) ≡ w) → ((w u : W) → put (put old w) u ≡ put old u)
      → ByCalls (CallLaw told takes_all (PartMay may get put)) old (λ C. AllCalls C x reply) new
  passes_write_all law was is back twice =
      let all : WriteAllLaw told takes_all (PartMay may get put) old x reply new =
      lifted get put (λ a b. WriteAllLaw told takes_all (PartMay may get put) a x reply b)
      (write_all_through (put old) (passed_on old back twice) law) was is in
      all.calls

  pub passes_write_rest : {left : List ℕ}
      → WriteRestLaw (λ w. told (put old w)) (λ w. takes_all (put old w)) may (get old) x reply (get new) left
      → put old (get old) ≡ old → put old (get new) ≡ new → ((w : W) → get (put old w) ≡ w) → ((w u : W) → put (put old w) u ≡ put old u)
      → WriteRestLaw told takes_all (PartMay may get put) old x reply new left
  passes_write_rest {left} law was is back twice =
      lifted get put (λ a b. WriteRestLaw told takes_all (PartMay may get put) a x reply b left)
      (write_rest_through (put old) (passed_on old back twice) law) was is

-- as a reader: the whole,
abbrev whole_reader : {W V : Type 0} → (V → Option Store) → (V → ℕ) → (V → Option (List Event)) → (V → List ℕ) → (W → ReadCall → W → Type 0)
    → (V → W) → (V → W → V) → Reader V
whole_reader store turns events held may get put =
    record { store = store; turns = turns; events = events; may = PartMay may get put; held = held }

-- and the part in it
abbrev part_reader : {W V : Type 0} → (V → Option Store) → (V → ℕ) → (V → Option (List Event)) → (V → List ℕ) → (W → ReadCall → W → Type 0)
    → (W → V) → Reader W
part_reader store turns events held may put = record {
  store = λ w. store (put w);
  turns = λ w. turns (put w);
  events = λ w. events (put w);
  may = may;
  held = λ w. held (put w);
}

module _ {W V : Type 0} {store : V → Option Store} {turns : V → ℕ} {events : V → Option (List Event)} {held : V → List ℕ}
    {may : W → ReadCall → W → Type 0} {get : V → W} {put : V → W → V} where
  passes : (old : V) → ((w : W) → get (put old w) ≡ w) → ((w u : W) → put (put old w) u ≡ put old u)
      → PassesReads (part_reader store turns events held may (put old)) (whole_reader store turns events held may get put) (put old)
  passes old back twice = record { told = λ w. refl; may = passed_on old back twice; held = λ w. refl }

  pub passes_read_exact : {old new : V} {buf buf' : List ℕ} {reply : Result (Unit {0}) Error}
      → ReadExactLaw (part_reader store turns events held may (put old)) (get old) buf reply buf' (get new)
      → put old (get old) ≡ old → put old (get new) ≡ new → ((w : W) → get (put old w) ≡ w) → ((w u : W) → put (put old w) u ≡ put old u)
      → ReadExactLaw (whole_reader store turns events held may get put) old buf reply buf' new
  passes_read_exact {old = old} {buf = buf} {buf'} {reply} law was is back twice =
      lifted get put (λ a b. ReadExactLaw (whole_reader store turns events held may get put) a buf reply buf' b)
      (exact_through (put old) (passes old back twice) law) was is

  pub passes_read_full : {old new : V} {buf buf' : List ℕ} {n n' : ℕ} {reply : Result (Unit {0}) Error}
      → ReadFullLaw (part_reader store turns events held may (put old)) (get old) buf n reply buf' n' (get new)
      → put old (get old) ≡ old → put old (get new) ≡ new → ((w : W) → get (put old w) ≡ w) → ((w u : W) → put (put old w) u ≡ put old u)
      → ReadFullLaw (whole_reader store turns events held may get put) old buf n reply buf' n' new
  passes_read_full {old = old} {buf = buf} {buf'} {n} {n'} {reply} law was is back twice =
      lifted get put (λ a b. ReadFullLaw (whole_reader store turns events held may get put) a buf n reply buf' n' b)
      (read_full_through (put old) (passes old back twice) law) was is

  pub passes_read_to_end : {A : Type 0} {lacks : ℕ → Type 0} {old new : V} {buf buf' : Vec ℕ A} {reply : Result ℕ Error}
      → ToEndLaw lacks (part_reader store turns events held may (put old)) (get old) buf reply buf' (get new)
      → put old (get old) ≡ old → put old (get new) ≡ new → ((w : W) → get (put old w) ≡ w) → ((w u : W) → put (put old w) u ≡ put old u)
      → ToEndLaw lacks (whole_reader store turns events held may get put) old buf reply buf' new
  passes_read_to_end {lacks = lacks} {old} {buf = buf} {buf'} {reply} law was is back twice =
      lifted get put (λ a b. ToEndLaw lacks (whole_reader store turns events held may get put) a buf reply buf' b)
      (drained_through (put old) (passes old back twice) law) was is

  pub passes_read_until : {A : Type 0} {d : ℕ} {old new : V} {buf buf' : Vec ℕ A} {reply : Result ℕ Error}
      → ReadUntilLaw (part_reader store turns events held may (put old)) (get old) d buf reply buf' (get new)
      → put old (get old) ≡ old → put old (get new) ≡ new → ((w : W) → get (put old w) ≡ w) → ((w u : W) → put (put old w) u ≡ put old u)
      → ReadUntilLaw (whole_reader store turns events held may get put) old d buf reply buf' new
  passes_read_until {d = d} {old} {buf = buf} {buf'} {reply} law was is back twice =
      lifted get put (λ a b. ReadUntilLaw (whole_reader store turns events held may get put) a d buf reply buf' b)
      (until_through (put old) (passes old back twice) law) was is

  pub passes_read_line : {A : Type 0} {old new : V} {buf buf' : String A} {reply : Result ℕ Error}
      → ReadLineLaw (part_reader store turns events held may (put old)) (get old) buf reply buf' (get new)
      → put old (get old) ≡ old → put old (get new) ≡ new → ((w : W) → get (put old w) ≡ w) → ((w u : W) → put (put old w) u ≡ put old u)
      → ReadLineLaw (whole_reader store turns events held may get put) old buf reply buf' new
  passes_read_line {old = old} {buf = buf} {buf'} {reply} law was is back twice =
      lifted get put (λ a b. ReadLineLaw (whole_reader store turns events held may get put) a buf reply buf' b)
      (line_through (put old) (passes old back twice) law) was is

-- for `using` on a call that such a wrapper passes on
pub ruleset passes_on = (
  passes_write_all,
  passes_write_rest,
  passes_read_exact,
  passes_read_full,
  passes_read_to_end,
  passes_read_until,
  passes_read_line,
)

-- A boxed object after a call on the value in it.

module _ {I A : Type 0} {V : I → Type 0} (box : DynBox I A V) where
  -- the box with another value
  abbrev pub holding : (i : I) → V i → DynBox I A V
  holding i new = record { ptr = box.ptr; vtable = i; alloc = box.alloc; value = new }

  -- what a call did to the value that was lent, it did to the box, which that value is in
  pub in_box : (P : (i : I) → V i → V i → Type 0) (Q : DynBox I A V → Type 0)
      → ((new : V box.vtable) → P box.vtable box.value new → Q (holding box.vtable new))
      → (lent : (i : I) × V i) → lent ≡ (box.vtable, box.value) → (new : V lent.0) → P lent.0 lent.1 new → Q (holding lent.0 new)
  in_box P Q did lent back = subst (λ l. (new : V l.0) → P l.0 l.1 new → Q (holding l.0 new)) (sym back) did

-- the value in a box, by what its trait object tells, and the box
abbrev value_reader : {I : Type 0} {V : I → Type 0} → ((p : (x : I) × V x) → Reader (V p.0)) → (i : I) → Reader (V i)
value_reader o i = record {
  store = λ v. (o (i, v)).store v;
  turns = λ v. (o (i, v)).turns v;
  events = λ v. (o (i, v)).events v;
  may = λ v. (o (i, v)).may v;
  held = λ v. (o (i, v)).held v;
}

abbrev pub box_reader : {I A : Type 0} {V : I → Type 0} → ((p : (x : I) × V x) → Reader (V p.0)) → Reader (DynBox I A V)
box_reader o = record {
  store = λ b. (value_reader o b.vtable).store b.value;
  turns = λ b. (value_reader o b.vtable).turns b.value;
  events = λ b. (value_reader o b.vtable).events b.value;
  may = λ b. BoxMay b (value_reader o b.vtable).may;
  held = λ b. (value_reader o b.vtable).held b.value;
}

module _ {I A : Type 0} {V : I → Type 0} (o : (p : (x : I) × V x) → Reader (V p.0)) (box : DynBox I A V) where
  of_reader : PassesReads (value_reader o box.vtable) (box_reader o) (holding box box.vtable)
  of_reader = record { told = λ x. refl; may = λ x y call may. (y, refl, may); held = λ x. refl }

  -- what a call did to the value that was lent, it did to the box
  pub read_box : {buf buf' : List ℕ} {reply : Result ℕ Error} (lent : (x : I) × V x) → lent ≡ (box.vtable, box.value) → (new : V lent.0)
      → ReadLaw (value_reader o lent.0) lent.1 buf reply buf' new → ReadLaw (box_reader o) box buf reply buf' (holding box lent.0 new)
  read_box {buf} {buf'} {reply} =
      in_box box (λ i a b. ReadLaw (value_reader o i) a buf reply buf' b) (ReadLaw (box_reader o) box buf reply buf')
      (λ new. read_through (holding box box.vtable) of_reader)

  pub exact_box : {buf buf' : List ℕ} {reply : Result (Unit {0}) Error} (lent : (x : I) × V x) → lent ≡ (box.vtable, box.value)
      → (new : V lent.0) → ReadExactLaw (value_reader o lent.0) lent.1 buf reply buf' new
      → ReadExactLaw (box_reader o) box buf reply buf' (holding box lent.0 new)
  exact_box {buf} {buf'} {reply} = in_box box (λ i a b. ReadExactLaw (value_reader o i) a buf reply buf' b)
      (ReadExactLaw (box_reader o) box buf reply buf') (λ new. exact_through (holding box box.vtable) of_reader)

  pub full_box : {buf buf' : List ℕ} {n n' : ℕ} {reply : Result (Unit {0}) Error} (lent : (x : I) × V x)
      → lent ≡ (box.vtable, box.value) → (new : V lent.0) → ReadFullLaw (value_reader o lent.0) lent.1 buf n reply buf' n' new
      → ReadFullLaw (box_reader o) box buf n reply buf' n' (holding box lent.0 new)
  full_box {buf} {buf'} {n} {n'} {reply} = in_box box (λ i a b. ReadFullLaw (value_reader o i) a buf n reply buf' n' b)
      (ReadFullLaw (box_reader o) box buf n reply buf' n') (λ new. read_full_through (holding box box.vtable) of_reader)

  pub consume_box : {n : ℕ} (lent : (x : I) × V x) → lent ≡ (box.vtable, box.value)
      → (new : V lent.0) → ConsumeLaw (value_reader o lent.0) lent.1 n new → ConsumeLaw (box_reader o) box n (holding box lent.0 new)
  consume_box {n} = in_box box (λ i a b. ConsumeLaw (value_reader o i) a n b) (ConsumeLaw (box_reader o) box n)
      (λ new. consume_through (holding box box.vtable) of_reader)

  pub fill_box : {reply : Result (Bor (List ℕ)) Error} (lent : (x : I) × V x) → lent ≡ (box.vtable, box.value)
      → FillBufLaw (value_reader o lent.0) lent.1 reply → FillBufLaw (box_reader o) box reply
  fill_box {reply} lent back = grind (arith, common_steps)

  pub loan_box : (reply : Result (Bor (List ℕ)) Error) (lent : (x : I) × V x) → lent ≡ (box.vtable, box.value)
      → (new : V lent.0) → AfterLoan (value_reader o lent.0) lent.1 reply new → AfterLoan (box_reader o) box reply (holding box lent.0 new)
  loan_box reply = in_box box (λ i a b. AfterLoan (value_reader o i) a reply b) (AfterLoan (box_reader o) box reply)
      (λ new. loan_through {R' = box_reader o} (holding box box.vtable) of_reader reply)

module _ {I A : Type 0} {V : I → Type 0} (o : (p : (x : I) × V x) → Writer (V p.0)) (box : DynBox I A V) where
  -- a value in a box, as a writer,
  abbrev value_writer : (i : I) → Writer (V i)
  value_writer i = record { told = λ v. (o (i, v)).told v; takes_all = λ v. (o (i, v)).takes_all v; may = λ v. (o (i, v)).may v }

  -- and the box
  abbrev box_writer : Writer (DynBox I A V)
  box_writer = record {
    told = λ b. (value_writer b.vtable).told b.value;
    takes_all = λ b. (value_writer b.vtable).takes_all b.value;
    may = λ b. BoxMay b (value_writer b.vtable).may;
  }

  -- the value that was lent is that in the box
  pub lent_call : (call : WriteCall) (lent : (i : I) × V i) → lent ≡ (box.vtable, box.value)
      → (new : V lent.0) → CallOf (value_writer lent.0) lent.1 call new → CallOf box_writer box call (holding box lent.0 new)
  lent_call call = in_box box (λ i a b. CallOf (value_writer i) a call b) (CallOf box_writer box call)
      (λ new law. wrote_through box_writer.told box_writer.takes_all (value_writer box.vtable).may box_writer.may (holding box box.vtable)
      (λ a b call did. (b, refl, did)) box.value new call law)

  pub write_all_box : (x : List ℕ) (reply : Result (Unit {0}) Error) (lent : (i : I) × V i) → lent ≡ (box.vtable, box.value)
      → (new : V lent.0) → WriteAllOf (value_writer lent.0) lent.1 x reply new → WriteAllOf box_writer box x reply (holding box lent.0 new)
  write_all_box x reply = in_box box (λ i a b. WriteAllOf (value_writer i) a x reply b) (WriteAllOf box_writer box x reply)
      (λ new law. write_all_through (holding box box.vtable) (λ a b call did. (b, refl, did)) law)

  pub write_rest_box : (x left : List ℕ) (reply : Result (Unit {0}) Error) (lent : (i : I) × V i) → lent ≡ (box.vtable, box.value)
      → (new : V lent.0) → WriteRestOf (value_writer lent.0) lent.1 x reply new left
      → WriteRestOf box_writer box x reply (holding box lent.0 new) left
  write_rest_box x left reply = in_box box (λ i a b. WriteRestOf (value_writer i) a x reply b left)
      (λ b. WriteRestOf box_writer box x reply b left)
      (λ new law. write_rest_through (holding box box.vtable) (λ a b call did. (b, refl, did)) law)

-- For callers that lend a value as a `&mut dyn`: the object refers to what was lent, and what is behind it is given back.

-- an object refers to what was lent to it
pub object_given : (G : Type 0 → Type 1) (C : Type 0) (e : Entry G C) (same : e ≡ e) (x : MutBor e.0.Denot)
    → carry_nowᵐ G C e e same x ≡ x.now
object_given G C e same x = e.0.coded.inj _ _ (carried_sameᵐ G C e e same Gv (λ j r. j.0.coded.code r.now) x)

-- what is read of the owner's value is what is read of the value behind the object
pub row_back : {X : Type 0} (R : RattleType) (F : R.Denot → X) (w y : R.Denot) → R.coded.code w ≡ R.coded.code y → F y ≡ F w
row_back R F w y codes = ap F (sym (R.coded.inj w y codes))

-- a vector of bytes
abbrev pub vec : RattleType
vec = vec-row u8 global-row ghosts

-- its bytes
pub vec_back : (w y : Vec ℕ Global) → vec.coded.code w ≡ vec.coded.code y → y.items ≡ w.items
vec_back w y codes = row_back vec (λ (v : Vec ℕ Global). v.items) w y codes

-- a queue of bytes
abbrev pub queue : RattleType
queue = deque-row u8 global-row ghosts

-- its bytes
pub queue_back : (w y : queue.Denot) → queue.coded.code w ≡ queue.coded.code y → y.items ≡ w.items
queue_back w y codes = row_back queue (λ q. q.items) w y codes

-- the bytes of a cursor over a vector
pub cursor_back : (w y : Cursor (Vec ℕ Global)) → (cursor-row vec).coded.code w ≡ (cursor-row vec).coded.code y
    → y.inner.items ≡ w.inner.items
cursor_back w y codes = row_back (cursor-row vec) (λ (c : Cursor (Vec ℕ Global)). c.inner.items) w y codes

-- and its position
pub position_back : (w y : Cursor (Vec ℕ Global)) → (cursor-row vec).coded.code w ≡ (cursor-row vec).coded.code y → y.pos ≡ w.pos
position_back w y codes = row_back (cursor-row vec) (λ (c : Cursor (Vec ℕ Global)). c.pos) w y codes

-- a boxed slice of bytes
abbrev pub boxed : RattleType
boxed = boxed-row u8 global-row ghosts

-- the bytes of a cursor over a boxed slice
pub boxed_back : (w y : Cursor (BoxedSlice ℕ Global)) → (cursor-row boxed).coded.code w ≡ (cursor-row boxed).coded.code y
    → y.inner.items.items ≡ w.inner.items.items
boxed_back w y codes = row_back (cursor-row boxed) (λ (c : Cursor (BoxedSlice ℕ Global)). c.inner.items.items) w y codes

-- and its position
pub boxed_position : (w y : Cursor (BoxedSlice ℕ Global)) → (cursor-row boxed).coded.code w ≡ (cursor-row boxed).coded.code y
    → y.pos ≡ w.pos
boxed_position w y codes = row_back (cursor-row boxed) (λ (c : Cursor (BoxedSlice ℕ Global)). c.pos) w y codes

-- an array of n bytes
abbrev pub array : ℕ → RattleType
array n = Array u8 tt n

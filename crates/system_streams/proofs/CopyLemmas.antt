-- A copy, piece by piece.
use Rattle.no_std_io2.proofs.Words.{◌≡◌, ℕ, List, [], ◌∷◌, ◌++◌, ap, ◌∙◌, subst, arith, Ok, Err, Result, Some, None, Option, append-nil}
use Rattle.no_std_io2.proofs.Words.{inr, ◌⊎◌, Bool, length, length-append, nil_from_length, error_kind, Event, event_bytes, HasNoFault}
use Rattle.no_std_io2.proofs.Words.{ReaderState, to_come, Reader, tells, ReadCall, WriterState, Moves, WriteCall, Flushed, Made, ByCalls}
use Rattle.no_std_io2.proofs.{Words.{Writer, CallOf, with_buffer, Copied, LevelCalls}, BufWriterLemmas.{Moves-bare, level_by_level}}
use Rattle.no_std_io2.proofs.{CallsLemmas.{made_more}, CopyLoop.{copied_ok, copied_err}}
use Rattle.no_std_io2.proofs.{TakesLemmas.{first_fault_taken, may_fail, no_failure, takes_to_end}, MovesLemmas.{Moves-then, Moves-ends}}
use Rattle.no_std_io2.specs.{declared.io.{Error.{Error}, CopyError.{CopyError}}, inner.{Pieces.{IsAll}, Copy.{side_error, HandsOn}}}
use Rattle.no_std_io2.specs.{inner.Faults.{HasFirstFault, MayFail}, Writers.{FlushOf}, Copy.{SidesCopied}, Retries.{IsFaultOf}}
use Rattle.std.proofs.Common.{IfSome}
use Rattle.system_streams.specs.Copies.{CopiesAll, HandsAndFlushes, HandsThrough, BufferCalls}

-- a copy, and then a flush
pub copies_all : {R W : Type 0} {K : Reader R} {I : Writer W} {from from' : R} {old mid : W} {n : ℕ} {end : WriterState}
    → Copied K I 64 from old (Ok n) from' mid → Moves (I.told mid) [] [] end → CopiesAll (tells K from) (I.told old) n end
copies_all ok flushed =
    let copied = copied_ok ok in
    record {
      taken = copied.taken;
      all = takes_to_end copied.taken copied.takes (copied.ends.at_end (omega arith));
      no_fault = copied.ends.no_fault;
      moves = Moves-ends copied.ends.moves flushed;
      count = copied.ends.count;
    }

-- a copy that failed met the reader's first fault, or a mishap of the writer's
pub copies_err : {R W : Type 0} {K : Reader R} {I : Writer W} {from from' : R} {old mid : W} {e : Error}
    → Copied K I 64 from old (Err e) from' mid → IsFaultOf (tells K from) (I.told old) e
copies_err {K = K} {I} {from} {from'} {old} {mid} err =
    let (side, is, copied) = copied_err err in subst (IsFaultOf (tells K from) (I.told old)) is (of_side side copied)
  where
    of_side : (side : CopyError) → SidesCopied K I 64 from old (Err side) from' mid
        → IsFaultOf (tells K from) (I.told old) (side_error side)
    of_side side copied = grind (arith, first_fault_taken, may_fail)

-- and if the flush after it failed, that was a mishap of the writer's too
pub flush_err : {R W : Type 0} {K : Reader R} {I : Writer W} {from from' : R} {old mid : W} {n : ℕ} {e : Error} {end : WriterState}
    → Copied K I 64 from old (Ok n) from' mid → Moves (I.told mid) [] (error_kind e ∷ []) end → IsFaultOf (tells K from) (I.told old) e
flush_err ok flushed = inr (may_fail (Moves-then (copied_ok ok).ends.moves flushed))

-- what was to come of a reader is to come of a buffer in front of it
all_through : (a b : ReaderState) (P : List Event) → to_come a ≡ to_come b → IsAll a P → IsAll b P
all_through a b P same all = subst (λ E. IfSome E (λ l. l ≡ P)) same all

-- and a fault of the two is one of those behind the buffers
pub fault_through : {E F : Option (List Event)} {old new : WriterState} {e : Error} → E ≡ F → old.mishaps ≡ new.mishaps
    → old.turns ≡ new.turns
    → IfSome E (λ l. HasFirstFault l e) ⊎ MayFail old e → IfSome F (λ l. HasFirstFault l e) ⊎ MayFail new e
fault_through same mishaps turns failed = grind (arith, IfSome, error_kind)

-- a reader without a fault and a writer without a mishap leave none
pub is_steady : (E : Option (List Event)) {old : WriterState} {e : Error} (P : Type 0) → IfSome E (λ l. HasFirstFault l e) ⊎ MayFail old e
    → IfSome E (λ l. HasNoFault l → old.mishaps ≡ Some [] → P)
is_steady None P failed = tt
is_steady (Some E) {old} {e} P failed = λ none steady. absurd (no_failure E old none steady e failed)

-- an empty buffer that is put in front and taken off again changes nothing
pub passes_off : {a b : ReaderState} {told inner mid end : WriterState} {n : ℕ} (buffer : List ℕ) → to_come a ≡ to_come b → inner ≡ told
    → buffer ≡ []
    → CopiesAll a (with_buffer inner buffer) n mid → Moves mid [] [] end → CopiesAll b told n end
passes_off {a} {b} {told = told} {end = end} buffer same same' empty copied left = record {
  taken = copied.taken;
  all = all_through a b copied.taken same copied.all;
  no_fault = copied.no_fault;
  moves = subst (λ t. Moves t (event_bytes copied.taken) [] end) same' (Moves-bare buffer empty (Moves-ends copied.moves left));
  count = copied.count;
}

-- nothing more is held
pub none_held : {a b : WriterState} → a.held ≡ [] → Moves a [] [] b → b.held ≡ []
none_held {a} {b} none moves =
    let whole : b.out ++ b.held ≡ a.out = moves.bytes ∙ append-nil (a.out ++ a.held) ∙ ap (λ l. a.out ++ l) none ∙ append-nil a.out in
    let grown = ap length moves.front.1 ∙ length-append a.out moves.front.0 in
    nil_from_length b.held (omega (arith, ap length whole, length-append b.out b.held, grown))

-- a tower that holds nothing comes apart
pub comes_apart : {A E : Type 0} {x : A} {e : E} (held buffer : List ℕ) → held ++ buffer ≡ []
    → (buffer ≡ [] → ◌≡◌ {A = Result A E} (Err e) (Ok x)) → ⊥
comes_apart held buffer none back =
    let same = back (nil_from_length buffer (omega (arith, ap length none, length-append held buffer))) in cc

-- a flush after a copy
pub flushed_behind : {R W : Type 0} {K : Reader R} {I : Writer W} {last : List ReadCall} {from from' : R} {old mid new : W}
    → HandsOn K I 64 last from old (Ok tt) from' mid → FlushOf I mid (Ok tt) new
    → HandsAndFlushes I old new
flushed_behind hands flushed =
    grind (arith, made_more)

-- through a buffer that was empty, is empty, and is taken off again
pub handed_through : {W B E : Type 0} (I : Writer W) {K : Writer B} (line : Bool) (inner : B → W) (buffer : B → List ℕ)
    → ((a b : B) (call : WriteCall) → K.may a call b
    → ByCalls (CallOf I) (inner a) (λ D. BufferCalls line (buffer a) call D (buffer b)) (inner b))
    → {output w : W} {old new : B} (held : List ℕ) → inner old ≡ output → buffer old ≡ [] → held ++ buffer new ≡ []
    → (buffer new ≡ [] → ◌≡◌ {A = Result W E} (Ok w) (Ok (inner new)))
    → HandsAndFlushes K old new → HandsThrough I line output w
handed_through I {K} line inner buffer each {output = output} {w = w} {old = old} {new} held at empty none back hands =
    let calls = hands.calls ++ Flushed (Ok tt) ∷ [] in
    let below = level_by_level I K inner buffer (BufferCalls line) each calls old new hands.made in
    let gone : buffer new ≡ [] = nil_from_length (buffer new) (omega (arith, ap length none, length-append held (buffer new))) in
    let same : inner new ≡ w = (let is = back gone in cc) in
    record {
      pieces = hands.pieces;
      calls = hands.calls;
      handed = hands.handed;
      below = below.calls;
      through =
          subst (λ l. LevelCalls (BufferCalls line) [] calls below.calls l) gone
          (subst (λ h. LevelCalls (BufferCalls line) h calls below.calls (buffer new)) empty below.are);
      made = subst (λ v. Made (CallOf I) v below.calls w) at (subst (λ v. Made (CallOf I) (inner old) below.calls v) same below.made);
    }

-- The prover does not find that one more item was yielded, nor the state before the `next` that ended the run.
use Rattle.no_std_io2.proofs.Words.{◌≡◌, ◌∙◌, ◌<◌, ap, [], ◌∷◌, ◌++◌, Some, Ok, inl, inr, refl, subst, returned_err}
use Rattle.std.{proofs.Common.{OnSome}, specs.Iterator.{IsFinite, size}}
use Rattle.io_bench.proofs.{RunLemmas.{appended-more}, PieceRunLemmas.{one_yielded, still_yielded}}
use Rattle.io_bench.proofs.pieces.run_items.Goals as goal

pub items-preserved : goal.items-preserved
items-preserved g c =
    let before = c.items.invariant in
    let I = g.I.Iterator in
    let item = c.in-Some-Ok.item in
    let is : c.next.result ≡ Some (Ok item) = c.in-Some-Ok.is ∙ ap Some c.in-Some-Ok.field-0-is in
    let pushed = c.push_reserved.ensures.items ∙ ap (λ l. l ++ item ∷ []) c.reserve_one.ensures.items in
    let now = c.next.new.self in
    let goes = subst (λ r. OnSome r (I.can_next now × IsFinite (I.remaining now)
    × (size (I.remaining now) < size (I.remaining c.items.iter))))
    is (c.next.ensures.goes.on before.finite) in
    record {
      can = goes.0;
      finite = goes.1;
      appends = appended-more _ item before.appends pushed;
      calls = one_yielded I.next_gives _ c.items.iter now _ item before.appends pushed before.calls c.next.ensures.steps is;
    }

pub returns-in-None-clause-calls : goal.returns-in-None-clause-calls
returns-in-None-clause-calls g c = (
  c.items.iter,
  still_yielded g.I.Iterator.next_gives _ _ _ c.reserve_one.ensures.items c.items.invariant.calls,
  subst (λ r. g.I.Iterator.next_gives c.items.iter r c.next.new.self) c.in-None.is c.next.ensures.steps,
)

pub returns-in-Some-Err-clause-calls : goal.returns-in-Some-Err-clause-calls
returns-in-Some-Err-clause-calls g c = (
  c.items.iter,
  still_yielded g.I.Iterator.next_gives _ _ _ c.reserve_one.ensures.items c.items.invariant.calls,
  inl (subst (λ r. g.I.Iterator.next_gives c.items.iter r c.next.new.self) (c.in-Some-Err.is ∙ ap Some c.in-Some-Err.field-0-is)
      c.next.ensures.steps),
)

pub returns-in_err-reserve_one-clause-calls : goal.returns-in_err-reserve_one-clause-calls
returns-in_err-reserve_one-clause-calls g c =
    rw (returned_err c.from_residual.ensures) (
      c.items.iter,
      still_yielded g.I.Iterator.next_gives _ _ _ c.reserve_one.ensures.items c.items.invariant.calls,
      inr (c.in_err-reserve_one.ensures.refused, c.in_err-reserve_one.ensures.full, refl),
    )

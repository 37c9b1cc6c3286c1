-- The bytes are put over those of the vector, or behind zeros: the search does not split the vector there.
use Rattle.std.proofs.Common.{◌≡◌, ℕ, ◌+◌, ◌-◌, ◌++◌, length, take, drop, replicate, arith, ap, sym, ◌∙◌, inl, inr, length-append}
use Rattle.std.proofs.{Common.{length-take, length-drop}, lemmas.List.{with_items_is}}
use borrow.Rule.Slice.PartMut.{put_mid}
use Rattle.no_std_io2_base.{specs.inner.Cursor.{put_at}, proofs.CursorLemmas.{left_after, IsLengthened, lengthened_reaches, put_lengthened}}
use Rattle.no_std_io2_base.proofs.cursor.vectors.put.Goals.{then-end-len+in_ok-lengthen, else-end-len}
use Rattle.no_std_io2_base.proofs.cursor.vectors.put.Goals as goal

pub returns-clause-put : goal.returns-clause-put
returns-clause-put g c =
    let bs = c.args.content.now.items in
    let x = c.args.buf.now in
    let start = c.args.start in
    let end = c.in-Some.end in
    let now = c.if-end-len.content in
    let shown = c.deref_mut.result.now in
    let k = end - start in
    let at : end ≡ start + length x = omega arith in
    let part = put_mid start k shown c.copy_bytes.new.to in
    let was = c.args.content.now.ok.0 in
    let grown : IsLengthened end bs now.items = elim c.if-end-len.branch [
      | then-end-len+in_ok-lengthen w ↦
          inr (
            omega (arith, w.if-end-len.true, c.len-2.ensures, was),
            ap (λ v. v.items) w.content-is ∙ w.in_ok-lengthen.ensures.items ∙ ap (λ n. bs ++ replicate (end - n) 0) was,
          )
      | else-end-len w ↦
          inl (omega (arith, w.if-end-len.false, c.len-2.ensures, was), ap (λ v. v.items) w.content-is)
    ] in
    let back : start + k ≡ end = omega (arith, at) in
    let rest : drop k (drop start shown) ≡ drop end shown = sym (left_after shown start k) ∙ ap (λ n. drop n shown) back in
    let is : part ≡ put_at start x bs = ap (λ l. take start shown ++ (l ++ drop k (drop start shown))) c.copy_bytes.ensures
    ∙ ap (λ l. take start shown ++ (x ++ l)) rest ∙ ap (λ l. take start l ++ (x ++ drop end l)) c.deref_mut.ensures.value
    ∙ put_lengthened start end x bs now.items at grown in
    let reach = lengthened_reaches end bs now.items grown in
    let copied = ap length c.copy_bytes.ensures in
    let seen = ap length c.deref_mut.ensures.value in
    let long : length part ≡ now.len =
    omega (arith, length-append {A = ℕ}, length-take {A = ℕ}, length-drop {A = ℕ}, copied, seen, now.ok.0, at, reach) in
    record { fits = omega (arith, at); puts = with_items_is now part long ∙ is; refused = tt; same = tt; full = tt }

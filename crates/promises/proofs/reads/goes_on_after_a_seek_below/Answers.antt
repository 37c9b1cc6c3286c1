-- The prover does not compare the held bytes with those of the content.
use Rattle.no_std_io2.proofs.Words.{◌≡◌, ℕ, ◌-◌, Ok, ◌∙◌, ap, arith, length, subst, reader_held, store_before}
use Rattle.no_std_io2.specs.{declared.io.SeekFrom.TheVariants.{Start}, Seek.{Seeks}}
use Rattle.promises.proofs.HeldPieces.{store_after, store_below}
use Rattle.promises.proofs.reads.goes_on_after_a_seek_below.Goals as goal

pub returns-in_err-seek : goal.returns-in_err-seek
returns-in_err-seek g c = grind (arith, store_after)

pub returns : goal.returns
returns g c = λ was told front after has at.
    let below = λ (len was now : ℕ). Seeks len was (Start c.args.place) (Ok c.in_ok-seek.field-0) now in
    let (s, is, kept) = store_after below _ _ c.in_ok-seek.ensures.law.store (ap g.R.Stored.store c.get_mut.ensures.value ∙ told) in
    let held = reader_held c.args.r.now in
    let place = kept.1.1 ∙ kept.1.0 ∙ at in
    let here = store_below held front after s has kept.0 place in
    let goes = λ (len was now : ℕ). Seeks len was c.args.target c.seek-2.result now in
    let (now, still, ends) = store_after goes _ _ c.seek-2.ensures.law.store (ap (store_before held) is ∙ here) in
    let first : s.position - length held ≡ length front = omega (arith, place) in (
      now,
      still,
      ends.0 ∙ kept.0,
      subst (λ len. Seeks len (length front) c.args.target c.seek-2.result now.position) (ap length kept.0)
          (subst (λ was. Seeks (length s.content) was c.args.target c.seek-2.result now.position) first ends.1),
    )

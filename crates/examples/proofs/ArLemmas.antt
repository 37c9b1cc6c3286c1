-- How a content is skipped, and the header behind it read; and what the calls of an entry leave of its archive.
use Rattle.no_std_io2.proofs.Words.{common_steps, ◌≡◌, ℕ, ◌-◌, ◌^◌, ◌<◌, List, [], ◌++◌, length, take, refl, sym, ap, ◌∙◌, inl, inr}
use Rattle.no_std_io2.proofs.Words.{event_bytes, min, Reader, tells, arith, append-nil, length-take, Result, Ok, Err, true, false, Bool}
use Rattle.no_std_io2.{proofs.{Words.{cases_lt}, TakesLemmas.{Took-then}}, specs.{declared.io.Error.{Error}, Read.{ReadFullLaw}}}
use Rattle.no_std_io2.specs.{Reads.{Skipped}, inner.{Read.{FillsOrMeetsEnd}, Reads.{GathersTo}}}
use Rattle.std.proofs.Math.Nat.{pow-le-pow_right}
use Rattle.examples.specs.{declared.ar.Archive.{Archive}, Ar.{archive_inner, content_left, head_read, ComesOn, ReachesHeader}}

-- with fewer than ten digits before it one more fits in a `u64`
pub decimal_fits : (n i : ℕ) → n < 10 ^ i → i < 10 → n < 2 ^ 34
decimal_fits n i small few = grind (arith, common_steps, pow-le-pow_right)

module _ {X : Type 0} {R : Reader X} (old new : Archive X) where
  -- the skip of a content failed
  pub skip_fails : {e : Error} {n left : ℕ} → Skipped R (archive_inner old) n (Err e) left (archive_inner new) → n ≡ content_left old
      → content_left new ≡ left → head_read new ≡ head_read old → ReachesHeader R old (Err e) new
  skip_fails {e} {left = left} s whole same stays = elim s.ends.1 [
    | inl fault ↦ (Err e, comes (Err e) fault, inl refl)
    | inr end ↦ (Ok false, comes (Ok false) (end.1, end.2), inr (refl, omega (arith, same, s.ends.0), end.0))
  ]
    where
      comes : (how : Result Bool Error) → GathersTo s.taken how (tells R (archive_inner new))
          → ComesOn R old how (content_left new) (head_read new) (archive_inner new)
      comes how ends = record {
        skipped = event_bytes s.taken;
        more = [];
        took = record { taken = s.taken; takes = s.takes; are = sym (append-nil _); ends = ends };
        content = omega (arith, s.count, whole, same);
        order = λ some. refl;
        header = stays ∙ sym (append-nil _);
      }

  -- it was skipped, and then the header was read on
  pub reads_on : {u : Unit {0}} {mid : X} {n left filled filled' : ℕ} {head head' : List ℕ} (reply : Result (Unit {0}) Error)
      → Skipped R (archive_inner old) n (Ok u) left mid → n ≡ content_left old → content_left new ≡ left
      → ReadFullLaw R mid head filled reply head' filled' (archive_inner new) → length head ≡ 61 → length head' ≡ 61
      → take filled head ≡ head_read old → take filled' head' ≡ head_read new → ReachesHeader R old reply new
  reads_on {left = left} {filled} {filled'} {head} {head'} reply s whole same law long long' was is = by reply law.ends
    where
      none : content_left new ≡ 0
      none = omega (arith, same, s.ends.1)

      comes : (how : Result Bool Error) → GathersTo law.taken how (tells R (archive_inner new))
          → ComesOn R old how (content_left new) (head_read new) (archive_inner new)
      comes how ends = record {
        skipped = event_bytes s.taken;
        more = event_bytes law.taken;
        took = Took-then (record { taken = s.taken; takes = s.takes; are = refl; ends = s.ends.0 })
            (record { taken = law.taken; takes = law.takes; are = refl; ends = ends });
        content = omega (arith, s.count, whole, same);
        order = λ some. absurd (omega (arith, some, none));
        header = sym is ∙ law.fills ∙ ap (λ l. l ++ event_bytes law.taken) was;
      }

      size : length (head_read new) ≡ min filled' 61
      size = ap length (sym is) ∙ length-take filled' head' ∙ ap (λ n. min filled' n) long'

      by : (r : Result (Unit {0}) Error) → FillsOrMeetsEnd (length head - filled) law.taken r (tells R (archive_inner new))
          → ReachesHeader R old r new
      by (Err e) ends = (Err e, comes (Err e) ends.0, inl refl)
      by (Ok u) ends = elim (cases_lt (length (event_bytes law.taken)) (length head - filled)) [
        | inl few ↦ (
          Ok false,
          comes (Ok false) (ends.0, ends.2 few),
          (none, inr (omega (arith, few, long, law.counts, size), refl)),
        )
        | inr full ↦ (Ok true, comes (Ok true) ends.0, (none, inl (omega (arith, full, long, law.counts, size), refl)))
      ]

-- The prover does not find that the bytes that were read lie behind the first ones.
use Rattle.no_std_io2.proofs.Words.{◌≡◌, ℕ, ◌+◌, ◌-◌, ◌≤◌, List, ◌++◌, length, take, drop, ap, ◌∙◌, arith, event_bytes}
use Rattle.no_std_io2.proofs.Words.{length-append, length-take, length-take-le, take-append-le, take-take}
use Rattle.no_std_io2_base.proofs.CallsLemmas.{by_are}
use Rattle.no_std_io2.proofs.buffered.buffer.Buffer.read_behind.Goals as goal

module _ (xs ys x : List ℕ) (end more to : ℕ) (fits : end + more ≤ length xs) (is : take to ys ≡ take end (take (end + more) xs) ++ x)
    (count : to ≡ end + length x) where
  -- no more was filled than there is
  within : to ≤ length ys
  within =
      let first = take (end + more) xs in
      let long = length-append (take end first) x in
      omega (arith, count, ap length is, long, length-take to ys, length-take end first, length-take (end + more) xs, fits)

  -- the bytes from the front on, after the room behind them was filled in part
  filled_on : (zs : List ℕ) → take to (ys ++ zs) ≡ take end xs ++ x
  filled_on zs = take-append-le to ys zs within ∙ is ∙ ap (λ l. l ++ x) (take-take end (end + more) xs (omega arith))

pub returns-clause-within : goal.returns-clause-within
returns-clause-within g c =
    let law = c.read_full.ensures.law in (
      omega (arith, law.counts),
      omega (
        arith,
        within c.args.bytes.now c.read_full.new.buf _ c.args.filled.now c.args.n c.read_full.new.filled c.requires law.fills law.counts,
        length-append c.read_full.new.buf (drop (c.args.filled.now + c.args.n) c.args.bytes.now),
      ),
    )

pub returns-clause-fills : goal.returns-clause-fills
returns-clause-fills g c =
    let law = c.read_full.ensures.law in
    let room : length (take (c.args.filled.now + c.args.n) c.args.bytes.now) - c.args.filled.now ≡ c.args.n =
    omega (arith, length-take-le (c.args.filled.now + c.args.n) c.args.bytes.now c.requires) in (
      event_bytes law.taken,
      filled_on c.args.bytes.now c.read_full.new.buf _ c.args.filled.now c.args.n c.read_full.new.filled c.requires law.fills law.counts _,
      by_are law.calls (λ C are. rw room at are),
    )

-- Reads that go on until a group is whole.
use Rattle.no_std_io2.proofs.Words.{common_steps, ◌≡◌, ℕ, ◌-◌, ◌<◌, ◌≤◌, List, [], ◌++◌, length, true, false, Ok, Err, sym, ap, ◌∙◌, arith}
use Rattle.no_std_io2.proofs.Words.{append_assoc, append-nil, length-append, nil_from_length, Reader, GaveLaw, bytes_given, IsFault}
use Rattle.no_std_io2.proofs.{Words.{IsInterruption}, ReadsLemmas.{Reads-none, Reads-more, Reads-again, Reads-end, Reads-fault}}
use Rattle.no_std_io2.{proofs.ReadLoops.{some_bytes}, specs.{declared.io.Error.{Error}, inner.{Buffer.{ReadsOn, AsksOn}, Reads.{Reads}}}}
use Rattle.base64_stream.specs.Held.{GathersText}

-- The characters that were read so far are behind the others.
pub record GatheredSoFar {R : Type 0} (I : Reader R) (from : R) (text : List ℕ) (now : R) (text' : List ℕ) : Type 0 where
  pub given : List ℕ
  pub reads : Reads I (AsksOn 256 4 text) from given (Ok true) now
  pub holds : text' ≡ text ++ given

-- before the first read
pub gathered_none : {R : Type 0} {I : Reader R} (from : R) (text : List ℕ) → GatheredSoFar I from text from text
gathered_none from text = record { given = []; reads = Reads-none from; holds = sym (append-nil text) }

module _ {R : Type 0} {I : Reader R} {a b : R} {held held' : List ℕ} where
  -- the bytes that a read gave
  gave_on : {k : ℕ} → ReadsOn I 256 a held (Ok k) held' b
      → (x : List ℕ) × GaveLaw I a (256 - length held) (Ok x) b × (k ≡ length x) × (held' ≡ held ++ x)
  gave_on {k} read = grind (arith, common_steps, bytes_given)

  -- or its error
  failed_on : {e : Error} → ReadsOn I 256 a held (Err e) held' b → GaveLaw I a (256 - length held) (Err e) b × (held' ≡ held)
  failed_on {e} read = grind (arith, common_steps, bytes_given, append-nil)

module _ {R : Type 0} {I : Reader R} {from now : R} {text text' : List ℕ} (before : GatheredSoFar I from text now text') where
  -- enough characters are there
  pub gathers_enough : 4 ≤ length text' → GathersText I from text (Ok true) now text'
  gathers_enough enough = grind (arith, common_steps)

  module _ (below : length text' < 4) where
    -- the room into which the next read goes
    asks : AsksOn 256 4 text (length before.given) (256 - length text')
    asks = let long = ap length before.holds ∙ length-append text before.given in (omega (arith, long, below), omega (arith, long, below))

    module _ {new : R} {more : List ℕ} where
      -- a read gave some characters more
      pub gathered_more : {k : ℕ} → ReadsOn I 256 now text' (Ok k) more new → (k ≡ 0 → ⊥) → GatheredSoFar I from text new more
      gathered_more read some = grind (arith, common_steps, gave_on, Reads-more, asks, some_bytes, append_assoc)

      -- a read was interrupted
      pub gathered_again : {e : Error} → ReadsOn I 256 now text' (Err e) more new → IsInterruption e → GatheredSoFar I from text new more
      gathered_again {e} read again = grind (arith, common_steps, failed_on, Reads-again, asks)

      -- a fault came before
      pub gathers_fault : {e : Error} → ReadsOn I 256 now text' (Err e) more new → IsFault e → GathersText I from text (Err e) new more
      gathers_fault {e} read fault = grind (arith, common_steps, failed_on, Reads-fault, asks)

      -- so did the end
      pub gathers_end : {k : ℕ} → ReadsOn I 256 now text' (Ok k) more new → k ≡ 0 → GathersText I from text (Ok false) new more
      gathers_end read zero = grind (arith, common_steps, gave_on, nil_from_length, append-nil, Reads-end, asks)

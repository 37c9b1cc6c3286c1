-- The byte that was read is the next one of the store; the other fields of the law are found.
use Rattle.no_std_io2.proofs.Words.{◌≡◌, ℕ, ◌+◌, ◌<◌, List, [], ◌∷◌, ◌++◌, length, take, drop, refl, ap, arith, rules}
use Rattle.no_std_io2.proofs.{CursorLemmas.{takes_at}, TextLemmas.{not_empty}}
use Rattle.std.proofs.{Common.{set, add-one}, Math.Seq.{drop-cons}}
use Rattle.examples.proofs.flash.FlashFileRead.read.Goals as goal

-- a buffer with this byte in front begins with it
first_of : (buf : List ℕ) (b : ℕ) → 0 < length buf → take 1 (set buf 0 b) ≡ b ∷ []
first_of [] b some = absurd (omega arith)
first_of (x ∷ xs) b some = refl

pub returns : goal.returns
returns g c =
    let here = c.args.self.now in
    let content = g.F.Flash.bytes here.flash in
    let within : here.place < length content = omega (arith, c.size.ensures, c.if-self-size.false) in
    let first = first_of c.args.buf.now c.byte_at.result (not_empty _ c.args.buf.now c.is_empty.ensures c.if-is_empty.false) in
    let split : drop here.place content ≡ take 1 (set c.args.buf.now 0 c.byte_at.result) ++ drop (here.place + 1) content =
    rw (first, add-one, c.byte_at.ensures) (drop-cons content here.place 0 within) in
    record {
      law = record {
        bound = search rules;
        takes = takes_at content here.place (here.place + 1) _ split (omega (arith, ap length first));
        end = λ zero room. absurd (omega (arith, zero));
        call = search rules;
      };
    }

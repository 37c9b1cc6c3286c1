-- Frames are sent one after another.
use Rattle.no_std_io2.proofs.Words.{◌==◌, ◌<◌, ◌-◌, Bool, true, false, length, take, drop, get_or, arith, ◌≡◌, ℕ, List, [], ◌∷◌, ◌++◌, Ok}
use Rattle.no_std_io2.proofs.Words.{map, refl, sym, ap, subst, ◌∙◌, append_assoc, append-nil, nil_from_length, Writer, Moves, common_steps}
use Rattle.no_std_io2.proofs.MovesLemmas.{Moves-refl, Moves-trans}
use Rattle.std.proofs.{Common.{take_all, Bor, eqb-true}, lemmas.List.{map-append, Folds.{concat-append}}}
use Rattle.framing.specs.{declared.writer.FrameWriter.{FrameWriter}, Frames.{frame, frames}}
use Rattle.framing.specs.Sending.{writer_tells, PutsEach, SendsFrame, SentSoFar}

-- one frame more
frames_more : (ps : List (List ℕ)) (p : List ℕ) → frames (ps ++ p ∷ []) ≡ frames ps ++ frame p
frames_more ps p = rw (map-append, concat-append, append-nil)

module _ {W : Type 0} {S : ℕ} (I : Writer W) where
  -- what the sending of a frame tells
  frame_moves : {old new : FrameWriter W S} {p : List ℕ} → SendsFrame I p old (Ok tt) new
      → Moves (writer_tells I.told old) (frame p) [] (writer_tells I.told new)
  frame_moves sends = grind (arith, common_steps)

  each_more : (old : FrameWriter W S) {now new : FrameWriter W S} (ps : List (List ℕ)) {p : List ℕ} → PutsEach I old ps now
      → SendsFrame I p now (Ok tt) new → PutsEach I old (ps ++ p ∷ []) new
  each_more old {new = new} [] {p = p} same sends = (new, subst (λ w. SendsFrame I p w (Ok tt) new) same sends, refl)
  each_more old (x ∷ ps) each sends = (each.0, each.1, each_more each.0 ps each.2 sends)

  pub sent_none : (old : FrameWriter W S) (payloads : List (List ℕ)) → SentSoFar I old payloads old payloads
  sent_none old payloads = record { sent = []; split = refl; each = refl; moves = Moves-refl (writer_tells I.told old) }

  pub sent_more : {old now new : FrameWriter W S} {payloads left : List (List ℕ)} (p : List ℕ) (others : List (List ℕ))
      → SentSoFar I old payloads now left → left ≡ p ∷ others → SendsFrame I p now (Ok tt) new → SentSoFar I old payloads new others
  sent_more {old} {new = new} p others before is sends = record {
    sent = before.sent ++ p ∷ [];
    split = before.split ∙ ap (λ l. before.sent ++ l) is ∙ sym (append_assoc before.sent (p ∷ []) others);
    each = each_more old before.sent before.each sends;
    moves = rw (frames_more before.sent p) (Moves-trans before.moves (frame_moves sends));
  }

-- whether a slice has elements
pub some_there : {X : Type 0} (b : Bool) (xs : List X) → b ≡ (length xs == 0) → b ≡ false → 0 < length xs
some_there b xs is h = grind (arith, common_steps)

pub none_there : {X : Type 0} (b : Bool) (xs : List X) → b ≡ (length xs == 0) → b ≡ true → xs ≡ []
none_there b xs is h = nil_from_length xs (eqb-true (length xs) 0 (sym is ∙ h))

-- the first of some borrowed payloads, and the others
pub first_there : (xs : List (Bor (List ℕ))) (d : Bor (List ℕ)) → 0 < length xs
    → map (λ p. p.now) xs ≡ (get_or xs 0 d).now ∷ map (λ p. p.now) (take (length xs - 1) (drop 1 xs))
first_there xs d some = grind (arith, common_steps, take_all)

-- How a text is printed into an array, and then logged.
use Rattle.no_std_io2.proofs.Words.{Bool, ◌≡◌, ◌⊎◌, List, ℕ, true, false, true≢false, Option, None, Some, Result, sym, ◌∙◌, refl, inl, inr}
use Rattle.no_std_io2.{proofs.Words.{Writer}, specs.declared.io.Error.{Error}}
use Rattle.std.proofs.Common.{IfSome}
use Rattle.line_log.specs.{declared.{printed.Printed.{Printed}, LineLog.{LineLog}}, Text.{printed_bytes, PrintsText}}
use Rattle.line_log.specs.Log.{LogsLine, LogsText}

-- a text that fits was printed whole
printed_all : {S : ℕ} (p : Printed S) (output : Option (List ℕ)) → PrintsText output p → p.failed ≡ false → p.fits ≡ true
    → IfSome output (λ bs. printed_bytes p ≡ bs)
printed_all p output (inl failed) went fits = absurd (true≢false (sym failed ∙ went))
printed_all p None (inr h) went fits = tt
printed_all p (Some bs) (inr (inl h)) went fits = h.1
printed_all p (Some bs) (inr (inr h)) went fits = absurd (true≢false (sym fits ∙ h.0))

-- and it was logged
pub text_logged : {W : Type 0} {S : ℕ} (I : Writer W) (output : Option (List ℕ)) (p : Printed S) {old new : LineLog W S} {line : List ℕ}
    (reply : Result (Unit {0}) Error) → PrintsText output p → p.failed ≡ false → p.fits ≡ true → line ≡ printed_bytes p
    → LogsLine I line old reply new → LogsText I output old reply new
text_logged I output p reply prints went fits is logs = inl (printed_bytes p, printed_all p output prints went fits, rw is at logs)

-- a test holds, or what follows if it does not
pub true_or : {A : Type 0} (b : Bool) → (b ≡ false → A) → (b ≡ true) ⊎ A
true_or true other = inl refl
true_or false other = inr (other refl)

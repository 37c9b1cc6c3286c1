-- What the streams of the crate `base64` say of known bytes.
use Rattle.std.proofs.Common.{◌≡◌, ℕ, List, [], ◌++◌, Option, None, Some, Ok, IfSome, ap, subst, ◌∙◌, option_and_then}
use Rattle.base64.specs.{declared.engine.general_purpose.GeneralPurpose.{GeneralPurpose}, GeneralPurpose.{decode_of, decoded_of}}
use Rattle.base64.proofs.Streams.{decoded_of-ok}

-- all that a decoder had left was read
pub read_decoded : (engine : GeneralPurpose) (left come : Option (List ℕ)) (old got : List ℕ)
    → left ≡ option_and_then (decoded_of engine) come → IfSome left (λ x. got ≡ old ++ x) → old ≡ []
    → IfSome come (λ text. (x : List ℕ) → decode_of engine text ≡ Ok x → got ≡ x)
read_decoded engine left None old got is all none = tt
read_decoded engine left (Some text) old got is all none = λ x decodes.
    subst (λ o. IfSome o (λ x. got ≡ old ++ x)) (is ∙ decoded_of-ok engine text x decodes) all ∙ ap (λ l. l ++ x) none

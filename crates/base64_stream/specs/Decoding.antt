-- What events of base64 text are decoded to, a group of four characters at a time.
use Rattle.std.specs.Prelude.{ℕ, nat_lt, Bool, true, false, if◌then◌else◌, List, [], ◌∷◌, ◌++◌, length, Result, Ok, Err}
use Rattle.base64.specs.{declared.decode.DecodeError.{DecodeError}, declared.engine.general_purpose.GeneralPurpose.{GeneralPurpose}}
use Rattle.base64.specs.GeneralPurpose.{decode_of}
use Rattle.no_std_io2.specs.{declared.io.ErrorKind.TheVariants.{InvalidData}, Errors.{error_kind}, inner.Kinds.{error_of, is_interruption}}
use Rattle.no_std_io2.specs.Events.{Event, byte, fails, events_of}

-- the bytes of a result: none if it is an error
abbrev pub or_no_bytes : Result (List ℕ) DecodeError → List ℕ
or_no_bytes (Ok x) = x
or_no_bytes (Err e) = []

-- The bytes of a group, by this engine: none if it is refused. After a group with padding, which closes the text, each is refused.
abbrev pub decoded_group : GeneralPurpose → Bool → List ℕ → List ℕ
decoded_group engine true group = []
decoded_group engine false group = or_no_bytes (decode_of engine group)

-- what a group with these bytes gives: if it is refused, the error `InvalidData`
abbrev pub group_events : List ℕ → List Event
group_events [] = fails (error_of InvalidData) ∷ []
group_events (b ∷ x) = events_of (b ∷ x)

-- whether the text is closed after a group with these bytes: if there are some, but fewer than three, it has padding
abbrev pub closed_after : Bool → List ℕ → Bool
closed_after closed [] = closed
closed_after closed (b ∷ x) = nat_lt (length (b ∷ x)) 3

-- what the end of the text gives, after these first characters of a group
abbrev pub last_events : GeneralPurpose → Bool → List ℕ → List Event
last_events engine closed [] = []
last_events engine closed (b ∷ x) = group_events (decoded_group engine closed (b ∷ x))

-- What is decoded of these events, after the first characters `text` of a group. A fault stays at its place, and interruptions go.
abbrev pub decoded_events : GeneralPurpose → Bool → List ℕ → List Event → List Event
decoded_events engine closed text [] = last_events engine closed text
decoded_events engine closed text (byte b ∷ E) =
    if nat_lt (length text) 3 then decoded_events engine closed (text ++ b ∷ []) E
    else group_events (decoded_group engine closed (text ++ b ∷ []))
    ++ decoded_events engine (closed_after closed (decoded_group engine closed (text ++ b ∷ []))) [] E
decoded_events engine closed text (fails e ∷ E) =
    if is_interruption (error_kind e) then decoded_events engine closed text E else fails e ∷ decoded_events engine closed text E

-- What is to come of the front of a text.
use Rattle.std.proofs.Common.{◌≡◌, ℕ, List, take, ap, ◌∙◌}
use Rattle.no_std_io2.{specs.{Events.{event_bytes, events_of}, inner.Events.{cut}}, proofs.TakesLemmas.{bytes-cut, bytes-events_of}}

-- a text that is cut at n gives its first n bytes
pub front_bytes : (n : ℕ) (text : List ℕ) → event_bytes (cut n (events_of text)) ≡ take n text
front_bytes n text = bytes-cut n (events_of text) ∙ ap (take n) (bytes-events_of text)

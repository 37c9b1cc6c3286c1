-- Room was made before the reads: the law says the same of the vector with less room.
use Rattle.std.proofs.Common.{◌≡◌, ℕ, List, ◌≤◌, ◌++◌, ◌∙◌, Result, Vec, vec_len, vec_capacity, Ok, Err, inl, inr, ap, arith, le_trans}
use Rattle.no_std_io2_base.specs.{declared.error.Error.{Error}, Events.{Event, event_bytes}, Takes.{ReaderState, Reader, tells}}
use Rattle.no_std_io2_base.specs.{Read.{ReadToEndLaw}, inner.Read.{DrainsOrStops}}
use Rattle.no_std_io2_base.proofs.impls.queues.VecDequeU8Read.read_to_end.Goals as goal

-- how it ended, with a weaker reason for a failed allocation
ends_weaker : (P : List Event) {lacks lacks' : Type 0} (reply : Result ℕ Error) (new : ReaderState) → (lacks → lacks')
    → DrainsOrStops lacks P reply new → DrainsOrStops lacks' P reply new
ends_weaker P (Ok n) new why ends = ends
ends_weaker P (Err e) new why (inl fault) = inl fault
ends_weaker P (Err e) new why (inr (none, refused, lack)) = inr (none, refused, why lack)

-- the law, of a vector that had less room before
reserved : {X A : Type 0} {R : Reader X} {old new : X} {buf mid v : Vec ℕ A} (reply : Result ℕ Error) → mid.items ≡ buf.items
    → vec_len mid ≡ vec_len buf → vec_capacity buf ≤ vec_capacity mid → ReadToEndLaw R old mid reply v new
    → ReadToEndLaw R old buf reply v new
reserved {R = R} {new = new} reply same len grown law = record {
  taken = law.taken;
  takes = law.takes;
  appends = (law.appends.0 ∙ ap (λ l. l ++ event_bytes law.taken) same, law.appends.1);
  ends = ends_weaker law.taken reply (tells R new) (λ lack. omega (arith, lack, len, grown)) law.ends;
  capacity = le_trans grown law.capacity;
  calls = law.calls;
}

pub returns : goal.returns
returns g c =
    let room = c.reserve_ahead.ensures in
    record { law = reserved c.drain.result room.items room.len room.grows c.drain.ensures.law }

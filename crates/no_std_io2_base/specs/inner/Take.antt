-- The limit and the inner stream of a `Take`, what it tells, and what its calls and its seeks do.
use Rattle.std.specs.Prelude.{◌≡◌, ◌≢◌, ℕ, ℤ, ◌+◌, ◌-◌, ◌^◌, ◌<◌, ◌≤◌, ◌⊎◌, Result, Ok, Err, OnOk, OnErr, IsErrAnd, min, List, [], length}
use Rattle.std.specs.Prelude.{take, Option, None, Some}
use Rattle.no_std_io2_base.specs.{declared.error.Error.{Error}, declared.traits.seek.SeekFrom.{SeekFrom}}
use Rattle.no_std_io2_base.specs.{declared.traits.seek.SeekFrom.TheVariants.{Current}, declared.traits.take.Take.{Take}}
use Rattle.no_std_io2_base.specs.{inner.Errors.{IsInvalidSeek}, Seek.{Seeker, SeekRelativeLaw, IsTarget}}
use Rattle.no_std_io2_base.specs.{Calls.{SeekCall, Sought, Measured, Moved, ReadCall, Gave, Filled, Consumed}, inner.Seek.{IsAtOffset}}
use Rattle.no_std_io2_base.specs.{Events.{Event, event_bytes}, inner.Events.{cut}, Takes.{ReaderState, Takes, to_come, Reader, tells}}
use Rattle.no_std_io2_base.specs.{Read.{ReadCallLaw}, inner.Read.{bytes_given}}

-- `t.limit()`
abbrev pub limit_left : {T : Type 0} → Take T → ℕ
limit_left t = t.limit

-- the limit that was set last, from which positions are counted
abbrev pub limit_set : {T : Type 0} → Take T → ℕ
limit_set t = t.len

-- how far the limit has fallen since then
abbrev pub limit_position : {T : Type 0} → Take T → ℕ
limit_position t = t.len - t.limit

-- `t.into_inner()`
abbrev pub limit_inner : {T : Type 0} → Take T → T
limit_inner t = t.inner

-- t after `*t.get_mut() = x`
abbrev pub limit_with_inner : {T : Type 0} → Take T → T → Take T
limit_with_inner t x = record t { inner = x }

-- the events up to and including the byte at the limit, if they are told
abbrev pub cut_to_come : ℕ → Option (List Event) → Option (List Event)
cut_to_come limit None = None
cut_to_come limit (Some E) = Some (cut limit E)

-- the events of a `Take` of a reader that tells this
abbrev pub limit_events : {T : Type 0} → (T → ReaderState) → Take T → Option (List Event)
limit_events told t = cut_to_come t.limit (to_come (told t.inner))

-- at most `limit` of the inner reader's held bytes
abbrev pub limit_held : {T : Type 0} → (T → List ℕ) → Take T → List ℕ
limit_held held t = take t.limit (held t.inner)

-- at most the first k of the lent bytes, or the error
abbrev pub lent_within : ℕ → Result (List ℕ) Error → Result (List ℕ) Error
lent_within k (Ok x) = Ok (take k x)
lent_within k (Err e) = Err e

-- From old to new a `Take` took P, which does not go past the byte at the limit: so did its inner reader, and the limit fell by the bytes
-- of P. At limit 0 nothing changed.
pub record LimitTakes {T : Type 0} (inner : Reader T) (old : Take T) (P : List Event) (new : Take T) : Type 0 where
  pub takes : Takes (tells inner (limit_inner old)) P (tells inner (limit_inner new))
  pub within : cut (limit_left old) P ≡ P
  pub limit : limit_left new + length (event_bytes P) ≡ limit_left old
  pub len : limit_set new ≡ limit_set old
  pub at_limit : limit_left old ≡ 0 → new ≡ old

-- From old to new a `Take` made this call of its inner reader, and the limit fell by n. At limit 0 it made none, and nothing changed.
pub record LimitAsks {T : Type 0} (inner : Reader T) (old : Take T) (call : ReadCall) (n : ℕ) (new : Take T) : Type 0 where
  pub limit : limit_left new + n ≡ limit_left old
  pub len : limit_set new ≡ limit_set old
  pub at_limit : limit_left old ≡ 0 → new ≡ old
  pub asks : 0 < limit_left old → ReadCallLaw inner (limit_inner old) call (limit_inner new)

-- What a call may do to a `Take`: at limit 0 it gives nothing. Above 0, a `read` is one inner read into as much of the room as the limit
-- allows, a `fill_buf` lends as many as the limit allows of the bytes that the inner reader lends, and a `consume` is one inner `consume`.
abbrev pub LimitMay : {T : Type 0} → Reader T → Take T → ReadCall → Take T → Type 0
LimitMay inner old (Gave room answer) new = (limit_left old ≡ 0 → answer ≡ Ok [])
    × LimitAsks inner old (Gave (min room (limit_left old)) answer) (length (bytes_given answer)) new
LimitMay inner old (Filled answer) new = (lent : Result (List ℕ) Error) × (limit_left old ≡ 0 → answer ≡ Ok [])
    × (0 < limit_left old → answer ≡ lent_within (limit_left old) lent) × LimitAsks inner old (Filled lent) 0 new
LimitMay inner old (Consumed n) new = LimitAsks inner old (Consumed n) n new
LimitMay inner old _ new = ⊥

-- n is the target of this seek, and within the `Take`
abbrev pub IsWithin : {T : Type 0} → Take T → SeekFrom → ℕ → Type 0
IsWithin t from n = IsTarget (limit_set t) (limit_position t) from n × (n ≤ limit_set t)

-- If the target is within the `Take`, it goes there. If not, the seek is refused, and nothing changes.
abbrev GoesWithin : {T A : Type 0} → Take T → SeekFrom → (ℕ → Type 0) → Result A Error → Take T → Type 0
GoesWithin old from Goes reply new = ((n : ℕ) → IsWithin old from n → Goes n)
    × (((n : ℕ) → IsWithin old from n → ⊥) → IsErrAnd reply IsInvalidSeek × (new ≡ old))

-- The inner stream made this `seek_relative`. If it succeeded, the position moved by the offset too; if not, it stayed.
pub record LimitSteps {T : Type 0} (S : Seeker T) (old : Take T) (offset : ℤ) (reply : Result (Unit {0}) Error)
    (new : Take T) : Type 0 where
  pub step : SeekRelativeLaw S (limit_inner old) offset reply (limit_inner new)
  pub len : limit_set new ≡ limit_set old
  pub moves : OnOk reply (IsAtOffset (limit_position old) offset (limit_position new) × (limit_left new ≤ limit_set new))
  pub stays : OnErr reply (limit_left new ≡ limit_left old)

-- the offset of a step from one position towards n: it leads to n, or as near to n as an `i64` can lead
abbrev pub IsStep : ℕ → ℕ → ℤ → Type 0
IsStep at n offset = IsAtOffset at offset n ⊎ (IsAtOffset at offset (at + (2 ^ 63 - 1)) × (at + (2 ^ 63 - 1) < n))
    ⊎ (IsAtOffset at offset (at - 2 ^ 63) × (n + 2 ^ 63 < at))

-- A `Take` goes to the position n, by steps of its inner stream. The first that fails ends this.
pub data LimitGoes {T : Type 0} (S : Seeker T) (n : ℕ) : Take T → Result ℕ Error → Take T → Type 0 where
  arrived : {t : Take T} → limit_position t ≡ n → LimitGoes S n t (Ok n) t
  and_step : {old mid new : Take T} {offset : ℤ} {reply : Result ℕ Error} → limit_position old ≢ n → IsStep (limit_position old) n offset
      → LimitSteps S old offset (Ok tt) mid → LimitGoes S n mid reply new → LimitGoes S n old reply new
  and_fault : {old new : Take T} {offset : ℤ} {e : Error} → limit_position old ≢ n → IsStep (limit_position old) n offset
      → LimitSteps S old offset (Err e) new → LimitGoes S n old (Err e) new

-- what a seek may do to a `Take`
abbrev pub LimitMaySeek : {T : Type 0} → Seeker T → Take T → SeekCall → Take T → Type 0
LimitMaySeek S old (Sought from reply) new = GoesWithin old from (λ n. LimitGoes S n old reply new) reply new
LimitMaySeek S old (Moved offset reply) new = GoesWithin old (Current offset) (λ n. LimitSteps S old offset reply new) reply new
LimitMaySeek S old (Measured reply) new = (reply ≡ Ok (limit_set old)) × (new ≡ old)

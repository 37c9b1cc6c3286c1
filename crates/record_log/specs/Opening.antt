-- What the reads of `open` give of known bytes, and where it stands.
use Rattle.std.specs.Prelude.{◌≡◌, ℕ, ◌+◌, ◌-◌, ◌<◌, ◌≤◌, ◌^◌, List, ◌++◌, length, take, drop, Option, Some, None, Bool, true, Result, Ok}
use Rattle.std.specs.{Prelude.{Err, false, pos}, List.{fold}}
use Rattle.no_std_io2.specs.{Events.{Event, events_of}, Takes.{Reader}, Reads.{Fetches}, Seek.{Seeker, SeekLaw}, declared.io.Error.{Error}}
use Rattle.no_std_io2.specs.declared.io.SeekFrom.TheVariants.{Start, End}
use Rattle.record_log.specs.{Records.{add_number, record_of, log_of, HasNoRecord, HasRecords}, declared.opening.Opened.{Opened}}

-- Bytes were read, and reads may go on; or they met the end, or a fault. After that no read was made.
abbrev pub FetchesSome : {X : Type 0} → Reader X → X → Result Bool Error → X → Type 0
FetchesSome R old how new = (x : List ℕ) × Fetches R old x how new

-- how the reads of a call ended that gives something, or nothing at the end
abbrev pub how_ended : {A : Type 0} → Result (Option A) Error → Result Bool Error
how_ended (Ok (Some x)) = Ok true
how_ended (Ok None) = Ok false
how_ended (Err e) = Err e

-- bytes were read without a fault, perhaps up to the end; or a fault came, which is the result
abbrev pub FetchesAll : {X A : Type 0} → Reader X → X → Result A Error → X → Type 0
FetchesAll R old (Ok x) new = (more : Bool) × FetchesSome R old (Ok more) new
FetchesAll R old (Err e) new = FetchesSome R old (Err e) new

-- The same, and after a record that was passed, reads may go on.
abbrev pub FetchesRecord : {X A : Type 0} → Reader X → X → Result (Option A) Error → X → Type 0
FetchesRecord R old (Ok (Some n)) new = FetchesSome R old (Ok true) new
FetchesRecord R old reply new = FetchesAll R old reply new

-- of these bytes, the first filled a piece, and the others are to come; or they were too few
abbrev pub GivesPiece : List ℕ → Bool → List ℕ → Option (List Event) → Type 0
GivesPiece bytes true piece left =
    (length piece ≤ length bytes) × (piece ≡ take (length piece) bytes) × (left ≡ Some (events_of (drop (length piece) bytes)))
GivesPiece bytes false piece left = length bytes < length piece

-- the check of the first n bytes, added to another, and the others are to come; or they were too few
abbrev pub AddsPiece : List ℕ → ℕ → ℕ → Option ℕ → Option (List Event) → Type 0
AddsPiece bytes n check (Some sum) left =
    (n ≤ length bytes) × (sum ≡ fold add_number check (take n bytes)) × (left ≡ Some (events_of (drop n bytes)))
AddsPiece bytes n check None left = length bytes < n

-- the first record was passed, and has this length; or there is none
abbrev pub PassesRecord : List ℕ → Option ℕ → Option (List Event) → Type 0
PassesRecord bytes (Some n) left = (payload : List ℕ) × (rest : List ℕ) × (length payload < 2 ^ 32) × (bytes ≡ record_of payload ++ rest)
    × (n ≡ 8 + length payload) × (left ≡ Some (events_of rest))
PassesRecord bytes None left = HasNoRecord bytes

-- the whole records at the front have this length
abbrev pub PassesRecords : List ℕ → ℕ → Type 0
PassesRecords bytes n = (payloads : List (List ℕ)) × (rest : List ℕ) × HasRecords bytes payloads rest × (n ≡ length (log_of payloads))

-- the whole records at the front of the content, the number of their bytes, and of those behind them
abbrev pub Opens : List ℕ → ℕ → ℕ → Type 0
Opens content end torn = (payloads : List (List ℕ)) × (rest : List ℕ) × HasRecords content payloads rest
    × (end ≡ length (log_of payloads)) × (torn ≡ length rest)

-- The calls of an `open`, each after one that succeeded: a seek to the start, reads, a seek to the end, which gives the length, and one to
-- the end of the records. If one fails, it is the last, and its error is the result.
pub data OpensBy {X : Type 0} (S : Seeker X) (R : Reader X) (old : X) : Result Opened Error → X → Type 0 where
  failed_start : {e : Error} {new : X} → SeekLaw S old (Start 0) (Err e) new → OpensBy S R old (Err e) new
  failed_read : {e : Error} {a new : X} (i : ℕ) → SeekLaw S old (Start 0) (Ok i) a → FetchesSome R a (Err e) new
      → OpensBy S R old (Err e) new
  failed_end : {e : Error} {a b new : X} (i : ℕ) (more : Bool) → SeekLaw S old (Start 0) (Ok i) a → FetchesSome R a (Ok more) b
      → SeekLaw S b (End (pos 0)) (Err e) new → OpensBy S R old (Err e) new
  failed_place : {e : Error} {a b c new : X} (i n end : ℕ) (more : Bool) → SeekLaw S old (Start 0) (Ok i) a → FetchesSome R a (Ok more) b
      → SeekLaw S b (End (pos 0)) (Ok n) c → SeekLaw S c (Start end) (Err e) new → OpensBy S R old (Err e) new
  opened : {a b c new : X} {o : Opened} (i n j : ℕ) (more : Bool) → SeekLaw S old (Start 0) (Ok i) a → FetchesSome R a (Ok more) b
      → SeekLaw S b (End (pos 0)) (Ok n) c → SeekLaw S c (Start o.end) (Ok j) new → o.torn ≡ n - o.end → OpensBy S R old (Ok o) new

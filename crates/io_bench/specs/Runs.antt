-- The bytes that replies accept, the calls that failed, and whole runs.
use Rattle.no_std_io2.specs.{inner.Writers.{CallOf}, Writers.{TakesAll, Writer}, declared.io.ErrorKind.{ErrorKind}, Errors.{error_kind}}
use Rattle.no_std_io2.specs.{inner.Kinds.{kind_number}, Moves.{WriterState, Moves, IsFront}, inner.Write.{zero_write, AllCalls}}
use Rattle.no_std_io2.specs.Calls.{WriteCall, Wrote, Flushed, ByCalls}
use Rattle.std.specs.Prelude.{◌≡◌, ℕ, ◌+◌, ◌≤◌, ◌==◌, ◌&&◌, nat_lt, Bool, true, false, if◌then◌else◌, List, [], ◌∷◌, ◌++◌, length, take}
use Rattle.std.specs.{Prelude.{count_by, ⊤, Option, None, Some, Ok, Err}, List.{AllZip}}
use Rattle.io_bench.specs.declared.runs.{Op.{Op, TheVariants.{Write, WriteAll, Flush}}, Reply.{Reply, TheVariants.{Took, Done, Failed}}}

-- the bytes that a call with this reply accepted
abbrev pub Accepts : Op → Reply → List ℕ → Type 0
Accepts (Write x) (Took n) accepted = (n ≤ length x.now) × (accepted ≡ take n x.now)
Accepts (Write x) (Failed e) accepted = accepted ≡ []
Accepts (WriteAll x) Done accepted = accepted ≡ x.now
Accepts (WriteAll x) (Failed e) accepted = IsFront accepted x.now
Accepts Flush Done accepted = accepted ≡ []
Accepts Flush (Failed e) accepted = accepted ≡ []
-- there is no other reply
Accepts _ _ accepted = ⊥

-- the calls that a call of the run makes of the writer: its own, with the result that the reply says
abbrev pub OpCalls : Op → Reply → List WriteCall → Type 0
OpCalls (Write x) (Took n) calls = calls ≡ Wrote x.now (Ok n) ∷ []
OpCalls (Write x) (Failed e) calls = calls ≡ Wrote x.now (Err e) ∷ []
OpCalls (WriteAll x) Done calls = AllCalls calls x.now (Ok tt)
OpCalls (WriteAll x) (Failed e) calls = AllCalls calls x.now (Err e)
OpCalls Flush Done calls = calls ≡ Flushed (Ok tt) ∷ []
OpCalls Flush (Failed e) calls = calls ≡ Flushed (Err e) ∷ []
-- there is no other reply
OpCalls _ _ calls = ⊥

-- the lists are equally long, and `whole` is the lists that each call and its reply give, joined
abbrev pub JoinsEach : {A : Type 0} → (Op → Reply → List A → Type 0) → List Op → List Reply → List A → Type 0
JoinsEach gives [] [] whole = whole ≡ []
JoinsEach {A} gives (op ∷ ops) (reply ∷ replies) whole =
    (first : List A) × (rest : List A) × gives op reply first × JoinsEach gives ops replies rest × (whole ≡ first ++ rest)
JoinsEach gives _ _ whole = ⊥

-- `accepted` are the bytes that the calls accepted by their replies, joined
abbrev pub Run : List Op → List Reply → List ℕ → Type 0
Run ops replies accepted = JoinsEach Accepts ops replies accepted

-- a run made its calls of a writer, one after another, and each kept its law
abbrev pub RunCalls : {W : Type 0} → Writer W → W → List Op → List Reply → W → Type 0
RunCalls I old ops replies new = ByCalls (CallOf I) old (JoinsEach OpCalls ops replies) new

-- a run through a tower of buffers made calls of the device below, which `tower` relates to the calls of the tower
abbrev pub RunBelow : {W : Type 0} → Writer W → (List WriteCall → List WriteCall → Type 0) → W → List Op → List Reply → W → Type 0
RunBelow I tower old ops replies new =
    ByCalls (CallOf I) old (λ below. (calls : List WriteCall) × JoinsEach OpCalls ops replies calls × tower calls below) new

-- the mishap that a reply counts as, if it is one
abbrev pub mishap_of : Op → Reply → List ErrorKind
mishap_of (Write x) (Took n) = zero_write n x.now
mishap_of op (Failed e) = error_kind e ∷ []
mishap_of _ _ = []

-- the mishaps of a run, in order
abbrev pub mishaps_of : List Op → List Reply → List ErrorKind
mishaps_of (op ∷ ops) (reply ∷ replies) = mishap_of op reply ++ mishaps_of ops replies
mishaps_of _ _ = []

-- whether a call failed: with an error, or because a write took none of its bytes
abbrev pub is_failure : Op → Reply → Bool
is_failure (Write x) (Took n) = (n == 0) && nat_lt 0 (length x.now)
is_failure op (Failed e) = true
is_failure _ _ = false

-- how many calls failed
abbrev pub failures : List Op → List Reply → ℕ
failures (op ∷ ops) (reply ∷ replies) = (if is_failure op reply then 1 else 0) + failures ops replies
failures _ _ = 0

-- how many of these kinds are this one
abbrev count_of : ErrorKind → List ErrorKind → ℕ
count_of kind kinds = count_by (λ other. kind_number other == kind_number kind) kinds

-- how many calls failed with this kind
abbrev pub failures_of : ErrorKind → List Op → List Reply → ℕ
failures_of kind ops replies = count_of kind (mishaps_of ops replies)

-- told mishaps stay told, and at least n of them are gone
abbrev pub IsShorterBy : ℕ → Option (List ErrorKind) → Option (List ErrorKind) → Type 0
IsShorterBy n None new = ⊤
IsShorterBy n (Some old) None = ⊥
IsShorterBy n (Some old) (Some new) = length new + n ≤ length old

-- told mishaps stay told, and at least n of this kind are gone
abbrev pub HasFewer : ErrorKind → ℕ → Option (List ErrorKind) → Option (List ErrorKind) → Type 0
HasFewer kind n None new = ⊤
HasFewer kind n (Some old) None = ⊥
HasFewer kind n (Some old) (Some new) = count_of kind new + n ≤ count_of kind old

-- a flush that succeeded
abbrev pub IsFlushed : Op → Reply → Type 0
IsFlushed Flush Done = ⊤
IsFlushed _ _ = ⊥

-- the last call was a flush that succeeded
abbrev pub EndsFlushed : List Op → List Reply → Type 0
EndsFlushed (op ∷ []) (reply ∷ []) = IsFlushed op reply
EndsFlushed (op ∷ next ∷ ops) (reply ∷ replies) = EndsFlushed (next ∷ ops) replies
EndsFlushed _ _ = ⊥

-- the call succeeded and accepted all its bytes
abbrev pub IsWhole : Op → Reply → Type 0
IsWhole (Write x) (Took n) = n ≡ length x.now
IsWhole (WriteAll x) Done = ⊤
IsWhole Flush Done = ⊤
IsWhole _ _ = ⊥

-- each call has one reply, and each is whole
abbrev pub AreWhole : List Op → List Reply → Type 0
AreWhole ops replies = AllZip IsWhole ops replies

-- From old to new a writer got these calls, and gave these replies.
pub record Ran (old : WriterState) (ops : List Op) (replies : List Reply) (new : WriterState) : Type 0 where
  -- exactly what the replies say was accepted
  pub accepted : List ℕ
  pub run : Run ops replies accepted
  pub moves : Moves old accepted (mishaps_of ops replies) new
  -- if the last call is a flush that succeeded, nothing is held
  pub flushed : EndsFlushed ops replies → new.held ≡ []
  -- at most as many calls failed as mishaps were told, in all and of each kind
  pub failed : IsShorterBy (failures ops replies) old.mishaps new.mishaps
  pub kinds : (kind : ErrorKind) → HasFewer kind (failures_of kind ops replies) old.mishaps new.mishaps

-- what a run of calls does to a writer
pub record RunLaw {W : Type 0} (I : Writer W) (old : W) (ops : List Op) (replies : List Reply) (new : W) : Type 0 where
  -- each call was made once, in order, and no other call; its reply is its result
  pub calls : RunCalls I old ops replies new
  -- exactly what the replies say was accepted, and at most as many calls failed as mishaps were told
  pub ran : Ran (I.told old) ops replies (I.told new)
  -- if the writer takes all, each call succeeded and accepted all its bytes
  pub all : TakesAll I old → TakesAll I new × AreWhole ops replies

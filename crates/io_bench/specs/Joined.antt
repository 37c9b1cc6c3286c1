-- The bytes that a run accepted, if its replies determine them.
use Rattle.std.specs.{Prelude.{◌≡◌, ◌⊎◌, ℕ, ◌≤◌, List, [], ◌∷◌, length, ⊤}, List.{AllZip}}
use Rattle.io_bench.specs.declared.runs.{Op.{Op, TheVariants.{Write, WriteAll, Flush}}, Reply.{Reply, TheVariants.{Took, Done, Failed}}}
use Rattle.io_bench.specs.Runs.{Run}

-- the reply fits the call and says what was accepted; that of a failed `write_all` does not
abbrev pub IsClear : Op → Reply → Type 0
IsClear (Write x) (Took n) = n ≤ length x.now
IsClear (Write x) (Failed e) = ⊤
IsClear (WriteAll x) Done = ⊤
IsClear Flush Done = ⊤
IsClear Flush (Failed e) = ⊤
IsClear _ _ = ⊥

-- each call has one reply, and each says what was accepted
abbrev pub AreClear : List Op → List Reply → Type 0
AreClear ops replies = AllZip IsClear ops replies

-- a run with these replies accepted these bytes, and no other bytes fit these replies
abbrev pub IsJoined : List Op → List Reply → List ℕ → Type 0
IsJoined ops replies bytes = Run ops replies bytes × ((other : List ℕ) → Run ops replies other → other ≡ bytes)

-- a `write_all` of no bytes failed: only of such a failed `write_all` it is known what it accepted
abbrev IsIdleFailure : Op → Reply → Type 0
IsIdleFailure (WriteAll x) (Failed e) = x.now ≡ []
IsIdleFailure _ _ = ⊥

-- some call of the run was one
abbrev pub HasIdleFailure : List Op → List Reply → Type 0
HasIdleFailure (op ∷ ops) (reply ∷ replies) = IsIdleFailure op reply ⊎ HasIdleFailure ops replies
HasIdleFailure _ _ = ⊥

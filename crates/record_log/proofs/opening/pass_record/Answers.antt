-- The prover does not find that no record begins with other bytes.
use Rattle.no_std_io2.proofs.Words.{◌≡◌, refl, sym, ap, ◌∙◌, arith, common_steps, take, drop, Some, events_of, false, returned_err, true}
use Rattle.std.specs.List.{fold}
use Rattle.record_log.{specs.Records.{add_number}, proofs.PieceLemmas.{some_then, none_behind, none_checked, one_checked}}
use Rattle.record_log.proofs.opening.pass_record.Goals as goal

pub returns-in_err-check-clause-fetches : goal.returns-in_err-check-clause-fetches
returns-in_err-check-clause-fetches g c = rw (returned_err c.from_residual-in_err-check.ensures)
    (some_then (rw c.if-not-branch.false at c.in_ok-read_piece.ensures.fetches) c.in_err-check.ensures.fetches)

pub returns-in_default-clause-fetches : goal.returns-in_default-clause-fetches
returns-in_default-clause-fetches g c = (
  false,
  some_then (rw c.if-not-branch.false at c.in_ok-read_piece.ensures.fetches) (rw c.in_default.is at c.in_ok-check.ensures.fetches),
)

pub returns-then-ne-clause-fetches : goal.returns-then-ne-clause-fetches
returns-then-ne-clause-fetches g c = (
  true,
  some_then (rw c.if-not-branch.false at c.in_ok-read_piece.ensures.fetches) (rw c.in-Some.is at c.in_ok-check.ensures.fetches),
)

pub returns-clause-fetches : goal.returns-clause-fetches
returns-clause-fetches g c =
    some_then (rw c.if-not-branch.false at c.in_ok-read_piece.ensures.fetches) (rw c.in-Some.is at c.in_ok-check.ensures.fetches)

pub returns-in_default-clause-known : goal.returns-in_default-clause-known
returns-in_default-clause-known g c = λ bytes told.
    let head = c.read_piece.new.piece in
    let got = rw c.if-not-branch.false at (c.in_ok-read_piece.ensures.known bytes told).1 in
    let eight = c.read_piece.auto.piece in
    let is : head ≡ take 8 bytes = got.1 ∙ ap (λ n. take n bytes) eight in
    let left = got.2 ∙ ap (λ n. Some (events_of (drop n bytes))) eight in
    let few = rw c.in_default.is at (c.in_ok-check.ensures.known (drop 8 bytes) left).1 in
    (refl, none_behind bytes head c.told_len-len.result is c.told_len-len.ensures few)

pub returns-then-ne-clause-known : goal.returns-then-ne-clause-known
returns-then-ne-clause-known g c = λ bytes told.
    let head = c.read_piece.new.piece in
    let len = c.told_len-len.result in
    let got = rw c.if-not-branch.false at (c.in_ok-read_piece.ensures.known bytes told).1 in
    let eight = c.read_piece.auto.piece in
    let is : head ≡ take 8 bytes = got.1 ∙ ap (λ n. take n bytes) eight in
    let left = got.2 ∙ ap (λ n. Some (events_of (drop n bytes))) eight in
    let adds = rw c.in-Some.is at (c.in_ok-check.ensures.known (drop 8 bytes) left).1 in
    let sum = adds.1 ∙ ap (λ s. fold add_number s (take len (drop 8 bytes))) c.start.ensures in
    let other : head ≡ c.header.result → ⊥ = grind (arith, common_steps, c.ne.ensures, c.if-ne.true) in
    (refl, none_checked bytes head len is c.told_len-len.ensures c.in-Some.check sum (λ same. other (same ∙ sym c.header.ensures)))

pub returns-clause-known : goal.returns-clause-known
returns-clause-known g c = λ bytes told.
    let head = c.read_piece.new.piece in
    let len = c.told_len-len.result in
    let got = rw c.if-not-branch.false at (c.in_ok-read_piece.ensures.known bytes told).1 in
    let eight = c.read_piece.auto.piece in
    let is : head ≡ take 8 bytes = got.1 ∙ ap (λ n. take n bytes) eight in
    let left = got.2 ∙ ap (λ n. Some (events_of (drop n bytes))) eight in
    let adds = rw c.in-Some.is at (c.in_ok-check.ensures.known (drop 8 bytes) left).1 in
    let sum = adds.1 ∙ ap (λ s. fold add_number s (take len (drop 8 bytes))) c.start.ensures in
    let same : head ≡ c.header.result = grind (arith, common_steps, c.ne.ensures, c.if-ne.false) in (
      refl,
      one_checked bytes head len is c.told_len-len.ensures c.in-Some.check sum _ (omega (arith, c.told_len-len.type_inv)) adds.0
          (same ∙ c.header.ensures) (omega arith) adds.2,
    )

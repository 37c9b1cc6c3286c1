-- The law of a call of an object is named whole; the search does not join its turns of the loop.
use Rattle.no_std_io2.proofs.Words.{common_steps, ◌+◌, ◌%◌, ◌^◌, ◌∙◌, ap, arith, refl, ◌++◌, returned_err, sum, event_bytes}
use Rattle.no_std_io2.proofs.{GivenPieces.{piece_spends}, TakesLemmas.{reader}}
use Rattle.examples.proofs.SumLemmas.{fetched_end, fetched_fault, fetched_full, sums_none, sums_more, then_fetched}
use Rattle.examples.proofs.checksum.checksum_of.Goals as goal

pub pieces-init : goal.pieces-init
pieces-init g c = record {
  sums = sums_none (λ o. reader (goal.Read-dyn g o).Stored (goal.Read-dyn g o).Read)
      (λ x a b. refl) c.args.r.now;
  room = refl;
}

pub pieces-preserved : goal.pieces-preserved
pieces-preserved g c =
    let before = c.pieces.invariant in
    let law = c.in_ok-read_full.ensures in
    let full = fetched_full law (omega (arith, c.if-filled-buf.false, c.read_full.auto.buf)) in
    let next = c.add_all-total.ensures ∙ ap (λ l. (c.pieces.total + sum l) % 2 ^ 64) law.fills in
    record {
      sums = record {
        bytes = before.sums.bytes ++ event_bytes law.taken;
        fetched = then_fetched (λ o. reader (goal.Read-dyn g o).Stored (goal.Read-dyn g o).Read)
            (λ x a b. refl) c.args.r.now c.pieces.r.now c.read_full.new.self before.sums.fetched full;
        is = sums_more c.pieces.total _ before.sums.bytes (event_bytes law.taken) before.sums.is next;
      };
      room = c.read_full.auto.buf ∙ before.room;
    }

-- a full buffer took some bytes
pub pieces-smaller : goal.pieces-smaller
pieces-smaller g c = grind (arith, common_steps, piece_spends)

pub returns-then-filled-buf : goal.returns-then-filled-buf
returns-then-filled-buf g c =
    let before = c.pieces.invariant.sums in
    let law = c.in_ok-read_full.ensures in
    let end = fetched_end law (omega (arith, c.if-filled-buf.true, c.read_full.auto.buf)) in
    let next = c.add_all-total.ensures ∙ ap (λ l. (c.pieces.total + sum l) % 2 ^ 64) law.fills in
    let (value, is, all) = then_fetched (λ o. reader (goal.Read-dyn g o).Stored (goal.Read-dyn g o).Read)
    (λ x a b. refl) c.args.r.now c.pieces.r.now c.read_full.new.self before.fetched end in (
      value,
      is,
      (
        before.bytes ++ event_bytes law.taken,
        all,
        sums_more c.pieces.total _ before.bytes
            (event_bytes law.taken) before.is next,
      ),
    )

pub returns-in_err-read_full : goal.returns-in_err-read_full
returns-in_err-read_full g c =
    let before = c.pieces.invariant.sums in
    let law = c.in_err-read_full.ensures in
    let (value, is, all) = then_fetched (λ o. reader (goal.Read-dyn g o).Stored (goal.Read-dyn g o).Read)
    (λ x a b. refl) c.args.r.now c.pieces.r.now c.read_full.new.self before.fetched (fetched_fault law) in
    rw (returned_err c.from_residual.ensures) (value, is, (before.bytes ++ event_bytes law.taken, all))

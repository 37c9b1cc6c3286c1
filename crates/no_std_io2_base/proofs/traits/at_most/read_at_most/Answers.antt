-- The loop and each of its exits, by the lemmas of loops that read at most so many bytes.
use Rattle.std.proofs.{Common.{◌+◌, ◌≤◌, vec_len, sym, arith, ◌∙◌}, lemmas.{Grind.{common_steps}, Result.{err_from_is_err_and}}}
use Rattle.no_std_io2_base.proofs.AtMostLemmas.{at_most_none, at_most_no_room, at_most_full, at_most_refused, at_most_done, at_most_fault}
use Rattle.no_std_io2_base.proofs.AtMostLemmas.{at_most_read, at_most_interruption}
use Rattle.no_std_io2_base.proofs.{ToEndLemmas.{part_was_written}, TakesLemmas.{read_spends}}
use Rattle.no_std_io2_base.proofs.traits.at_most.read_at_most.Goals as goal

pub returns-in_err-reserve_room : goal.returns-in_err-reserve_room
returns-in_err-reserve_room g c = grind (arith, common_steps, err_from_is_err_and, at_most_no_room)

pub reads-init : goal.reads-init
reads-init g c = let room = c.in_ok-reserve_room.ensures in at_most_none c.len-start.ensures room.items room.len room.grows

pub returns-in_err-open_room : goal.returns-in_err-open_room
returns-in_err-open_room g c =
    let p = err_from_is_err_and c.from_residual-in_err-open_room.result c.from_residual-in_err-open_room.ensures.1 in
    let refused = c.in_err-open_room.ensures in
    rw (p.1, p.2) (record {
      law = at_most_refused c.reads.invariant refused.refused refused.full.1 refused.front refused.grows refused.full.0 c.reads-test.true;
    })

pub returns-in-Ok-eq0 : goal.returns-in-Ok-eq0
returns-in-Ok-eq0 g c =
    let room = c.open_room.ensures in
    let w = part_was_written c.open_room.new.buf.ok.0 c.deref_mut.ensures.value c.read.auto.buf room.front c.in_ok-open_room.ensures.room in
    let up_to = room.most (omega (arith, c.reads.invariant.fits, c.min_with_limit-in-reads.ensures, c.reads.buf.ok.1)) in
    let most : vec_len c.open_room.new.buf ≤ c.reads.filled + c.reads.left = omega (arith, up_to, c.min_with_limit-in-reads.ensures) in
    record {
      law = at_most_done c.reads.invariant w most c.read.ensures.law c.in-Ok-eq0.is
          c.in-Ok-eq0.field-0-test (c.truncate.ensures.items ∙ w.kept) (omega (arith, room.grows, c.truncate.ensures.capacity))
          c.len-start.ensures;
    }

pub returns-in-Err-2 : goal.returns-in-Err-2
returns-in-Err-2 g c =
    let room = c.open_room.ensures in
    let w = part_was_written c.open_room.new.buf.ok.0 c.deref_mut.ensures.value c.read.auto.buf room.front c.in_ok-open_room.ensures.room in
    let up_to = room.most (omega (arith, c.reads.invariant.fits, c.min_with_limit-in-reads.ensures, c.reads.buf.ok.1)) in
    let most : vec_len c.open_room.new.buf ≤ c.reads.filled + c.reads.left = omega (arith, up_to, c.min_with_limit-in-reads.ensures) in
    record {
      law = at_most_fault c.reads.invariant w most c.in-Err.ensures.law
          (sym c.is_interrupted.ensures ∙ c.if-is_interrupted.false) (c.truncate-in-Err-2.ensures.items ∙ w.kept)
          (omega (arith, room.grows, c.truncate-in-Err-2.ensures.capacity));
    }

pub reads-preserved-in-Ok : goal.reads-preserved-in-Ok
reads-preserved-in-Ok g c =
    let room = c.open_room.ensures in
    let w = part_was_written c.open_room.new.buf.ok.0 c.deref_mut.ensures.value c.read.auto.buf room.front c.in_ok-open_room.ensures.room in
    let up_to = room.most (omega (arith, c.reads.invariant.fits, c.min_with_limit-in-reads.ensures, c.reads.buf.ok.1)) in
    let most : vec_len c.open_room.new.buf ≤ c.reads.filled + c.reads.left = omega (arith, up_to, c.min_with_limit-in-reads.ensures) in
    at_most_read c.reads.invariant w most room.grows c.in-Ok.ensures.law c.in-Ok.n-test.1

pub reads-preserved : goal.reads-preserved
reads-preserved g c =
    let room = c.open_room.ensures in
    let w = part_was_written c.open_room.new.buf.ok.0 c.deref_mut.ensures.value c.read.auto.buf room.front c.in_ok-open_room.ensures.room in
    let up_to = room.most (omega (arith, c.reads.invariant.fits, c.min_with_limit-in-reads.ensures, c.reads.buf.ok.1)) in
    let most : vec_len c.open_room.new.buf ≤ c.reads.filled + c.reads.left = omega (arith, up_to, c.min_with_limit-in-reads.ensures) in
    at_most_interruption c.reads.invariant w most room.grows c.in-Err.ensures.law (sym c.is_interrupted.ensures ∙ c.if-is_interrupted.true)

pub returns : goal.returns
returns g c = record {
  law = at_most_full c.reads.invariant (omega (arith, c.reads-test.false)) c.truncate-2.ensures.items
      (omega (arith, c.truncate-2.ensures.capacity)) c.len-start.ensures;
}

pub reads-smaller-in-Ok : goal.reads-smaller-in-Ok
reads-smaller-in-Ok g c = read_spends c.in-Ok.ensures.law c.in-Ok.n-test.1

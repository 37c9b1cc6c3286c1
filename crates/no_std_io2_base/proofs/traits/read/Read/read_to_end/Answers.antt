-- The loop and each of its exits, by the lemmas of loops that read to the end.
use Rattle.std.proofs.{Common.{sym, arith, ◌∙◌}, lemmas.Grind.{common_steps}, lemmas.Result.{err_from_is_err_and}}
use Rattle.no_std_io2_base.proofs.ToEndLemmas.{part_was_written, to_end_none, to_end_no_room, to_end_read, to_end_interruption, to_end_done}
use Rattle.no_std_io2_base.proofs.{ToEndLemmas.{to_end_fault, to_end_refused}, TakesLemmas.{read_spends}}
use Rattle.no_std_io2_base.proofs.traits.read.Read.read_to_end.Goals as goal

pub returns-in_err-reserve_first : goal.returns-in_err-reserve_first
returns-in_err-reserve_first g c = grind (arith, common_steps, err_from_is_err_and, to_end_no_room)

pub reads-init : goal.reads-init
reads-init g c = grind (arith, common_steps, to_end_none)

pub returns-in_err-open_room : goal.returns-in_err-open_room
returns-in_err-open_room g c =
    let p = err_from_is_err_and c.from_residual-in_err-open_room.result c.from_residual-in_err-open_room.ensures.1 in
    let refused = c.in_err-open_room.ensures in
    rw (p.1, p.2) (record {
      law = to_end_refused c.reads.invariant refused.refused refused.full.1 refused.front refused.grows
          (λ n is. omega (arith, refused.full.0, is, c.reads.invariant.capacity));
    })

pub returns-in-Ok-eq0 : goal.returns-in-Ok-eq0
returns-in-Ok-eq0 g c =
    let room = c.open_room.ensures in
    let w = part_was_written c.open_room.new.buf.ok.0 c.deref_mut.ensures.value c.read.auto.buf room.front c.in_ok-open_room.ensures.room in
    record {
      law = to_end_done c.reads.invariant c.read.ensures.law c.in-Ok-eq0.is c.in-Ok-eq0.field-0-test w.some
          (c.truncate.ensures.items ∙ w.kept) (omega (arith, room.grows, c.truncate.ensures.capacity)) c.len-start.ensures;
    }

pub returns-in-Err-2 : goal.returns-in-Err-2
returns-in-Err-2 g c =
    let room = c.open_room.ensures in
    let w = part_was_written c.open_room.new.buf.ok.0 c.deref_mut.ensures.value c.read.auto.buf room.front c.in_ok-open_room.ensures.room in
    record {
      law = to_end_fault c.reads.invariant c.in-Err.ensures.law
          (sym c.is_interrupted.ensures ∙ c.if-is_interrupted.false) w.some (c.truncate-in-Err-2.ensures.items ∙ w.kept)
          (omega (arith, room.grows, c.truncate-in-Err-2.ensures.capacity));
    }

pub reads-preserved-in-Ok : goal.reads-preserved-in-Ok
reads-preserved-in-Ok g c =
    let room = c.open_room.ensures in
    let w = part_was_written c.open_room.new.buf.ok.0 c.deref_mut.ensures.value c.read.auto.buf room.front c.in_ok-open_room.ensures.room in
    to_end_read c.reads.invariant w.some c.in-Ok.ensures.law c.in-Ok.n-test.1 w room.grows

pub reads-preserved : goal.reads-preserved
reads-preserved g c =
    let room = c.open_room.ensures in
    let w = part_was_written c.open_room.new.buf.ok.0 c.deref_mut.ensures.value c.read.auto.buf room.front c.in_ok-open_room.ensures.room in
    to_end_interruption c.reads.invariant w.some c.in-Err.ensures.law (sym c.is_interrupted.ensures ∙ c.if-is_interrupted.true) w room.grows

pub reads-smaller-in-Ok : goal.reads-smaller-in-Ok
reads-smaller-in-Ok g c = read_spends c.in-Ok.ensures.law c.in-Ok.n-test.1

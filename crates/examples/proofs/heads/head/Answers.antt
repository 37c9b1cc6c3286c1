-- A line more, or an error, is joined to the lines so far by a lemma, which the search does not try.
use Rattle.no_std_io2.proofs.{Words.{Ok, Err, refl, inl, inr, rules, returned_err}, GivenPieces.{piece_alone}}
use Rattle.std.proofs.Common.{tests}
use Rattle.examples.proofs.LineLoops.{passed_none, passed_more, passed_all, passed_wanted, stops_writing, stops_at_part}
use Rattle.examples.proofs.heads.head.Goals as goal

pub lines-init : goal.lines-init
lines-init g c = passed_none c.args.wanted _ _

pub lines-preserved : goal.lines-preserved
lines-preserved g c =
    let law = c.in-Ok.ensures.law in
    let line = piece_alone law c.clear.ensures.items c.deref.ensures.value in
    passed_more c.lines.invariant law c.in-Ok.field-0-test.1 line c.lines-test.true c.in_ok-write_all-in-Ok.ensures.law.moves

pub returns-in-Ok-eq0-clause-passes : goal.returns-in-Ok-eq0-clause-passes
returns-in-Ok-eq0-clause-passes g c = passed_all c.lines.invariant c.in-Ok-eq0.ensures.law (search (rules, tests))

pub returns-clause-passes : goal.returns-clause-passes
returns-clause-passes g c = passed_wanted c.lines.invariant c.lines-test.false

pub returns-in_err-write_all-in-Ok-clause-stops : goal.returns-in_err-write_all-in-Ok-clause-stops
returns-in_err-write_all-in-Ok-clause-stops g c =
    let law = c.in-Ok.ensures.law in
    let line = piece_alone law c.clear.ensures.items c.deref.ensures.value in
    rw (returned_err c.from_residual.ensures)
    (inr (stops_writing c.lines.invariant law c.in-Ok.field-0-test.1 line c.in_err-write_all-in-Ok.ensures.law.moves))

pub returns-in_err-write_all-in-Err-clause-stops : goal.returns-in_err-write_all-in-Err-clause-stops
returns-in_err-write_all-in-Err-clause-stops g c =
    let law = c.in-Err.ensures.law in
    let line = piece_alone law c.clear.ensures.items c.deref-in-Err.ensures.value in
    rw (returned_err c.from_residual-in_err-write_all-in-Err.ensures)
    (inl (stops_at_part c.lines.invariant (Err _) law line c.in_err-write_all-in-Err.ensures.law.moves refl))

pub returns-in-Err-clause-stops : goal.returns-in-Err-clause-stops
returns-in-Err-clause-stops g c =
    let law = c.in-Err.ensures.law in
    let line = piece_alone law c.clear.ensures.items c.deref-in-Err.ensures.value in
    inl (stops_at_part c.lines.invariant (Ok _) law line c.in_ok-write_all-in-Err.ensures.law.moves refl)

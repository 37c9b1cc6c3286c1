-- The loop and each of its exits: the list of reads grows at its end, which the search does not do.
use Rattle.std.proofs.Common.{◌≡◌, Err, arith, rules, refl, sym, ap, ◌∙◌, length, take, take-suc}
use Rattle.no_std_io2_base.proofs.{ReadLoops.{next_end, next_byte, next_byte_fault, took_before}, ReadsLemmas.{Reads-none, Reads-again}}
use Rattle.no_std_io2_base.proofs.TakesLemmas.{takes_turns, read_spends, read_law}
use Rattle.no_std_io2_base.proofs.traits.bytes.BytesIterator.next.Goals as goal

pub reads-init : goal.reads-init
reads-init g c = record { long = refl; reads = Reads-none _ }

pub reads-preserved : goal.reads-preserved
reads-preserved g c =
    let before = c.reads.invariant in
    let long = c.read.auto.buf ∙ before.long in
    let interrupted = sym c.is_interrupted.ensures ∙ c.if-is_interrupted.true in
    record { long = long; reads = Reads-again before.reads long (read_law (Err _) c.in-Err.ensures.law) interrupted }

pub returns-in-Ok-eq0-clause-steps : goal.returns-in-Ok-eq0-clause-steps
returns-in-Ok-eq0-clause-steps g c =
    let before = c.reads.invariant in
    let law = next_end before.reads c.read.ensures.law c.in-Ok-eq0.is c.in-Ok-eq0.field-0-test (c.read.auto.buf ∙ before.long) in
    (law, tt, takes_turns law.takes, tt)

pub returns-in-Ok-clause-steps : goal.returns-in-Ok-clause-steps
returns-in-Ok-clause-steps g c =
    let before = c.reads.invariant in
    let buf = c.read.new.buf in
    let read = c.in-Ok.ensures.law in
    let long : length buf ≡ 1 = c.read.auto.buf ∙ before.long in
    let one : c.in-Ok.field-0 ≡ 1 = omega (arith, long, read.bound, c.in-Ok.field-0-test.1) in
    let law = next_byte before.reads read (ap (λ n. take n buf) one ∙ take-suc buf 0 0 (omega (arith, long))) long in
    let spent = read_spends read c.in-Ok.field-0-test.1 in
    (law, tt, takes_turns law.takes, omega (arith, spent, takes_turns (took_before before.reads).takes))

pub returns-in-Err-2-clause-steps : goal.returns-in-Err-2-clause-steps
returns-in-Err-2-clause-steps g c =
    let before = c.reads.invariant in
    let read = c.in-Err.ensures.law in
    let fault = sym c.is_interrupted.ensures ∙ c.if-is_interrupted.false in
    let law = next_byte_fault before.reads read fault (c.read.auto.buf ∙ before.long) in
    (law, fault, takes_turns law.takes, omega (arith, read.takes.turns, takes_turns (took_before before.reads).takes))

pub returns-in-Ok-clause-goes : goal.returns-in-Ok-clause-goes
returns-in-Ok-clause-goes g c = let turns = takes_turns (took_before c.reads.invariant.reads).takes in search (arith, rules, read_spends)

pub returns-in-Err-2-clause-goes : goal.returns-in-Err-2-clause-goes
returns-in-Err-2-clause-goes g c = let turns = takes_turns (took_before c.reads.invariant.reads).takes in search (arith, rules)

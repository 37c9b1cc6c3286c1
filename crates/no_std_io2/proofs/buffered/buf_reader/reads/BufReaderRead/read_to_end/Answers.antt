-- A read to the end, by its four ends: nothing held, no room for what is held, an error of the inner reader, or its end.
use Rattle.no_std_io2.proofs.Words.{nil_from_length, err_from_is_err_and, ◌≡◌, [], Ok, Err, arith, refl, rules, reader_held}
use Rattle.no_std_io2.proofs.BufReaderThrough.{moved_all, to_end_alone, held_through, held_part}
use Rattle.no_std_io2.proofs.buffered.buf_reader.reads.BufReaderRead.read_to_end.Goals as goal

pub returns-then-is_empty : goal.returns-then-is_empty
returns-then-is_empty g c =
    let held = reader_held c.args.self.now in
    let none : held ≡ [] = nil_from_length held (search rules) in
    let own = to_end_alone c.read_to_end.result none c.read_to_end.ensures.law (c.clear.ensures.behind, c.clear.ensures.held) in
    record { law = own.0; own = own.1 }

pub returns-in_err-append_to : goal.returns-in_err-append_to
returns-in_err-append_to g c =
    let p = err_from_is_err_and c.from_residual.result c.from_residual.ensures.1 in
    let refused = c.in_err-append_to.ensures in
    let own = held_part refused.part.refused refused.part.moved refused.kept refl refused.part.grows refused.part.full in
    rw (p.1, p.2) (record { law = own.0; own = own.1 })

pub returns-in_err-rest_to_end : goal.returns-in_err-rest_to_end
returns-in_err-rest_to_end g c =
    let p = err_from_is_err_and c.from_residual-in_err-rest_to_end.result c.from_residual-in_err-rest_to_end.ensures.1 in
    let done = c.in_ok-append_to.ensures in
    let own = held_through (Err c.in_err-rest_to_end.field-0.0) 0
    (moved_all (reader_held c.args.self.now) _ _ done.part.moved done.done.0) done.part.grows
    c.in_err-rest_to_end.ensures.law (done.done.1, done.done.0) tt in
    rw (p.1, p.2) (record { law = own.0; own = own.1 })

pub returns : goal.returns
returns g c =
    let done = c.in_ok-append_to.ensures in
    let own = held_through (Ok c.in_ok-rest_to_end.field-0) _
    (moved_all (reader_held c.args.self.now) _ _ done.part.moved done.done.0) done.part.grows c.in_ok-rest_to_end.ensures.law
    (done.done.1, done.done.0) (omega arith) in
    record { law = own.0; own = own.1 }

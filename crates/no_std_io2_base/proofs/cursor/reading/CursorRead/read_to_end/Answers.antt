-- The appended bytes are a front of those that the cursor had left, and its position is right after them.
use Rattle.std.proofs.Common.{◌≡◌, ◌+◌, ◌-◌, ◌++◌, Ok, Err, arith, ap, sym, ◌∙◌, length, length-append, drop}
use Rattle.std.proofs.lemmas.Result.{err_from_is_err_and}
use Rattle.no_std_io2_base.specs.inner.Cursor.{cursor_left}
use Rattle.no_std_io2_base.proofs.{CursorLemmas.{takes_at, told_at, behind_at}, InMemoryReads.{memory_drained}}
use Rattle.no_std_io2_base.proofs.cursor.reading.CursorRead.read_to_end.Goals as goal

pub returns-in_err-answer : goal.returns-in_err-answer
returns-in_err-answer g c =
    let p = err_from_is_err_and c.from_residual.result c.from_residual.ensures.1 in
    let here = c.args.self.now in
    let content = g.T.AsSlice.slice here.inner in
    let said = c.in_err-answer.ensures in
    let part = said.part.moved.0 in
    let left = sym c.left-rest.ensures.left ∙ said.part.moved.1 in
    let rest = c.append_rest-answer.new.rest.now in
    let now = here.pos + (length c.left-rest.result.now - length rest) in
    let moved : now ≡ here.pos + length part = omega (arith, ap length said.part.moved.1, length-append part rest) in
    let behind = behind_at content here.pos now part rest left moved in
    let split : drop here.pos content ≡ part ++ drop now content = left ∙ ap (λ l. part ++ l) (sym behind) in
    rw (p.1, p.2) (record {
      law = memory_drained {left = cursor_left g.T.AsSlice.slice} (record {
        split = split;
        takes = takes_at content here.pos now part split moved;
        told = told_at content now;
      }) (Err _) said.part.moved.2 tt (said.part.refused, said.part.full) said.part.grows (split, tt);
    })

pub returns : goal.returns
returns g c =
    let here = c.args.self.now in
    let content = g.T.AsSlice.slice here.inner in
    let said = c.in_ok-answer.ensures in
    let part = said.part.moved.0 in
    let left = sym c.left-rest.ensures.left ∙ said.part.moved.1 in
    let rest = c.append_rest-answer.new.rest.now in
    let now = here.pos + (length c.left-rest.result.now - length rest) in
    let whole = ap length said.part.moved.1 ∙ length-append part rest in
    let moved : now ≡ here.pos + length part = omega (arith, whole) in
    let behind = behind_at content here.pos now part rest left moved in
    let split : drop here.pos content ≡ part ++ drop now content = left ∙ ap (λ l. part ++ l) (sym behind) in
    let none = behind ∙ said.done in
    record {
      law = memory_drained {left = cursor_left g.T.AsSlice.slice} (record {
        split = split;
        takes = takes_at content here.pos now part split moved;
        told = told_at content now;
      }) (Ok _) said.part.moved.2 (omega (arith, whole, ap length said.done), none) tt said.part.grows (split, none);
    }

-- What the call did to the value in the box, it did to the box.
use mathlib.Core.List.{mem-append_right}
use Rattle.std.proofs.Common.{rules, ◌≡◌, ◌≤◌, length, subst, sym, refl}
use Rattle.no_std_io2_base.proofs.{TakesLemmas.{reader}, Forwards.{consume_box}}
use Rattle.no_std_io2_base.proofs.impls.dyn_buf_read_boxes.BoxDynBufReadDropBufRead.consume.Goals as goal

pub consume-requires : goal.consume-requires
consume-requires g c =
    let o = goal.BufRead-dyn g in
    let lent = c.deref_box_mut-1.result.now in
    let back : lent ≡ (c.args.self.now.vtable, c.args.self.now.value) = search rules in
    let fits : c.args.amount ≤ length ((o lent).Read.held lent.1) =
    subst (λ p. c.args.amount ≤ length ((o p).Read.held p.1)) (sym back) c.requires in
    λ κs. (refl, λ incl. (tt, (λ a m. incl a (mem-append_right _ m), fits)))

pub returns : goal.returns
returns g c =
    let o = goal.BufRead-dyn g in
    record {
      law = consume_box (λ p. reader (o p).Stored (o p).Read) c.args.self.now c.deref_box_mut-1.result.now (search rules)
          c.consume.new.self c.consume.ensures;
    }

-- Each tower holds nothing at first, over a device that has taken nothing.
use Rattle.no_std_io2.proofs.Words.{refl, ap, ◌∙◌, InnerCalls, writer_inner, writer_buffer, line_inner, line_buffer}
use Rattle.no_std_io2.specs.inner.LineWriter.{LineCalls}
use Rattle.tower_play.specs.declared.playing.Shape.TheVariants.{Buf, BufBuf, Line, LineBuf}
use Rattle.tower_play.proofs.PlayLemmas.{fresh_at, ifok_map, one_level, two_levels}
use Rattle.tower_play.proofs.playing.play_ops.Goals as goal

pub returns-in-Buf : goal.returns-in-Buf
returns-in-Buf c =
    let base = c.new-base.ensures in
    let new = c.new-in-Buf.ensures in
    rw c.in-Buf.is (record {
      ok = ifok_map c.play_on.result
          (λ text run. one_level _ (λ w. refl) base.acts (fresh_at c.new-base.result base.inner c.new.ensures.items base.acts) Buf
          writer_inner writer_buffer (InnerCalls 8) (λ a b call may. may) (λ b. refl) (λ calls below held t. t) _ new.inner new.empty run)
          c.play_on.ensures.ok;
    })

pub returns-in-Line : goal.returns-in-Line
returns-in-Line c =
    let base = c.new-base.ensures in
    let new = c.new-in-Line.ensures in
    rw c.in-Line.is (record {
      ok = ifok_map c.play_on-in-Line.result
          (λ text run. one_level _ (λ w. refl) base.acts (fresh_at c.new-base.result base.inner c.new.ensures.items base.acts) Line
          line_inner line_buffer (LineCalls 8) (λ a b call may. may) (λ b. refl) (λ calls below held t. t) _ new.inner new.empty run)
          c.play_on-in-Line.ensures.ok;
    })

pub returns-in-BufBuf : goal.returns-in-BufBuf
returns-in-BufBuf c =
    let base = c.new-base.ensures in
    let inner = c.new-inner.ensures in
    let outer = c.new-in-BufBuf.ensures in
    rw c.in-BufBuf.is (record {
      ok = ifok_map c.play_on-in-BufBuf.result
          (λ text run. two_levels _ (λ w. refl) base.acts (fresh_at c.new-base.result base.inner c.new.ensures.items base.acts) BufBuf
          writer_inner writer_buffer writer_inner writer_buffer (InnerCalls 8) (λ a b call may. may) (λ a b call may. may) (λ b. refl)
          (λ calls below held t. t) _ (ap writer_inner outer.inner ∙ inner.inner) (ap writer_buffer outer.inner ∙ inner.empty)
          outer.empty run)
          c.play_on-in-BufBuf.ensures.ok;
    })

pub returns-in-LineBuf : goal.returns-in-LineBuf
returns-in-LineBuf c =
    let base = c.new-base.ensures in
    let inner = c.new-inner-in-LineBuf.ensures in
    let outer = c.new-in-LineBuf.ensures in
    rw c.in-LineBuf.is (record {
      ok = ifok_map c.play_on-in-LineBuf.result
          (λ text run. two_levels _ (λ w. refl) base.acts (fresh_at c.new-base.result base.inner c.new.ensures.items base.acts) LineBuf
          writer_inner writer_buffer line_inner line_buffer (LineCalls 8) (λ a b call may. may) (λ a b call may. may) (λ b. refl)
          (λ calls below held t. t) _ (ap writer_inner outer.inner ∙ inner.inner) (ap writer_buffer outer.inner ∙ inner.empty)
          outer.empty run)
          c.play_on-in-LineBuf.ensures.ok;
    })

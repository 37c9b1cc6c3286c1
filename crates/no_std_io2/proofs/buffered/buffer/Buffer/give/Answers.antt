-- One byte is given without a copy of a range: the search does not compare lists of one byte.
use Rattle.no_std_io2.{proofs.Words.{common_steps, arith, sym, ap, ◌∙◌, ◌++◌}, specs.inner.Buffer.{buffer_behind}}
use Rattle.std.proofs.{Common.{slice_index}, Math.Seq.{take-suc, take-suc-set}}
use Rattle.no_std_io2.proofs.buffered.buffer.Buffer.give.Goals as goal

-- the one byte that moves
pub returns-then-buf-eq1-clause-gave : goal.returns-then-buf-eq1-clause-gave
returns-then-buf-eq1-clause-gave g c = grind (arith, common_steps, slice_index, take-suc, take-suc-set)

pub returns-then-buf-eq1-clause-behind : goal.returns-then-buf-eq1-clause-behind
returns-then-buf-eq1-clause-behind g c =
    c.consume.ensures.behind ∙ ap (λ l. buffer_behind c.args.self.now ++ l) (sym (returns-then-buf-eq1-clause-gave g c))

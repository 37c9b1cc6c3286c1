-- The calls of the buffer add what is held no more: those of the `write_all`, and then those of the `flush`.
use Rattle.std.proofs.Common.{◌%◌, ◌^◌}
use Rattle.no_std_io2.proofs.{Words.{ap, ◌∙◌}, BufWriterLemmas.{buffered_all_adds, flush_adds}, CallsLemmas.{law_may}}
use Rattle.no_std_io2.specs.BufWriter.{writer_inner}
use Rattle.examples.{specs.Summed.{summed_sum}, proofs.SumLemmas.{sums_join, sums_sent, same_sum}}
use Rattle.examples.proofs.summed.save_summed.Goals as goal

pub returns-in-Ok-clause-summed : goal.returns-in-Ok-clause-summed
returns-in-Ok-clause-summed c =
    let wrote = buffered_all_adds sums_join (λ a b call law. law_may _ a b call law) c.in_ok-write_all.ensures.buffer.calls in
    let sent = flush_adds sums_join (λ a b call law. law_may _ a b call law) c.in_ok-flush.ensures.law.call in
    let zero = ap summed_sum c.new-w.ensures.inner ∙ c.new.ensures.sum in
    let all = sums_sent (writer_inner c.new-w.result) (writer_inner c.write_all.new.self) (writer_inner c.flush.new.self) _ _ _ _
    c.new-w.ensures.empty wrote sent zero in
    ap (λ n. n % 2 ^ 64) (same_sum (c.in-Ok.ensures.law.empty sent.2)) ∙ all

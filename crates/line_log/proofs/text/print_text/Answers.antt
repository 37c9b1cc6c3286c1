-- The prover does not find that a text without an error was printed whole (`page_has`).
use Rattle.no_std_io2.proofs.{Words.{inl, sym, ◌∙◌}, TextLemmas.{when_ok, page_has}}
use Rattle.line_log.{specs.Text.{IsPrinted}, proofs.TextLemmas.{true_or}}
use Rattle.line_log.proofs.text.print_text.Goals as goal

pub returns : goal.returns
returns g c = true_or c.is_err.result (λ went.
    page_has (λ text p. IsPrinted text p) _ c.write-formatted.new.self _
    (when_ok c.write-formatted.result (sym went ∙ c.is_err.ensures.value) c.write-formatted.ensures.writes)
    (inl (c.new-printed.ensures.fits, c.new-printed.ensures.none)))

-- Of a header that is known to come both numbers are read, also where an error would be returned.
use Rattle.no_std_io2.proofs.{Words.{Ok, Some, ap, ap₂, ◌∙◌, ◌≡◌, inl, inr, refl, returned_err}, TakesLemmas.{Took-then}}
use Rattle.numbers.proofs.{ChunkLemmas.{header_parts}, SpelledLemmas.{takes_big}}
use Rattle.numbers.proofs.chunk_header.read_chunk_header.Goals as goal

pub returns-in_err-kind : goal.returns-in_err-kind
returns-in_err-kind g c = record {
  reads = rw (returned_err c.from_residual.ensures) (inl (_, refl, c.in_err-kind.ensures.reads));
  takes = rw (returned_err c.from_residual.ensures) tt;
  back = λ kind len rest small few told.
      let known = c.in_err-kind.ensures.back kind _ small (told ∙ ap Some (header_parts kind len rest)) in
      let no : ⊥ = cc known.0 in
      absurd no;
}

pub returns-in_err-len : goal.returns-in_err-len
returns-in_err-len g c = record {
  reads = rw (returned_err c.from_residual-in_err-len.ensures)
      (inr (_, _, _, c.in_ok-kind.ensures.reads, c.in_err-len.ensures.reads, refl));
  takes = rw (returned_err c.from_residual-in_err-len.ensures) tt;
  back = λ kind len rest small few told.
      let first = c.in_ok-kind.ensures.back kind _ small (told ∙ ap Some (header_parts kind len rest)) in
      let known = c.in_err-len.ensures.back len rest few first.1 in
      let no : ⊥ = cc known.0 in
      absurd no;
}

pub returns : goal.returns
returns g c = record {
  reads = inr (_, _, _, c.in_ok-kind.ensures.reads, c.in_ok-len.ensures.reads, refl);
  takes = Took-then (takes_big {n = 2} c.in_ok-kind.ensures.reads) (takes_big {n = 4} c.in_ok-len.ensures.reads);
  back = λ kind len rest small few told.
      let first = c.in_ok-kind.ensures.back kind _ small (told ∙ ap Some (header_parts kind len rest)) in
      let next = c.in_ok-len.ensures.back len rest few first.1 in
      let same : c.in_ok-kind.kind ≡ kind = cc first.0 in
      let long : c.in_ok-len.len ≡ len = cc next.0 in
      (ap₂ (λ k l. Ok (k, l)) same long, next.1);
}

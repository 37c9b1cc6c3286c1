-- A fault came, or the end, or groups that are refused or decoded; the search does not find what each gives.
use Rattle.no_std_io2.proofs.Words.{◌≡◌, None, length, drop, min, ap, sym, refl, ◌∙◌, arith, common_steps, returned_err}
use Rattle.no_std_io2.{proofs.TakesLemmas.{reader}, specs.declared.io.{Error.{Error}, ErrorKind.{ErrorKind, TheVariants.{InvalidData}}}}
use Rattle.no_std_io2.specs.{Errors.{error_kind}, inner.Kinds.{error_of, error_text}}
use Rattle.base64_stream.specs.{declared.decoder.DecoderReader.{DecoderReader}, Decoder.{decoder_text}, Held.{text_items}}
use Rattle.base64_stream.proofs.DecoderLemmas.{AreGroups, refill_ends, refill_fails, refill_gives, refill_refuses, still_gathered}
use Rattle.base64_stream.proofs.decoder.DecoderReader.refill.Goals as goal

-- an error that has only a kind
only_kind : (e : Error) (kind : ErrorKind) → error_kind e ≡ kind → error_text e ≡ None → e ≡ error_of kind
only_kind e kind is no_text = grind (arith, common_steps)

pub returns-in_err-gather : goal.returns-in_err-gather
returns-in_err-gather g c =
    rw (returned_err c.from_residual.ensures)
    (refill_fails (reader g.R.Stored g.R.Read) c.args.self.now
    (record c.args.self.now { inner = c.gather.new.from; text = c.gather.new.self })
    (c.in_err-gather.ensures, refl, refl, refl) c.requires)

pub returns-then-held-eq0 : goal.returns-then-held-eq0
returns-then-held-eq0 g c =
    refill_ends (reader g.R.Stored g.R.Read) c.args.self.now
    (record c.args.self.now { inner = c.gather.new.from; text = c.gather.new.self })
    (c.in_ok-gather.ensures, refl, refl, refl) c.requires (omega (arith, c.if-held-eq0.true, c.len-held.ensures.len))

pub returns-then-decode : goal.returns-then-decode
returns-then-decode g c =
    let mid : DecoderReader g.row.R.Denot = record c.args.self.now { inner = c.gather.new.from; text = c.gather.new.self } in
    let held = c.len-held.ensures.len in
    let groups : AreGroups c.max.result (decoder_text mid) = (
      omega (arith, c.if-held-eq0.false, c.max.ensures, c.min-first.ensures),
      omega (arith, held, c.max.ensures, c.min-first.ensures),
      λ many. omega (arith, many, held, c.max.ensures, c.min-first.ensures),
      λ few. omega (arith, few, held, c.max.ensures, c.min-first.ensures),
    ) in
    refill_gives (reader g.R.Stored g.R.Read) c.args.self.now mid c.decode.new.self c.max.result
    (c.in_ok-gather.ensures, refl, refl, refl) c.requires groups (rw c.if-decode.true at c.decode.ensures)

pub returns-then-decode-2 : goal.returns-then-decode-2
returns-then-decode-2 g c =
    let refused = rw c.if-decode.false at c.decode.ensures in
    let mid = c.decode.new.self in
    let held : c.len-held.result ≡ length (decoder_text mid) = c.len-held.ensures.len ∙ ap (λ t. length (text_items t)) (sym refused.5) in
    let first = c.min-first.result in
    let groups : AreGroups first (decoder_text mid) = (
      omega (arith, c.if-held-eq0.false, c.min-first.ensures),
      omega (arith, held, c.min-first.ensures),
      λ many. omega (arith, many, held, c.min-first.ensures),
      λ few. omega (arith, few, held, c.min-first.ensures),
    ) in
    let still = still_gathered (reader g.R.Stored g.R.Read) c.args.self.now
    (record c.args.self.now { inner = c.gather.new.from; text = c.gather.new.self }) mid c.max.result
    (c.in_ok-gather.ensures, refl, refl, refl) refused c.requires in
    refill_gives (reader g.R.Stored g.R.Read) c.args.self.now mid c.decode-2.new.self first still refused.1 groups
    (rw c.if-decode-2.true at c.decode-2.ensures)

pub returns : goal.returns
returns g c =
    let refused = rw c.if-decode.false at c.decode.ensures in
    let again = rw c.if-decode-2.false at c.decode-2.ensures in
    let mid = c.decode.new.self in
    let held : c.len-held.result ≡ length (decoder_text mid) = c.len-held.ensures.len ∙ ap (λ t. length (text_items t)) (sym refused.5) in
    let first = c.min-first.result in
    let still = still_gathered (reader g.R.Stored g.R.Read) c.args.self.now
    (record c.args.self.now { inner = c.gather.new.from; text = c.gather.new.self }) mid c.max.result
    (c.in_ok-gather.ensures, refl, refl, refl) refused c.requires in
    refill_refuses (reader g.R.Stored g.R.Read) c.args.self.now mid (record c.decode-2.new.self { text = c.consume.new.self }) first still
    refused.1 (omega (arith, held, c.if-held-eq0.false))
    (c.min-first.ensures ∙ ap (λ n. min n 4) held) again.0 again.1 again.2 again.3 again.4
    (c.consume.ensures ∙ ap (λ t. drop first (text_items t)) again.5) (only_kind _ InvalidData c.from.ensures.0 c.from.ensures.1)

-- A line that is lent whole goes straight to the text. Any other is read into its memory: what was lent is lent once more.
use Rattle.std.proofs.{lemmas.Grind.{common_steps}, Common.{◌≡◌, ◌∙◌, sym, ap, arith, take, length-take-le, string_len}}
use Rattle.std.specs.String.{string_vec}
use Rattle.no_std_io2_base.{specs.{BufRead.{ReadUntilLaw}, Pieces.{newline}}, proofs.LineLemmas.{line_law, line_at_once, line_faulted}}
use Rattle.no_std_io2_base.proofs.{LineLemmas.{line_some, memory_grows, memory_text}, PieceLemmas.{until_lent, until_waited}}
use Rattle.no_std_io2_base.proofs.{PieceLoops.{filled_law}, TakesLemmas.{reader}}
use Rattle.no_std_io2_base.proofs.traits.buf_read.BufRead.read_line.Goals.{in-Ok+else-is_whole}
use Rattle.no_std_io2_base.proofs.traits.buf_read.BufRead.read_line.Goals.{else-is_whole-via-then-is_whole+else-append_text}
use Rattle.no_std_io2_base.proofs.traits.buf_read.BufRead.read_line.Goals.{else-is_whole-via-else-is_whole, in-Err}
use Rattle.no_std_io2_base.proofs.traits.buf_read.BufRead.read_line.Goals as goal

pub returns-then-append_text : goal.returns-then-append_text
returns-then-append_text g c =
    let filled = filled_law c.in-Ok.is c.fill_buf.ensures.law c.fill_buf.follows.holds-at-none in
    record {
      law = line_at_once filled c.find_piece-len.ensures c.if-is_whole.true c.consume.ensures.law c.if-append_text.ensures.appended.0
          c.append_text.ensures.capacity;
    }

pub returns-in-Err-2 : goal.returns-in-Err-2
returns-in-Err-2 g c = grind (arith, common_steps, filled_law, in-Err, line_faulted)

pub returns : goal.returns
returns g c =
    let R = reader g.Self.Stored g.Self.Read in
    let bytes = c.take_bytes-bytes.result in
    let read = c.read_until-read in
    let both : (c.match-fill_buf.buf ≡ c.args.buf.now)
    × ReadUntilLaw R c.args.self.now newline bytes read.result read.new.buf read.new.self =
    elim c.match-fill_buf.branch [
      | in-Ok+else-is_whole w ↦
          let filled = filled_law w.in-Ok.is c.fill_buf.ensures.law c.fill_buf.follows.holds-at-none in
          let found = w.find_piece-len.ensures in
          elim w.else-is_whole.branch [
            | else-is_whole-via-then-is_whole+else-append_text v ↦
                let law = rw (w.self-is ∙ v.self-is) at read.ensures.law in
                let some = line_some c.args.buf.now (take w.find_piece-len.result.0 w.in-Ok.lent.now) v.if-append_text.ensures.refused in
                let long = length-take-le w.find_piece-len.result.0 w.in-Ok.lent.now found.within in
                (w.buf-is ∙ v.buf-is ∙ v.if-append_text.ensures.same, until_lent law filled (omega (arith, some, found.within, long)))
            | else-is_whole-via-else-is_whole v ↦
                let law = rw (w.self-is ∙ v.self-is) at read.ensures.law in
                let some = (found.open_ended v.if-is_whole.false).0 in
                (w.buf-is ∙ v.buf-is, until_lent law filled (omega (arith, some, found.within)))
          ]
      | in-Err w ↦
          let filled = filled_law w.in-Err.is c.fill_buf.ensures.law c.fill_buf.follows.holds-at-none in
          let law = rw w.self-is at read.ensures.law in
          (w.buf-is, until_waited law filled (sym w.is_interrupted.ensures ∙ w.if-is_interrupted.true))
    ] in
    let text = c.args.buf.now in
    let start : c.len-start.result ≡ string_len text = c.len-start.ensures ∙ ap string_len both.0 in
    let until = rw (c.take_bytes-bytes.ensures ∙ ap string_vec both.0) at both.1 in
    record { law = line_law text read.new.buf until (rw start at c.put_back.ensures.answers) c.put_back.ensures.capacity }

pub put_back-requires-clause-within : goal.put_back-requires-clause-within
put_back-requires-clause-within g c =
    let appends = rw c.take_bytes-bytes.ensures at c.read_until-read.ensures.law.appends in
    rw c.len-start.ensures (memory_grows c.match-fill_buf.buf c.read_until-read.new.buf _ appends)

pub put_back-requires-clause-text : goal.put_back-requires-clause-text
put_back-requires-clause-text g c =
    let appends = rw c.take_bytes-bytes.ensures at c.read_until-read.ensures.law.appends in
    rw c.len-start.ensures (memory_text c.match-fill_buf.buf c.read_until-read.new.buf _ appends)

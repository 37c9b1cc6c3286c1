-- The appended bytes are the piece that was taken.
use Rattle.no_std_io2.proofs.Words.{◌++◌, drop, vec_len, ap, subst, sym, ◌∙◌, drop-append_seam, event_bytes, IsSuffix, reader_behind}
use Rattle.no_std_io2.proofs.TakesLemmas.{reader}
use Rattle.promises.proofs.HeldPieces.{piece_behind}
use Rattle.promises.proofs.reads.keeps_the_last_bytes_behind.Goals as goal

pub returns : goal.returns
returns g c =
    let law = c.read_until.ensures.law in
    let old = c.args.buf.now in
    subst (λ l. IsSuffix (reader_behind c.args.r.now ++ l) (reader_behind c.read_until.new.self))
    (sym (ap (drop (vec_len old)) law.appends ∙ ap (λ n. drop n (old.items ++ event_bytes law.taken)) old.ok.0
    ∙ drop-append_seam old.items (event_bytes law.taken)))
    (piece_behind (reader g.R.Stored g.R.Read) c.args.r.now c.args.delim (event_bytes law.taken) (Unit {0}) c.read_until.result law.calls)

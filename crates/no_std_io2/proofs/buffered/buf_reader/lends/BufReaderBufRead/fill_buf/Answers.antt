-- Held bytes are lent; or a fill failed; or what it gave is lent.
use Rattle.no_std_io2.proofs.Words.{◌≡◌, ◌<◌, [], Ok, Err, refl, sym, ap, ◌∙◌, arith, length, nil_from_length, err_from_is_err_and, tells}
use Rattle.no_std_io2.{proofs.{Words.{reader_held, lent_held, lent_read}, BufferedReads.{takes_fill}}, specs.inner.Buffer.{buffer_held}}
use Rattle.no_std_io2.proofs.BufferedReads.{begins_lent, begins_filled, ends_unheld}
use Rattle.no_std_io2_base.proofs.TakesLemmas.{reader, takes_none, stays_at_end}
use Rattle.no_std_io2.proofs.buffered.buf_reader.lends.BufReaderBufRead.fill_buf.Goals as goal

pub returns-then-len-gt0 : goal.returns-then-len-gt0
returns-then-len-gt0 g c =
    let r = c.args.self.now in
    let is = c.as_slice.ensures.value in
    let some : 0 < length (reader_held r) = omega (arith, c.len.ensures.len, c.if-len-gt0.true) in (
      (
        refl,
        λ _. tt,
        record {
          lends = sym is;
          takes = takes_none _;
          unchanged = λ _. refl;
          end = λ none. absurd (not_empty (let empty : c.as_slice.result.now ≡ [] = cc in empty));
          call = lent_held some (ap Ok is) refl;
        },
      ),
      record {
        law = record {
          held = λ _. is;
          front = begins_lent g.row.S (tells (reader g.R.Stored g.R.Read) r.inner) is;
          end = λ none. absurd (not_empty none);
        };
        after_borrow = tt;
      },
    )
  where
    not_empty : c.as_slice.result.now ≡ [] → ⊥
    not_empty none = omega (arith, ap length none, ap length c.as_slice.ensures.value, c.len.ensures.len, c.if-len-gt0.true)

pub returns-in_err-fill : goal.returns-in_err-fill
returns-in_err-fill g c =
    let p = err_from_is_err_and c.from_residual.result c.from_residual.ensures.1 in
    let held = reader_held c.args.self.now in
    let none : held ≡ [] = nil_from_length held (omega (arith, c.len.ensures.len, c.if-len-gt0.false)) in
    let fill = c.in_err-fill.ensures in
    rw (p.1, p.2) (
      (
        refl,
        λ _. tt,
        record {
          lends = fill.err;
          takes = takes_fill g.row.S held (Err _) fill.read.takes none fill.err (omega (arith, ap length fill.err));
          unchanged = λ some. absurd (omega (arith, some, ap length none));
          end = λ empty. absurd (let no : ⊥ = cc in no);
          call = lent_read none fill.read (fill.behind, fill.err);
        },
      ),
      record { law = record { held = λ some. absurd (omega (arith, some, ap length none)); front = tt; end = tt }; after_borrow = tt },
    )

pub returns : goal.returns
returns g c =
    let r = c.args.self.now in
    let held = reader_held r in
    let none : held ≡ [] = nil_from_length held (omega (arith, c.len.ensures.len, c.if-len-gt0.false)) in
    let mid = buffer_held c.fill.new.self in
    let fill = c.in_ok-fill.ensures in
    let is = c.as_slice-2.ensures.value in
    let inner = tells (reader g.R.Stored g.R.Read) c.fill.new.from in
    let takes = takes_fill g.row.S held (Ok mid) fill.read.takes none refl fill.read.bound in (
      (
        refl,
        λ _. tt,
        record {
          lends = sym is;
          takes = takes;
          unchanged = λ some. absurd (omega (arith, some, ap length none));
          end = λ empty.
              let none : c.as_slice-2.result.now ≡ [] = cc in
              let gone = sym is ∙ none in
              ends_unheld g.row.S mid inner gone (fill.read.end (ap Ok gone) r.some_room);
          call = rw is (lent_read none fill.read (fill.behind, refl));
        },
      ),
      record {
        law = record {
          held = λ some. absurd (omega (arith, some, ap length none));
          front = begins_filled c.as_slice-2.result.now takes (begins_lent g.row.S inner is);
          end = λ empty.
              let gone = sym is ∙ empty in
              stays_at_end takes (ends_unheld g.row.S mid inner gone (fill.read.end (ap Ok gone) r.some_room));
        };
        after_borrow = tt;
      },
    )

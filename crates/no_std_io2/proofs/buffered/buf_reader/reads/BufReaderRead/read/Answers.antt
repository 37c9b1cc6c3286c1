-- A read, by its ends: out of what was held, past the buffer, a fill that failed, and out of the filled buffer.
use Rattle.no_std_io2.proofs.Words.{◌≡◌, [], Ok, Err, ◌++◌, length, take, drop, arith, refl, ap, ◌∙◌, nil_from_length, err_from_is_err_and}
use Rattle.no_std_io2.{proofs.Words.{tells, reader_held, went_past, was_filled}, specs.inner.Buffer.{buffer_held}}
use Rattle.no_std_io2.proofs.BufferedReads.{by_held, split_held, by_filled, takes_held, takes_direct, takes_fill, ends_unheld, end_read}
use Rattle.std.proofs.Math.Seq.{drop-nil}
use Rattle.no_std_io2_base.proofs.TakesLemmas.{reader, read_law, takes_then}
use Rattle.no_std_io2.proofs.buffered.buf_reader.reads.BufReaderRead.read.Goals as goal

-- out of what was held
pub returns-then-len-gt0 : goal.returns-then-len-gt0
returns-then-len-gt0 g c =
    let is = c.give.ensures in
    record {
      law = by_held c.give.result c.args.buf.now c.give.new.buf c.give.auto.buf (omega (arith, c.len.ensures.len, c.if-len-gt0.true)) refl
          is.count is.gave is.behind is.held;
    }

-- past the buffer
pub returns-then-buf : goal.returns-then-buf
returns-then-buf g c =
    let held = reader_held c.args.self.now in
    let none : held ≡ [] = nil_from_length held (omega (arith, c.len.ensures.len, c.if-len-gt0.false)) in
    let read = c.read.ensures.law in
    let clear = c.clear.ensures in
    record {
      law = record {
        bound = read.bound;
        takes = takes_direct g.row.S held read.takes none clear.held;
        end = end_read (tells (reader g.R.Stored g.R.Read) c.read.new.self) g.row.S (buffer_held c.clear.new.self) c.read.new.buf
            c.read.result clear.held read.end;
        call = went_past none (omega (arith, c.read.auto.buf)) (read_law c.read.result read) (clear.behind, clear.held);
      };
    }

-- the fill failed
pub returns-in_err-fill : goal.returns-in_err-fill
returns-in_err-fill g c =
    let p = err_from_is_err_and c.from_residual.result c.from_residual.ensures.1 in
    let held = reader_held c.args.self.now in
    let none : held ≡ [] = nil_from_length held (omega (arith, c.len.ensures.len, c.if-len-gt0.false)) in
    let fill = c.in_err-fill.ensures in
    rw (p.1, p.2) (record {
      law = record {
        bound = tt;
        takes = takes_direct g.row.S held fill.read.takes none fill.err;
        end = tt;
        call = was_filled none (omega (arith, c.if-buf.false)) (Err _) fill.read (refl, (fill.behind, fill.err));
      };
    })

-- out of the filled buffer
pub returns : goal.returns
returns g c =
    let held = reader_held c.args.self.now in
    let none : held ≡ [] = nil_from_length held (omega (arith, c.len.ensures.len, c.if-len-gt0.false)) in
    let mid = buffer_held c.fill.new.self in
    let fill = c.in_ok-fill.ensures in
    let is = c.give-2.ensures in
    let n = c.give-2.result in
    let shown = c.give-2.new.buf in
    record {
      law = record {
        bound = omega (arith, is.count, c.give-2.auto.buf);
        takes = takes_then (takes_fill g.row.S held (Ok mid) fill.read.takes none refl fill.read.bound)
            (takes_held g.row.S mid _ (take n shown) _ (split_held n mid shown is.gave is.held) fill.read.bound);
        end = λ zero room.
            let empty : mid ≡ [] = nil_from_length mid (omega (arith, zero, room, is.count, c.give-2.auto.buf)) in
            ends_unheld g.row.S _ (tells (reader g.R.Stored g.R.Read) c.fill.new.from) (is.held ∙ ap (drop n) empty ∙ drop-nil n)
            (fill.read.end (ap Ok empty) (omega (arith, c.if-buf.false)));
        call = by_filled n (length shown) mid shown none (omega (arith, c.if-buf.false, c.give-2.auto.buf)) fill.read
            (omega (arith, is.count, c.give-2.auto.buf)) is.gave (is.behind ∙ ap (λ l. l ++ take n shown) fill.behind) is.held;
      };
    }

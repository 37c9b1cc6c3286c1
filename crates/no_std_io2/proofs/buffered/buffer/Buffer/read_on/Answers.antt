-- The bytes that were read lie behind the held bytes, which are at the front.
use Rattle.no_std_io2.proofs.Words.{common_steps, ◌≡◌, ℕ, ◌+◌, ◌-◌, ◌≤◌, List, ◌++◌, Ok, length, take, drop, sym, ap, subst, ◌∙◌, arith}
use Rattle.no_std_io2.proofs.Words.{length-take, length-drop, length-take-le, err_from_is_err_and, GaveLaw}
use Rattle.std.proofs.Common.{slice_range}
use borrow.Rule.Slice.PartMut.{put_mid}
use Rattle.no_std_io2_base.proofs.{ReadLoops.{take-put_mid}, TakesLemmas.{reader, read_law}}
use Rattle.no_std_io2.proofs.buffered.buffer.Buffer.read_on.Goals as goal

-- the bytes from the front to the end, after n bytes were put behind it
held_on : (xs ys : List ℕ) (start end n k : ℕ) → start ≡ 0 → end ≤ length xs → n ≤ length ys
    → slice_range (put_mid end k xs ys) start (end + n) ≡ slice_range xs start end ++ take n ys
held_on xs ys start end n k zero within fits = grind (arith, common_steps, slice_range, put_mid, take-put_mid)

-- the room behind them
room_on : (xs ys : List ℕ) (start end size : ℕ) → start ≡ 0 → end ≤ size → length xs ≡ size
    → length ys ≡ length (take (length xs - end) (drop end xs)) → length ys ≡ size - length (slice_range xs start end)
room_on xs ys start end size zero within long room = grind (arith, common_steps, length-take, length-drop)

pub returns-in_err-n-clause-read : goal.returns-in_err-n-clause-read
returns-in_err-n-clause-read g c =
    grind (arith, common_steps, err_from_is_err_and, held_on, reader, room_on, read_law, slice_range, put_mid)

pub returns-clause-read : goal.returns-clause-read
returns-clause-read g c =
    let was = c.move_to_front.new.self in
    let first = c.move_to_front.ensures in
    let law = c.in_ok-n.ensures.law in
    let n = c.in_ok-n.n in
    let long : length was.bytes ≡ g.row.S = omega arith in
    let on = held_on was.bytes c.read.new.buf was.start was.end n (length was.bytes - was.end) first.start
    (omega (arith, long, was.in_range)) law.bound in
    record {
      answer = Ok (take n c.read.new.buf);
      read = subst (λ k. GaveLaw (reader g.R.Stored g.R.Read) c.args.from.now k (Ok (take n c.read.new.buf)) c.read.new.self)
          (room_on was.bytes c.read.new.buf was.start was.end g.row.S first.start was.in_range long c.read.auto.buf
          ∙ ap (λ l. g.row.S - length l) first.same) (read_law (Ok n) law);
      number = ap Ok (sym (length-take-le n c.read.new.buf law.bound));
      holds = on ∙ ap (λ l. l ++ take n c.read.new.buf) first.same;
    }

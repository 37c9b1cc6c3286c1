-- The prover does not find that what was put went out.
use Rattle.no_std_io2.proofs.Words.{◌≡◌, ◌+◌, ◌≤◌, length, take, refl, ap, sym, ◌∙◌, arith, length-take-le, inl}
use Rattle.record_log.proofs.DeviceLemmas.{put_there, put_before, writes_out}
use Rattle.record_log.proofs.disk.DiskWrite.write.Goals as goal

pub returns : goal.returns
returns c =
    let place = c.args.self.now.place in
    let old = c.args.self.now.content.items in
    let x = c.args.buf.now in
    let n = c.min-n.result in
    let new = c.put-2.new.content.items in
    let long : length (take n x) ≡ n = length-take-le n x (omega (arith, c.min-n.ensures)) in
    let is = c.put-2.ensures.puts in
    let fits = c.put-2.ensures.fits in
    let within : place ≤ length old = omega (arith, fits) in
    let out = ap (λ m. take (place + m) new) (sym long) ∙ (put_before place (take n x) old new within is).1 in record {
      law = record {
        bound = omega (arith, c.min-n.ensures);
        moves = writes_out n x (take place old) (take (place + n) new) out;
        all = λ never. absurd never.0;
        call = (inl (put_there place (take n x) old new fits is), refl);
      };
    }

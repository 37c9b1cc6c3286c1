-- The prover does not find that the held bytes are the frame and what follows it (`take-append_seam`).
use Rattle.no_std_io2.proofs.Words.{◌≡◌, ◌≤◌, ◌+◌, ◌-◌, ◌++◌, length, length-append, length-take, length-drop, take, drop, ap, ◌∙◌, arith}
use Rattle.no_std_io2.proofs.Words.{sym, take-append_seam, reader_held}
use Rattle.framing.{specs.{Frames.{frame}, Places.{long_part}}, proofs.SeenLemmas.{seen_between, short_given}}
use Rattle.framing.proofs.reader.FrameReader.give.Goals as goal

pub returns-clause-gives : goal.returns-clause-gives
returns-clause-gives g c =
    let r = c.args.self.now in
    let len = c.args.len in
    let held = reader_held r.inner in
    let got = c.copy_from_slice.new.self in
    let size : (4 + len) - 4 ≡ len = omega arith in
    let copied : got ≡ take len (drop 4 held) =
    c.copy_from_slice.ensures.after ∙ ap (λ n. take n (drop 4 c.buffer-held.result.now)) size
    ∙ ap (λ l. take len (drop 4 l)) c.buffer-held.ensures.value in
    let long : length got ≡ len = omega (arith, ap length copied, length-take len (drop 4 held), length-drop 4 held, c.requires.held) in
    let room = got ++ drop len c.args.room.now in
    let front : take len room ≡ take len (drop 4 held) = ap (λ n. take n room) (sym long)
    ∙ take-append_seam got (drop len c.args.room.now) ∙ copied in
    let fits : len ≤ length room = omega (arith, long, length-append got (drop len c.args.room.now)) in
    let left = reader_held c.consume.new.self in
    seen_between r c.args.room.now c.requires.between
    ∙ short_given len held left room c.requires.header fits front c.consume.ensures.law.held
    ∙ ap (λ p. frame (take len room) ++ (long_part p room ++ left)) (sym c.requires.between)

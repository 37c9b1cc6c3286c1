-- The search does not see that the two puts are one of the whole line, and the two sendings one sending of all.
use Rattle.no_std_io2.proofs.Words.{◌≡◌, length, ◌++◌, ap, subst, inl, arith}
use Rattle.bare.specs.{Queue.{waiting}, Kept.{Resumes}, Log.{line}}
use Rattle.bare.proofs.KeptLemmas.{resumed_more, line_put}
use Rattle.bare.proofs.log.bare_log.Goals as goal

pub returns : goal.returns
returns c =
    let text = c.args.text.now in
    let none = c.if-has_newline.ensures.lacks in
    let before = waiting c.bare_resume.new.kept in
    let put : waiting c.bare_put-2.new.queue ≡ before ++ line text =
    line_put before (waiting c.bare_put.new.queue) (waiting c.bare_put-2.new.queue) text c.bare_put.result c.bare_put-2.result
    (omega (arith, c.if-waiting-text-ge-CAPACITY.false, ap length c.waiting.ensures))
    c.bare_put.ensures.count c.bare_put.ensures.puts c.bare_put-2.ensures.count c.bare_put-2.ensures.puts in
    inl (
      (none, c.if-text-ge-CAPACITY.false),
      resumed_more (waiting c.args.port.now) (waiting c.bare_resume.new.port) (waiting c.bare_resume-2.new.port)
          (waiting c.args.kept.now) before (waiting c.bare_resume-2.new.kept) (line text) c.bare_resume.ensures
          (subst (λ l. Resumes l (waiting c.bare_resume.new.port) c.bare_resume-2.result (waiting c.bare_resume-2.new.kept)
          (waiting c.bare_resume-2.new.port)) put c.bare_resume-2.ensures),
    )

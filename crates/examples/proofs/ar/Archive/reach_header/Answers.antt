-- The prover does not find how the content that is skipped and the bytes of the header follow each other (`skip_fails`, `reads_on`).
use Rattle.no_std_io2.{proofs.Words.{refl, rules, err_from_is_err_and}, specs.inner.Take.{limit_with_inner}}
use Rattle.examples.{specs.declared.ar.Archive.{Archive}, proofs.ArLemmas.{skip_fails, reads_on}}
use Rattle.examples.proofs.ar.Archive.reach_header.Goals as goal

pub returns-in_err-reply : goal.returns-in_err-reply
returns-in_err-reply g c =
    let p = err_from_is_err_and c.from_residual.result c.from_residual.ensures.1 in
    let skipped = rw (c.get_mut.ensures.value, ← c.set_limit.ensures.inner) at c.in_err-reply.ensures in
    rw (p.1, p.2) (skip_fails c.args.self.now (record c.args.self.now { content = c.set_limit.new.self }) skipped c.limit-left.ensures
    c.set_limit.ensures.limit refl)

pub returns : goal.returns
returns g c =
    let new : Archive _ = record {
      content = limit_with_inner c.set_limit.new.self c.read_full.new.self;
      head = c.read_full.new.buf;
      filled = c.read_full.new.filled;
    } in
    reads_on c.args.self.now new c.read_full.result (rw c.get_mut.ensures.value at c.in_ok-reply.ensures) c.limit-left.ensures
    c.set_limit.ensures.limit (rw (c.get_mut-reader.ensures.value, c.set_limit.ensures.inner) at c.read_full.ensures.law) (search rules)
    (search rules) refl refl

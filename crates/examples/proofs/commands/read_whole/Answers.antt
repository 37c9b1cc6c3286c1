-- The seeks and the read are joined by `stands_at`, a lemma that the search does not have.
use Rattle.no_std_io2.proofs.{Words.{◌≡◌, subst, ◌++◌, IsSomeAnd}, KnownBytes.{stands_at}}
use Rattle.std.specs.Prelude.{IfSome}
use Rattle.examples.proofs.commands.read_whole.Goals as goal

pub returns : goal.returns
returns g c =
    let store = g.F.Stored.store in
    let old = store c.args.f.now in
    let new = store c.seek-2.new.self in
    record {
      whole = subst
          (λ l. IfSome old (λ s. (c.read_to_end.new.buf.items ≡ l ++ s.content)
          × IsSomeAnd new (λ t. (t.content ≡ s.content) × (t.position ≡ 0))))
          c.new-content.ensures.items
          (stands_at c.in_ok-read_to_end.ensures.law old new _ _ 0 c.in_ok-seek.ensures.law.store c.in_ok-seek-2.ensures.law.store);
    }

-- It is the read of at most as many bytes as the limit leaves.
use Rattle.std.proofs.Common.{ap, arith}
use Rattle.no_std_io2_base.proofs.LimitedReads.{limited, limited_to_end, lacks_less, none_at_end}
use Rattle.no_std_io2_base.proofs.traits.take.TakeRead.read_to_end.Goals as goal

pub returns : goal.returns
returns g c =
    let law = limited_to_end _ c.args.self.now c.read_at_most-read.result c.read_at_most-read.ensures.law
    (ap (λ n. limited c.args.self.now c.read_at_most-read.new.reader n) (omega (arith, c.len.ensures, c.len-start.ensures))) in
    record {
      law = lacks_less law (λ n why. omega (arith, why));
      small_room = law;
      at_limit = none_at_end c.read_at_most-read.result c.read_at_most-read.ensures.law;
    }

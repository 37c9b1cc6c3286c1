-- A seek and then a read: the search does not join the laws of the two calls.
use Rattle.no_std_io2.proofs.Words.{inr}
use Rattle.no_std_io2_base.proofs.KnownBytes.{stands_there, enough_there}
use Rattle.no_std_io2.proofs.util.read_at.read_exact_at.Goals as goal

pub returns : goal.returns
returns g c =
    let sought = c.in_ok-seek.ensures.law in
    let read = c.read_exact.ensures.law in
    record {
      store = stands_there _ c.args.at c.in_ok-seek.field-0 sought.store c.read_exact.result read;
      enough = enough_there _ c.args.at c.in_ok-seek.field-0 sought.store c.read_exact.result read c.read_exact.auto.buf;
      calls = inr (c.seek.new.self, c.in_ok-seek.field-0, sought, read);
    }

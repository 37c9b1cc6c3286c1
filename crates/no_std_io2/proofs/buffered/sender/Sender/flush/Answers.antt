-- All was sent, and then the inner writer was flushed.
use Rattle.no_std_io2.proofs.{Words.{arith, common_steps, err_from_is_err_and}, BufWriterLemmas.{then_stops, then_goes_on}}
use Rattle.no_std_io2_base.proofs.CallsLemmas.{by_call, writes_whole}
use Rattle.no_std_io2.proofs.buffered.sender.Sender.flush.Goals as goal

pub returns-in_err-send : goal.returns-in_err-send
returns-in_err-send g c = grind (arith, common_steps, err_from_is_err_and, then_stops)

pub returns : goal.returns
returns g c = grind (arith, common_steps, writes_whole, then_goes_on, by_call)

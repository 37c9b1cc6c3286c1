-- The prover does not find what a call with an act puts (`faulty_puts`), nor that no `write_all` is such a call.
use Rattle.no_std_io2.proofs.CallsLemmas.{law_may}
use Rattle.promises.proofs.FaultyPuts.{faulty_puts}
use Rattle.promises.proofs.survival.puts_behind_its_acts.Goals as goal

pub returns : goal.returns
returns g c = record {
  puts = λ content place puts old new call law.
      faulty_puts g.W.Write content place puts old new call (law_may _ old new call law);
  near = λ place old new x e law. absurd law.0;
}

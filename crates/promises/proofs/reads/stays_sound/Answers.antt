-- The prover does not go over the calls of a loop.
use Rattle.no_std_io2.proofs.{TakesLemmas.{reader}, BufReaderSeeks.{calls_stay_sound}}
use Rattle.promises.proofs.reads.stays_sound.Goals as goal

pub returns : goal.returns
returns g c = λ sound.
    let calls = c.read_exact.ensures.law.calls in
    calls_stay_sound (reader g.R.Stored g.R.Read) calls.calls c.args.r.now c.read_exact.new.self calls.made sound

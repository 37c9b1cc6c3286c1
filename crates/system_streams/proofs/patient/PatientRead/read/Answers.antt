-- With some room and more than one turn, it is one read of the device.
use Rattle.no_std_io2.proofs.{Words.{◌<◌, length, arith, rules, Ok, Err}, TextLemmas.{not_empty}}
use Rattle.system_streams.{specs.Patient.{patient_turns}, proofs.PatientLemmas.{asks_once}}
use Rattle.system_streams.proofs.patient.PatientRead.read.Goals as goal

pub returns-in-Ok-eq0-clause-law : goal.returns-in-Ok-eq0-clause-law
returns-in-Ok-eq0-clause-law g c =
    let some : 0 < length c.ask_read.new.buf = omega (arith, not_empty _ _ c.is_empty.ensures c.if-is_empty.false, c.ask_read.auto.buf) in
    let more : 1 < patient_turns c.args.self.now = omega (arith, c.if-self-eq0.false, c.if-self-eq1.false) in
    asks_once g.D.SystemRead (Ok 0) some more c.ask_read.ensures.may (search rules) (search rules) (search rules) (search rules)
    (search rules) (search rules)

pub returns-in-Ok-clause-law : goal.returns-in-Ok-clause-law
returns-in-Ok-clause-law g c =
    let some : 0 < length c.ask_read.new.buf = omega (arith, not_empty _ _ c.is_empty.ensures c.if-is_empty.false, c.ask_read.auto.buf) in
    let more : 1 < patient_turns c.args.self.now = omega (arith, c.if-self-eq0.false, c.if-self-eq1.false) in
    asks_once g.D.SystemRead (Ok c.in-Ok.n) some more c.ask_read.ensures.may (search rules) (search rules) (search rules) (search rules)
    (search rules) (search rules)

pub returns-in-Err-clause-law : goal.returns-in-Err-clause-law
returns-in-Err-clause-law g c =
    let some : 0 < length c.ask_read.new.buf = omega (arith, not_empty _ _ c.is_empty.ensures c.if-is_empty.false, c.ask_read.auto.buf) in
    let more : 1 < patient_turns c.args.self.now = omega (arith, c.if-self-eq0.false, c.if-self-eq1.false) in
    asks_once g.D.SystemRead (Err c.device_error.result) some more c.ask_read.ensures.may (search rules) (search rules) (search rules)
    (search rules) (search rules) (search rules)

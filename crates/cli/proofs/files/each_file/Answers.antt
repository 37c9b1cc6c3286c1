-- The prover does not find how the tries join: one more follows those before it (`tries_done`, `tries_told`, `stops_at`).
use Rattle.no_std_io2.proofs.Words.{arith}
use Rattle.cli.{specs.Files.{none_tried}, proofs.{FilesLemmas.{tries_done, tries_told, stops_at}, files.each_file.Goals.{in-Ok}}}
use Rattle.cli.proofs.files.each_file.Goals.{in-Err-File}
use Rattle.std.proofs.Common.{take_all}
use Rattle.cli.proofs.files.each_file.Goals as goal

pub names-init : goal.names-init
names-init g c = none_tried

pub names-preserved : goal.names-preserved
names-preserved g c = elim c.match-try_file.branch [
  | in-Ok w ↦ rw (w.work-is, w.whole-is) (tries_done c.args.names.now c.names.name-index c.name-item.result c.names-test.true c.name-item.is
      c.names.invariant (rw c.as_str.ensures.value at w.in-Ok.ensures))
  | in-Err-File w ↦ rw (w.work-is, w.whole-is) (tries_told c.args.names.now c.names.name-index c.name-item.result c.names-test.true
      c.name-item.is c.names.invariant (rw (w.in-Err-File.field-0-is, c.as_str.ensures.value) at w.in-Err-File.ensures)
      (rw w.as_str-in-Err-File.ensures.value at w.tell_of.ensures))
]

pub returns-in-Err-Output : goal.returns-in-Err-Output
returns-in-Err-Output g c =
    stops_at c.args.names.now c.names.name-index c.name-item.result c.names-test.true c.name-item.is c.names.invariant
    (rw (c.in-Err-Output.field-0-is, c.as_str.ensures.value) at c.in-Err-Output.ensures)

pub returns : goal.returns
returns g c = rw (take_all c.names.name-index c.args.names.now (omega (arith, c.names-test.false))) at c.names.invariant

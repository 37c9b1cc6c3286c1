-- The prover does not find what `open` says of a disk's content, nor where a log then stands.
use Rattle.no_std_io2.proofs.Words.{Err, Ok, ◌∙◌, ap, arith, length, length-append, refl, subst, sym}
use Rattle.record_log.specs.{Disk.{disk_content, disk_place}, Opening.{Opens}, Records.{log_of, HasRecords}}
use Rattle.record_log.proofs.CutLemmas.{opened, stands_anew}
use Rattle.record_log.proofs.twice.reopen.Goals as goal

pub returns-in_err-end-clause-opens : goal.returns-in_err-end-clause-opens
returns-in_err-end-clause-opens g c =
    absurd (opened _ _ _ _ (Err c.in_err-end.field-0.0) refl c.new.ensures.position (omega arith) c.in_err-end.ensures.opens)

pub returns-in_err-end-clause-stands : goal.returns-in_err-end-clause-stands
returns-in_err-end-clause-stands g c =
    absurd (opened _ _ _ _ (Err c.in_err-end.field-0.0) refl c.new.ensures.position (omega arith) c.in_err-end.ensures.opens)

pub restart-requires : goal.restart-requires
restart-requires g c =
    let is = ap (λ s. s.now) c.new.ensures.inner ∙ c.content.ensures in
    let small = ap length is in
    let says = opened _ _ _ _ (Ok c.in_ok-end.field-0) is c.new.ensures.position (omega (arith, small)) c.in_ok-end.ensures.opens in
    omega (arith, says.3, ap length says.2.bytes, length-append (log_of says.0) says.1)

pub returns : goal.returns
returns g c =
    let is = ap (λ s. s.now) c.new.ensures.inner ∙ c.content.ensures in
    let small = ap length is in
    let says = opened _ _ _ _ (Ok c.in_ok-end.field-0) is c.new.ensures.position (omega (arith, small)) c.in_ok-end.ensures.opens in
    let same = ap disk_content c.new-2.ensures.inner ∙ c.restart.ensures.content in
    let at = ap disk_place c.new-2.ensures.inner ∙ c.restart.ensures.place in record {
      opens = refl;
      stands = λ payloads rest has. stands_anew disk_content disk_place payloads rest c.new-2.result c.in_ok-end.field-0.end _
          (subst (λ l. HasRecords l payloads rest) (ap disk_content (sym c.cut-disk.ensures) ∙ sym same) has)
          (subst (λ l. Opens l c.in_ok-end.field-0.end c.in_ok-end.field-0.torn) (sym same) says) at c.new-2.ensures.empty;
    }

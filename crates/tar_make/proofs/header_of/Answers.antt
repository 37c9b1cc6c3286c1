-- The prover does not find that the header is one for this name (`header_for`).
use Rattle.no_std_io2.proofs.Words.{refl, arith, common_steps}
use Rattle.tar_make.proofs.NameLemmas.{header_for}
use Rattle.tar_make.proofs.header_of.Goals as goal

pub returns-in-Ok : goal.returns-in-Ok
returns-in-Ok c =
    header_for c.args.found.now c.header_or_reason.result c.symlink.result _ _ _ _ c.as_bytes-bytes.ensures.value
    c.header_or_reason.ensures c.symlink.ensures.ok c.described-metadata.ensures (λ link. refl)

pub returns-then-is_dir : goal.returns-then-is_dir
returns-then-is_dir c =
    header_for c.args.found.now c.header_or_reason-then-is_dir.result c.directory.result _ _ _ _ c.as_bytes-bytes.ensures.value
    c.header_or_reason-then-is_dir.ensures c.directory.ensures.ok c.described-metadata.ensures
    (λ link. absurd (grind (arith, common_steps)))

pub returns-then-is_fifo : goal.returns-then-is_fifo
returns-then-is_fifo c =
    header_for c.args.found.now c.header_or_reason-then-is_fifo.result c.fifo.result _ _ _ _ c.as_bytes-bytes.ensures.value
    c.header_or_reason-then-is_fifo.ensures c.fifo.ensures.ok c.described-metadata.ensures
    (λ link. absurd (grind (arith, common_steps)))

pub returns : goal.returns
returns c =
    header_for c.args.found.now c.header_or_reason-2.result c.file.result _ _ _ _ c.as_bytes-bytes.ensures.value
    c.header_or_reason-2.ensures c.file.ensures.ok c.described-metadata.ensures (λ link. absurd (grind (arith, common_steps)))

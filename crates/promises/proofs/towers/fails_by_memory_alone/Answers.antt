-- The errors of a vector's calls are those of the writers in front of it.
use Rattle.no_std_io2.proofs.Words.{ℕ, err_from_is_err_and, IsOutOfMemory, writer_inner, writer_buffer, line_inner, line_buffer}
use Rattle.std.specs.Vec.{vec_len, vec_capacity}
use Rattle.promises.specs.Fails.{FailsOnly}
use Rattle.promises.proofs.BufferFails.{buffer_fails, line_fails, appends_fails, write_all_fails, flush_fails, vector, buffered, lines}
use Rattle.promises.proofs.towers.fails_by_memory_alone.Goals as goal

fails : (Z : Type 0) (S T : ℕ) → FailsOnly IsOutOfMemory (lines T (buffered S (vector Z))).may
fails Z S T =
    line_fails (buffered S (vector Z)) IsOutOfMemory
    (buffer_fails (vector Z) IsOutOfMemory (appends_fails (λ v. v.items) vec_len vec_capacity) S writer_inner writer_buffer)
    T line_inner line_buffer

pub returns-in_err-write_all : goal.returns-in_err-write_all
returns-in_err-write_all g c =
    let Z = g.row.A.Denot in
    let p = err_from_is_err_and c.from_residual.result c.from_residual.ensures.1 in
    rw (p.1, p.2) (rw c.in_err-write_all.was at
    (write_all_fails (lines g.row.T (buffered g.row.S (vector Z))) IsOutOfMemory (fails Z g.row.S g.row.T) c.write_all.result
    c.write_all.ensures.law))

pub returns : goal.returns
returns g c =
    let Z = g.row.A.Denot in
    flush_fails (lines g.row.T (buffered g.row.S (vector Z))) IsOutOfMemory (fails Z g.row.S g.row.T) c.flush.result c.flush.ensures.law

-- The prover does not find how the calls join: `MovesFront-join`, and if the second fails, `MovesFront-second`.
use Rattle.no_std_io2.proofs.Words.{inl, err_from_is_err_and}
use Rattle.no_std_io2.proofs.{MovesLemmas.{MovesFront-join, MovesFront-second}, TextLemmas.{MovesFront-text}}
use Rattle.tar_list.proofs.ListLemmas.{printed_whole}
use Rattle.tar_list.proofs.print_line.Goals as goal

pub returns-in_err-write_all : goal.returns-in_err-write_all
returns-in_err-write_all g c =
    let p = err_from_is_err_and c.from_residual-in_err-write_all.result c.from_residual-in_err-write_all.ensures.1 in
    let number = printed_whole _ c.in_ok-write.was (rw c.member_len.ensures at (MovesFront-text c.write.ensures.law.moves)) in
    let name = rw c.as_slice.ensures.value at c.in_err-write_all.ensures.law.moves in
    rw (p.1, p.2) (inl (MovesFront-second _ _ _ _ number name))

pub returns : goal.returns
returns g c =
    let number = printed_whole _ c.in_ok-write.was (rw c.member_len.ensures at (MovesFront-text c.write.ensures.law.moves)) in
    let name = rw c.as_slice.ensures.value at c.in_ok-write_all.ensures.law.moves in
    inl (MovesFront-join _ _ c.write_all-2.result number (MovesFront-join _ _ c.write_all-2.result name c.write_all-2.ensures.law.moves))

-- Two writes are joined to one header, also if the first one failed; the search has no lemma for either.
use Rattle.no_std_io2.proofs.{Words.{returned_err, inl, inr, refl}, MovesLemmas.{MovesFront-first, MovesFront-join}}
use Rattle.byteorder.specs.Endian.{big_bytes}
use Rattle.numbers.proofs.chunk_header.write_chunk_header.Goals as goal

pub returns-in_err-write_u16 : goal.returns-in_err-write_u16
returns-in_err-write_u16 g c =
    rw (returned_err c.from_residual.ensures) (record {
      moves = MovesFront-first (big_bytes 2 c.args.kind) (big_bytes 4 c.args.len) _ c.in_err-write_u16.ensures.law.moves;
      writes = inl (_, refl, c.in_err-write_u16.ensures.law);
    })

pub returns : goal.returns
returns g c = record {
  moves = MovesFront-join (big_bytes 2 c.args.kind) (big_bytes 4 c.args.len) c.write_u32.result c.in_ok-write_u16.ensures.law.moves
      c.write_u32.ensures.law.moves;
  writes = inr (_, c.in_ok-write_u16.ensures.law, c.write_u32.ensures.law);
}

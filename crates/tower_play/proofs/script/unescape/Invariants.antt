use Rattle.no_std_io2.proofs.Words.{◌≡◌, ◌+◌, ◌≤◌, drop, vec_len}
use Rattle.std.proofs.Common.{vec_capacity}
use Rattle.tower_play.proofs.Escapes.{Halfway, waiting}
use Rattle.tower_play.proofs.script.unescape.Given as goal

abbrev pub invariant-bytes : goal.invariant-bytes
invariant-bytes l =
    record {
      room : vec_capacity l.bytes ≡ vec_capacity l.initial.bytes;
      short : vec_len l.bytes ≤ vec_len l.initial.bytes + l.b-index;
      grows : vec_len l.initial.bytes ≤ vec_len l.bytes;
      so : Halfway l.initial.bytes.items l.bytes.items l.text (waiting l.is_escaped (drop l.b-index l.text));
    }

-- The number is that of the digits so far; the other digits follow.
use Rattle.no_std_io2.proofs.Words.{◌≡◌, ◌<◌, ◌^◌, drop}
use Rattle.examples.specs.Ar.{decimal_field, decimal_from}
use Rattle.examples.proofs.ar.decimal.Given as goal

abbrev pub invariant-digits : goal.invariant-digits
invariant-digits l = record {
  so_far : decimal_field l.field ≡ decimal_from l.n (drop l.byte-index l.field);
  small : l.n < 10 ^ l.byte-index;
}

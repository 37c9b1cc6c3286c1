-- The digits are a text: the search does not find the lemma of ASCII.
use Rattle.std.proofs.{Common.{◌-◌, drop, length, arith, take_all, length-drop}, lemmas.Str.{IsUtf8-from_ascii}}
use Rattle.bare.proofs.decimal.DecimalDisplay.fmt.Goals as goal

pub from_utf8_unchecked-requires : goal.from_utf8_unchecked-requires
from_utf8_unchecked-requires g c =
    let s = c.digits-start in
    let all = drop s.result s.new.room in
    let whole = take_all (length s.new.room - s.result) all (omega (arith, length-drop s.result s.new.room)) in
    IsUtf8-from_ascii _ (rw (whole, s.ensures.written) s.ensures.ascii)

-- A device of one's own, lent as an object.
use Rattle.no_std_io2.proofs.{Words.{◌≡◌, append-nil}, Forwards.{object_given, row_back}}
use Rattle.examples.specs.{declared.narrow.Narrow.{Narrow}, contracts.narrow.Narrow.{the_row as narrow}}

-- the device that comes back has taken what the device behind the object has taken
pub narrow_back : (w y : Narrow) → narrow.coded.code w ≡ narrow.coded.code y → y.taken ≡ w.taken
narrow_back w y = row_back narrow (λ (v : Narrow). v.taken) w y

-- for a caller of a function over a `&mut dyn Write`, with this device
pub ruleset lent_narrow = (append-nil, object_given, narrow_back)

-- An error would say that there was no room.
use Rattle.no_std_io2.proofs.KnownPieces.{string_known}
use Rattle.promises.proofs.RoomLemmas.{has_room}
use Rattle.promises.proofs.rooms.reads_all_into_its_room.Goals as goal

pub returns : goal.returns
returns g c = λ x text told room.
    let reply = c.read_to_string.result in has_room reply (string_known reply x c.read_to_string.ensures.law text told).1 room

-- An error would say that there was no room.
use Rattle.no_std_io2.proofs.KnownPieces.{line_known}
use Rattle.promises.proofs.RoomLemmas.{has_room}
use Rattle.promises.proofs.rooms.reads_a_line_into_its_room.Goals as goal

pub returns : goal.returns
returns g c = λ x rest lacks text told room.
    let reply = c.read_line.result in
    has_room reply (line_known reply x rest c.read_line.ensures.law lacks text told).1 room

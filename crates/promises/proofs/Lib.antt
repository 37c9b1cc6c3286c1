mod CallsEnd
mod HeldPieces
mod BufferFails
mod PatientReads
mod LoopCounts
mod AtLimit
mod ExactCounts
mod RoomLemmas
pub mod FaultyPuts

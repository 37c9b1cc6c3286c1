pub mod RecordLemmas
pub mod PlacedLemmas
pub mod PlaceLemmas
pub mod CutLemmas
pub mod PieceLemmas
pub mod DeviceLemmas
pub mod BufferLemmas

pub mod SendingLemmas
pub mod SeenLemmas
pub mod TakingLemmas
pub mod BackLemmas

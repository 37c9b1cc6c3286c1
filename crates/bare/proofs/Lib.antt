pub mod QueueLemmas
pub mod KeptLemmas

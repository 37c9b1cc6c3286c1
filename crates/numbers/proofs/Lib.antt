pub mod NumberLemmas
pub mod SpelledLemmas
pub mod VarintLemmas
pub mod ChunkLemmas

pub mod Numbers
pub mod ChunkHeaders
pub mod Varint

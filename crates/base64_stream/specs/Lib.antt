pub mod Held
pub mod Encoder
pub mod Finish
pub mod Decoding
pub mod Decoder
